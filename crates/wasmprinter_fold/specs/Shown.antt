-- The text of a node before the nodes that it holds, and the layout of nodes in terms of it.
use Rattle.std.specs.Prelude.{◌≡◌, ℕ, ◌+◌, ◌-◌, ◌&&◌, List, [], ◌∷◌, ◌++◌, length, take, drop, Bool, true, false, Option, Some, None, option_map, IsUtf8}
use Rattle.std.specs.Option.{is_none}
use Rattle.wasmprinter_spec.specs.Call.{Call, text_of}
use Rattle.wasmprinter_spec.specs.Options.{defaults}
use Rattle.wasmprinter_spec.specs.Piece.{Piece, Break, Word, OpenPlain, CloseParen, HintAnnotation, text}
use Rattle.wasmprinter_spec.specs.Layout.Operators.{Form, before_word}
use Rattle.wasmprinter_spec.specs.Layout.Folded.{head_place, head_hint, head_calls, text_in_color, has_line_comment}
use Rattle.wasmprinter_spec.specs.Folding.Tree.{Head, NodesOf, Nil, Snoc, is_nil}
use Rattle.wasmprinter_fold.specs.declared.nodes.NodeText.{NodeText}
use Rattle.wasmprinter_fold.specs.Heads.{AllNodes}

-- The place of a node, whether its branch is hinted as taken, its text, and whether that contains two consecutive
-- semicolons, which may begin a line comment.
pub record ShownNode : Type 0 where
  pub place : ℕ
  pub hint : Option Bool
  pub text : List ℕ
  pub comment : Bool

-- The text of a node, given its place, its hint, whether texts contain escape sequences, and the calls of its
-- text.
abbrev pub shown_of_calls : ℕ → Option Bool → Bool → List Call → ShownNode
shown_of_calls place hint color cs =
    record { place = place; hint = hint; text = text_in_color color cs; comment = has_line_comment (text_of cs) }

-- The text of a node with this head of the definitions.
abbrev pub shown_head : Bool → Head → ShownNode
shown_head color h = shown_of_calls (head_place h) (option_map (λ x. x.value.taken) (head_hint h)) color (head_calls defaults h)

-- The text of a node with this head of the program, taken from the buffer of texts.
abbrev pub shown_of_head : List ℕ → NodeText → ShownNode
shown_of_head buffer l =
    record { place = l.place; hint = l.hint; text = take (l.stop - l.start) (drop l.start buffer); comment = l.comment }

-- ---- The positions of the texts

-- The text of a head is in the buffer, between whole characters.
pub record IsIn (buffer : List ℕ) (l : NodeText) : Type 0 where
  pub before : List ℕ
  pub text : List ℕ
  pub after : List ℕ
  pub parts : buffer ≡ before ++ (text ++ after)
  pub starts : length before ≡ l.start
  pub stops : l.start + length text ≡ l.stop
  pub is_text : IsUtf8 text
  pub is_rest : IsUtf8 after

-- The text of each node's head is in the buffer, between whole characters.
abbrev pub AreIn : List ℕ → NodesOf NodeText → Type 0
AreIn buffer f = AllNodes (IsIn buffer) f

-- ---- The layout

-- The pieces of a hint, which comes directly before its node, with the same line break or space before it and the
-- same place.
abbrev pub shown_hint : Form → Bool → ℕ → ℕ → Option Bool → List Piece
shown_hint form first place nesting None = []
shown_hint form first place nesting (Some taken) = before_word form first place nesting ++ Word (text defaults (HintAnnotation taken)) ∷ []

-- The closing parenthesis of a node must not be part of a line comment: if a node holds no nodes (the first argument)
-- and its text has two consecutive semicolons (the second), a line break follows the text.
abbrev pub comment_break : Bool → Bool → ℕ → ℕ → List Piece
comment_break true true place nesting = Break (Some place) nesting ∷ []
comment_break _ _ place nesting = []

-- The pieces of a node before the nodes that it holds: its hint, if it has one, the line break or space before it, its
-- parenthesis and text. `leads` says whether the node is the first of its line, `leaf` whether it holds no nodes.
abbrev pub node_front : Form → Bool → Bool → ℕ → ShownNode → List Piece
node_front form leads leaf nesting s =
    shown_hint form leads s.place nesting s.hint
    ++ (before_word form (leads && is_none s.hint) s.place nesting ++ (OpenPlain s.text ∷ comment_break leaf s.comment s.place nesting))

-- The pieces of a row of nodes at a nesting depth, each around the nodes that it holds, which are one level deeper.
-- `first` says whether the row is the first of its line: then, in one line, nothing comes before its first node.
unfoldable pub row_pieces : Form → Bool → ℕ → NodesOf ShownNode → List Piece
row_pieces form first nesting Nil = []
row_pieces form first nesting (Snoc before s results held) =
    row_pieces form first nesting before
    ++ (node_front form (first && is_nil before) (is_nil held) nesting s ++ (row_pieces form false (nesting + 1) held ++ (CloseParen ∷ [])))
