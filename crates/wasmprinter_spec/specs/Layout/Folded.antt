-- Operators as they are printed when they are folded: each in parentheses with its operands, over several lines or
-- in one. (Section 6.5 of the standard, "Folded Instructions"; which operators are folded, and the lines, are this
-- printer's own.)
use Rattle.std.specs.Prelude.{◌≡◌, ℕ, ◌+◌, ◌-◌, ◌==◌, ◌&&◌, ◌||◌, List, [], ◌∷◌, ◌++◌, Bool, true, false, cond, codes, length, Option, Some, None, option_map}
use Rattle.std.specs.Option.{is_none}
use Rattle.wasmprinter_spec.specs.Grammar.{Placed}
use Rattle.wasmprinter_spec.specs.Operator.{Operator}
use Rattle.wasmprinter_spec.specs.Row.{Role}
use Rattle.wasmprinter_spec.specs.Table.{word_of, role_of, shape_of}
use Rattle.wasmprinter_spec.specs.Nesting.{Nests, Sequence}
use Rattle.wasmprinter_spec.specs.Instructions.{roles}
use Rattle.wasmprinter_spec.specs.Labels as labels
use Rattle.wasmprinter_spec.specs.Labels.{labels_after, count_after, labels_outside, labels_inside}
use Rattle.wasmprinter_spec.specs.Customs.Hints.{Hint, next_hint, hints_after}
use Rattle.wasmprinter_spec.specs.Call.{Call, Text, text_of}
use Rattle.wasmprinter_spec.specs.Colored.{colored_text}
use Rattle.wasmprinter_spec.specs.Options.{Options, defaults}
use Rattle.wasmprinter_spec.specs.Piece.{Piece, Break, Word, OpenPlain, CloseParen, HintAnnotation, text, all_calls}
use Rattle.wasmprinter_spec.specs.Layout.Declarations.{Folding}
use Rattle.wasmprinter_spec.specs.Layout.Operators.{Form, Setting, pieces_by, before_word}
use Rattle.wasmprinter_spec.specs.Folding.Arities.{Signatures, OperandCounts, counts_of, label_of_block}
use Rattle.wasmprinter_spec.specs.Folding.Code.{Item, nested_code_of, AreWithoutTry}
use Rattle.wasmprinter_spec.specs.Folding.Tree.{Head, Of, ThenCase, ElseCase, Nodes, Nil, Snoc, is_nil, tree}

-- ---- The operators of a list, each with its pieces

-- An operator, with its own label if it opens a block. The labels `xs` are open, and `ls` are the numbers of
-- values that branches to them take.
abbrev pub item : Setting → Signatures → Option (Placed Hint) → labels.Label → List labels.Label → List (Option ℕ) → Placed Operator → Item
item s signatures hint own xs ls o =
    let role : Role = role_of o.value.opcode in
    let counts : OperandCounts = counts_of signatures ls o.value in
    record {
      operator = o;
      pieces =
          Word (word_of o.value.opcode)
          ∷ pieces_by s (labels_inside role xs) (labels_outside role xs) own (shape_of o.value.opcode) o.value.immediates;
      hint = hint;
      operands = counts.operands;
      results = counts.results;
    }

-- A list of operators. n blocks were opened before it, the labels `xs` are open, `ls` are the numbers of values
-- that branches to them take, and the hints `hs` are not yet printed.
unfoldable pub items : Setting → Signatures → List (Placed Hint) → ℕ → List labels.Label → List (Option ℕ) → List (Placed Operator) →
    List Item
items s signatures hs n xs ls [] = []
items s signatures hs n xs ls (o ∷ os) =
    let role : Role = role_of o.value.opcode in
    let own : labels.Label = s.names.labels s.function n (length xs) in
    let offset : ℕ = o.place - s.body in
    item s signatures (next_hint offset hs) own xs ls o
    ∷ items s signatures (hints_after offset hs) (count_after role n) (labels_after role own xs)
    (labels_after role (label_of_block signatures o.value) ls) os

-- ---- Nodes

-- The place of a node: that of the operator at its head; for `then`, that of the `if`.
abbrev pub head_place : Head → ℕ
head_place (Of x) = x.operator.place
head_place (ThenCase x) = x.operator.place
head_place (ElseCase x) = x.operator.place

-- The calls for the text after the parenthesis of a node.
abbrev pub head_calls : Options → Head → List Call
head_calls o (Of x) = all_calls o x.pieces
head_calls o (ThenCase x) = Text (codes "then") ∷ []
head_calls o (ElseCase x) = Text (codes "else") ∷ []

-- The text of these calls, with the ANSI escape sequences of their styles or without.
abbrev pub text_in_color : Bool → List Call → List ℕ
text_in_color true cs = colored_text cs
text_in_color false cs = text_of cs

-- The text after the parenthesis of a node, without styles.
abbrev pub head_text : Options → Head → List ℕ
head_text o h = text_of (head_calls o h)

-- The hint of a node is that of its own operator.
abbrev pub head_hint : Head → Option (Placed Hint)
head_hint (Of x) = x.hint
head_hint (ThenCase x) = None
head_hint (ElseCase x) = None

-- The text has two adjacent semicolons.
abbrev pub has_line_comment : List ℕ → Bool
has_line_comment [] = false
has_line_comment (a ∷ []) = false
has_line_comment (a ∷ b ∷ cs) = ((a == 59) && (b == 59)) || has_line_comment (b ∷ cs)

-- The closing parenthesis of a node must not be inside a line comment: if nothing else comes between, as the first
-- argument says, a new line begins. The other arguments are the text of the node, its place and its nesting depth.
abbrev pub comment_end : Bool → List ℕ → ℕ → ℕ → List Piece
comment_end true s place nesting = cond (has_line_comment s) (Break (Some place) nesting ∷ []) []
comment_end false s place nesting = []

-- The hint before the node of its operator. It begins as a node would, with the place of the node.
abbrev pub node_hint : Options → Form → Bool → ℕ → ℕ → Option (Placed Hint) → List Piece
node_hint o form first place nesting None = []
node_hint o form first place nesting (Some h) = before_word form first place nesting ++ Word (text o (HintAnnotation h.value.taken)) ∷ []

-- Nodes in a row, at this nesting depth. `color` says whether their texts have ANSI escape sequences. `first` says
-- that they are the first on their line. The nodes inside a node are one level deeper.
unfoldable pub node_pieces : Options → Bool → Form → Bool → ℕ → Nodes → List Piece
node_pieces o color form first nesting Nil = []
node_pieces o color form first nesting (Snoc before head results held) =
    let place : ℕ = head_place head in
    let leads : Bool = first && is_nil before in
    node_pieces o color form first nesting before
    ++ node_hint o form leads place nesting (head_hint head)
    ++ before_word form (leads && is_none (head_hint head)) place nesting
    ++ OpenPlain (text_in_color color (head_calls o head))
    ∷ (comment_end (is_nil held) (head_text o head) place nesting ++ node_pieces o color form false (nesting + 1) held ++ (CloseParen ∷ []))

-- A list of operators, with no label open. None if the operators are not well nested or if there is legacy
-- exception handling among them, which is not folded.
unfoldable pub folded_pieces : Options → Bool → Setting → Signatures → List (Placed Hint) → List (Placed Operator) → Option (List Piece)
folded_pieces o color s signatures hs os =
    option_map (λ code. node_pieces o color s.form true s.nesting (tree code)) (nested_code_of (items s signatures hs 0 [] [] os))

-- The pieces, or nothing if there is no tree: then the module is refused.
abbrev pub if_folded : Option (List Piece) → List Piece
if_folded None = []
if_folded (Some ps) = ps

-- A list of operators with the hints `hs`, folded as `f` says, in a function with `own` results; no pieces if it has no
-- tree. (The words and immediates of an operator are in one line, which is the same for all options.)
abbrev pub folded_list : Folding → Option ℕ → Setting → List (Placed Hint) → List (Placed Operator) → List Piece
folded_list f own s hs os = if_folded (folded_pieces defaults f.color s (f.signatures own) hs os)

-- ---- Laws

-- A list is folded, with colors in its text or without, if it is well nested and has none of `try`, `catch`,
-- `catch_all` and `delegate`.
abbrev pub NestedListsAreFolded : Setting → Signatures → Type 0
NestedListsAreFolded s signatures =
    (o : Options) (color : Bool) (hs : List (Placed Hint)) (os : List (Placed Operator))
    → Nests Sequence (roles os) → AreWithoutTry (roles os) → (ps : List Piece) × (folded_pieces o color s signatures hs os ≡ Some ps)

-- A list that is folded is well nested and has none of `try`, `catch`, `catch_all` and `delegate`.
abbrev pub FoldedListsAreNested : Setting → Signatures → Type 0
FoldedListsAreNested s signatures =
    (o : Options) (color : Bool) (hs : List (Placed Hint)) (os : List (Placed Operator)) (ps : List Piece)
    → folded_pieces o color s signatures hs os ≡ Some ps → Nests Sequence (roles os) × AreWithoutTry (roles os)
