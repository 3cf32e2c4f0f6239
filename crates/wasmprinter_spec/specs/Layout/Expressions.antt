-- The layout of expressions in fields: in one line, unless operators are folded and the text of a node without
-- children contains `;;`, as a name may: then its line ends there. If a field has an expression in a group of its
-- own, a single operator is alone in the group (section 6.6 of the standard: `(instr)` is an abbreviation of
-- `(offset instr)` and of `(item instr)`).
use Rattle.std.specs.Prelude.{ℕ, ◌+◌, List, [], ◌∷◌, ◌++◌, Option, Some, None}
use Rattle.wasmprinter_spec.specs.Grammar.{Placed}
use Rattle.wasmprinter_spec.specs.Types.{signature_at}
use Rattle.wasmprinter_spec.specs.Operator.{Operator}
use Rattle.wasmprinter_spec.specs.Piece.{Piece, OneSpace, OpenUnnamed, Word}
use Rattle.wasmprinter_spec.specs.Layout.Groups.{close, has_break}
use Rattle.wasmprinter_spec.specs.Layout.Operators.{InLine, Setting, expression_pieces}
use Rattle.wasmprinter_spec.specs.Layout.Declarations.{Scope, Folding}
use Rattle.wasmprinter_spec.specs.Layout.Folded.{folded_list}

-- The setting of an expression in a field, at this nesting depth.
abbrev pub in_line : Scope → ℕ → Setting
in_line s nesting =
    record { form = InLine; signature = signature_at s.types; nesting = nesting; names = s.names; function = s.function; body = 0 }

-- An expression, flat or folded, outside functions.
unfoldable pub constant_by : Option Folding → Setting → List (Placed Operator) → List Piece
constant_by None s os = expression_pieces s os
constant_by (Some f) s os = folded_list f (Some 0) s [] os

-- An expression of a field: folded if the scope has a folding, otherwise flat. The number is the nesting depth of the
-- expression, which matters if a line begins in it.
unfoldable pub constant_pieces : Scope → ℕ → List (Placed Operator) → List Piece
constant_pieces s nesting os = constant_by s.folding (in_line s nesting) os

-- The word, unless there is exactly one operator.
abbrev pub word_unless_one : List ℕ → List (Placed Operator) → List Piece
word_unless_one w (o ∷ []) = []
word_unless_one w os = Word w ∷ (OneSpace ∷ [])

-- An expression. A single operator is never folded.
abbrev pub grouped_pieces : Scope → ℕ → List (Placed Operator) → List Piece
grouped_pieces s nesting (o ∷ []) = expression_pieces (in_line s nesting) (o ∷ [])
grouped_pieces s nesting os = constant_pieces s nesting os

-- The content of the group of an expression, which has the word w unless it is a single operator.
abbrev pub group_parts : Scope → ℕ → List ℕ → List (Placed Operator) → List Piece
group_parts s nesting w os = word_unless_one w os ++ grouped_pieces s nesting os

-- An expression in a group at this nesting depth: after the word w or, if it is a single operator, alone and flat. The
-- group closes on a line of its own if a line begins in it.
unfoldable pub constant_group : Scope → ℕ → List ℕ → List (Placed Operator) → List Piece
constant_group s nesting w os =
    let ps : List Piece = group_parts s (nesting + 1) w os in OpenUnnamed ∷ (ps ++ close None nesting (has_break ps))
