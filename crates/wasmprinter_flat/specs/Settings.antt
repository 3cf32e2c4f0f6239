-- The settings of the program and of the layout.
use Rattle.std.specs.Prelude.{ℕ, List, ◌∷◌, Option}
use Rattle.wasmprinter_spec.specs.Types.{FuncType}
use Rattle.wasmprinter_spec.specs.Names.{Names}
use Rattle.wasmprinter_spec.specs.Operator.{Operator}
use Rattle.wasmprinter_spec.specs.Piece.{Piece, Word}
use Rattle.wasmprinter_spec.specs.Row.{Role}
use Rattle.wasmprinter_spec.specs.Table.{word_of, role_of, shape_of}
use Rattle.wasmprinter_spec.specs.Labels.{Label, labels_outside, labels_inside}
use Rattle.wasmprinter_spec.specs.Layout.Operators as layout
use Rattle.wasmprinter_flat.specs.OpenLabels.LabelState.{LabelState, names_of, own_label}
use Rattle.wasmprinter_flat.specs.declared.operators.Form.{Form}
use Rattle.wasmprinter_flat.specs.declared.operators.Form.TheVariants as forms
use Rattle.wasmprinter_flat.specs.declared.operators.Setting.{Setting}

-- The form of the definitions.
abbrev pub form_view : Form → layout.Form
form_view forms.OverLines = layout.OverLines
form_view forms.InLine = layout.InLine

-- The setting of the definitions, by its parts.
abbrev pub setting_of : Form → (ℕ → Option FuncType) → ℕ → Names → ℕ → ℕ → layout.Setting
setting_of form signature nesting names function body =
    record { form = form_view form; signature = signature; nesting = nesting; names = names; function = function; body = body }

-- The setting of the definitions, if the types have these signatures and the module has these identifiers.
abbrev pub setting_view : {S : Type 0} → (S → ℕ → Option FuncType) → Setting S → Names → layout.Setting
setting_view signature_at s names = setting_of s.form (signature_at s.types.now) s.nesting names s.function s.body

-- The setting of the definitions, with the identifiers that the state of the labels has.
abbrev pub setting_with_names : {S : Type 0} → (S → ℕ → Option FuncType) → Setting S → LabelState → layout.Setting
setting_with_names signature_at s labels = setting_view signature_at s (names_of labels)

-- The pieces of an operator's word and immediates. `xs` are the labels that are open before it, and `own` is that
-- of the block that it opens, if it opens one.
abbrev pub word_pieces : layout.Setting → Label → List Label → Operator → List Piece
word_pieces s own xs o =
    let role : Role = role_of o.opcode in
    Word (word_of o.opcode) ∷ layout.pieces_by s (labels_inside role xs) (labels_outside role xs) own (shape_of o.opcode) o.immediates

-- The pieces of an operator's word and immediates, in the program's state of the labels before it. A block that it
-- opens has the label `own_label`.
abbrev pub word_pieces_with_names : {S : Type 0} → (S → ℕ → Option FuncType) → Setting S → LabelState → Operator → List Piece
word_pieces_with_names signature_at s labels o = word_pieces (setting_with_names signature_at s labels) (own_label labels) labels.labels o
