-- The context in which an operator's immediates are printed, as the definitions express it.
use Rattle.std.specs.Prelude.{ℕ, List, Option, Some}
use Rattle.wasmprinter_spec.specs.Types.{FuncType}
use Rattle.wasmprinter_spec.specs.Row.{Space, Local, Shape}
use Rattle.wasmprinter_spec.specs.Names.{Names, subsection_of}
use Rattle.wasmprinter_spec.specs.Names.Section.{local_subsection}
use Rattle.wasmprinter_spec.specs.Labels.{Label, labels_outside, labels_inside}
use Rattle.wasmprinter_spec.specs.Operator.{Immediates, Catch}
use Rattle.wasmprinter_spec.specs.Piece.{Piece}
use Rattle.wasmprinter_spec.specs.Layout.Operators.{Setting, immediate_pieces, catch_pieces, catches_pieces}
use Rattle.wasmprinter_spec.specs.Table.{role_of}
use Rattle.wasmprinter_flat.specs.OpenLabels.LabelState.{names_of, own_label}
use Rattle.wasmprinter_flat.specs.Settings.{setting_view}
use Rattle.wasmprinter_flat.specs.declared.immediate_context.Context.{Context}

-- The identifiers of the module.
abbrev pub names_in : {S : Type 0} → Context S → Names
names_in c = names_of c.labels.now

-- The setting of the definitions, with the module's identifiers.
abbrev pub setting_in : {S : Type 0} → (S → ℕ → Option FuncType) → Context S → Setting
setting_in signature_at c = setting_view signature_at c.setting.now (names_in c)

-- The labels that the operator may refer to.
abbrev pub labels_around : {S : Type 0} → Context S → List Label
labels_around c = labels_outside (role_of c.opcode) c.labels.now.labels

-- The labels further in than these.
abbrev pub labels_within : {S : Type 0} → Context S → List Label
labels_within c = labels_inside (role_of c.opcode) c.labels.now.labels

-- The label of the block that the operator opens, if it opens one.
abbrev pub own_in : {S : Type 0} → Context S → Label
own_in c = own_label c.labels.now

-- The pieces of immediates, by their shape.
abbrev pub pieces_in : {S : Type 0} → (S → ℕ → Option FuncType) → Context S → Shape → Immediates → List Piece
pieces_in signature_at c shape i = immediate_pieces (setting_in signature_at c) (labels_within c) (labels_around c) (own_in c) shape i

-- The pieces of a catch clause.
abbrev pub catch_pieces_in : {S : Type 0} → (S → ℕ → Option FuncType) → Context S → Catch → List Piece
catch_pieces_in signature_at c clause = catch_pieces (setting_in signature_at c) (labels_within c) (labels_around c) clause

-- The pieces of catch clauses, with a space before each.
abbrev pub catches_pieces_in : {S : Type 0} → (S → ℕ → Option FuncType) → Context S → List Catch → List Piece
catches_pieces_in signature_at c clauses = catches_pieces (setting_in signature_at c) (labels_within c) (labels_around c) clauses

-- The name subsection for the items of an index space, including locals. Labels have none: their identifiers
-- follow another rule.
abbrev pub operand_subsection : Space → Option ℕ
operand_subsection Local = Some local_subsection
operand_subsection space = subsection_of space
