-- The identifiers that a layout looks up, and the pieces of fields with their identifiers.
use Rattle.std.specs.Prelude.{ℕ, List, Option}
use Rattle.wasmprinter_spec.specs.Types.{FieldType}
use Rattle.wasmprinter_spec.specs.Labels.{Named}
use Rattle.wasmprinter_spec.specs.Names.{Names, name_in}
use Rattle.wasmprinter_spec.specs.Piece.{Piece}
use Rattle.wasmprinter_spec.specs.Layout.Groups.{numbered_pieces}
use Rattle.wasmprinter_spec.specs.Layout.Types.{struct_field_pieces}
use Rattle.wasmprinter_custom.specs.Spaces.{id_of, outer_of}
use Rattle.wasmprinter_custom.specs.Views.{name_at}
use Rattle.wasmprinter_custom.specs.declared.item_identifiers.Identifiers.{Identifiers}
use Rattle.wasmprinter_custom.specs.declared.index_space.Space.{Space}

-- The identifier of an item of an index space, if it has one, by its number. `outer` is the function of a local or
-- label or the type of a field, and is ignored for other items. It computes to a lookup in `names_of_identifiers`.
abbrev pub item_of : Identifiers → Space → ℕ → ℕ → Option Named
item_of x space outer number = name_in x.synthesizes (name_at x.names.now) (id_of space) (outer_of space outer) number

-- The pieces of a field of the structure type `owner`, by the number of the field, with a space before it.
abbrev pub owned_field : Names → ℕ → ℕ → FieldType → List Piece
owned_field names owner number f = struct_field_pieces names (names.fields owner number) f

-- The pieces of all fields of the structure type `owner`.
abbrev pub owned_fields : Names → ℕ → List FieldType → List Piece
owned_fields names owner fs = numbered_pieces (λ k f. owned_field names owner k f) 0 fs
