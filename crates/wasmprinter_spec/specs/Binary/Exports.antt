-- The export section (section 5.5 of the standard, "Export Section"): a list of exports.
use Rattle.std.specs.Prelude.{ℕ, List, [], ◌∷◌, Option}
use Rattle.wasmprinter_spec.specs.Grammar.{Grammar, Remainder, byte, seq, try_map, map_value, Placed, value_with_place}
use Rattle.wasmprinter_spec.specs.Sized.{alone}
use Rattle.wasmprinter_spec.specs.Name.{name, u32, vec}
use Rattle.wasmprinter_spec.specs.Types.{ExternKind, FuncKind, TableKind, MemoryKind, GlobalKind, TagKind}
use Rattle.wasmprinter_spec.specs.Binary.ValTypes.{lookup}
use Rattle.wasmprinter_spec.specs.Placed.{Export}

-- The kind of an exported item by its byte, or `None` for any other byte.
abbrev pub extern_kind_of : ℕ → Option ExternKind
extern_kind_of b = lookup ((0x00, FuncKind) ∷ (0x01, TableKind) ∷ (0x02, MemoryKind) ∷ (0x03, GlobalKind) ∷ (0x04, TagKind) ∷ []) b

-- The byte of a kind.
abbrev pub extern_kind : Grammar ExternKind
extern_kind = try_map extern_kind_of byte

-- An export: a name, a kind and an index.
abbrev pub export : Grammar Export
export =
    map_value (λ (name, (kind, index)). record { name = name; kind = kind; index = index }) (seq name (λ _. seq extern_kind (λ _. u32)))

-- The content of an export section.
abbrev pub export_section : Remainder (List (Placed Export))
export_section = alone (vec (value_with_place export))
