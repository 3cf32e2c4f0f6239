-- The import section (section 5.5 of the standard, "Import Section"): a list of imports, each with two names and
-- an external type.
use Rattle.std.specs.Prelude.{ℕ, List, ◌==◌}
use Rattle.wasmprinter_spec.specs.Grammar.{Grammar, Remainder, seq, map_value, fail, choose, Placed, value_with_place}
use Rattle.wasmprinter_spec.specs.FirstByte.{after_first_byte}
use Rattle.wasmprinter_spec.specs.Sized.{alone}
use Rattle.wasmprinter_spec.specs.Name.{name, u32, vec}
use Rattle.wasmprinter_spec.specs.Types.{ExternType, FuncExtern, TableExtern, MemoryExtern, GlobalExtern, TagExtern}
use Rattle.wasmprinter_spec.specs.Placed.{Import, import_of}
use Rattle.wasmprinter_spec.specs.Binary.Memories.{memory_type}
use Rattle.wasmprinter_spec.specs.Binary.Tables.{table_type}
use Rattle.wasmprinter_spec.specs.Binary.Globals.{global_type}
use Rattle.wasmprinter_spec.specs.Binary.Tags.{tag}

-- An external type after the byte of its kind (section 5.3, "External Types").
abbrev pub extern_type_after : ℕ → Grammar ExternType
extern_type_after kind =
    choose (kind == 0) (map_value FuncExtern u32)
    (choose (kind == 1) (map_value TableExtern table_type)
    (choose (kind == 2) (map_value MemoryExtern memory_type)
    (choose (kind == 3) (map_value GlobalExtern global_type)
    (choose (kind == 4) (map_value TagExtern tag) fail))))

-- An external type: the byte of its kind, and the type.
abbrev pub extern_type : Grammar ExternType
extern_type = after_first_byte extern_type_after

-- An import: the name of the module, the name of the item in it, and the external type.
abbrev pub import : Grammar Import
import = map_value (λ (source, (field, type)). import_of source field type) (seq name (λ _. seq name (λ _. extern_type)))

-- The content of an import section.
abbrev pub import_section : Remainder (List (Placed Import))
import_section = alone (vec (value_with_place import))
