-- How bytes encode table types (section 5.3 of the standard, "Table Types"), and the table section (section 5.5,
-- "Table Section"): a list of tables, with or without an initialiser.
use Rattle.std.specs.Prelude.{ℕ, List, Bool, ◌==◌, ◌||◌, Some, None}
use Rattle.wasmprinter_spec.specs.Grammar.{Grammar, Remainder, seq, map_value, fail, choose, Placed, value_with_place}
use Rattle.wasmprinter_spec.specs.FirstByte.{only, after_first_byte, by_first_byte}
use Rattle.wasmprinter_spec.specs.Sized.{alone}
use Rattle.wasmprinter_spec.specs.Name.{vec}
use Rattle.wasmprinter_spec.specs.Types.{Limits, TableType, table_type_of}
use Rattle.wasmprinter_spec.specs.Operator.{Operator}
use Rattle.wasmprinter_spec.specs.Placed.{Table, table_of}
use Rattle.wasmprinter_spec.specs.Instructions.{constant}
use Rattle.wasmprinter_spec.specs.Binary.ValTypes.{reference_type}
use Rattle.wasmprinter_spec.specs.Binary.Limits.{has_bit, limits}

-- The limits of a table after the flags: bit 0 says that there is a maximum size, bit 2 that indices have 64 bits.
abbrev pub table_limits_after : ℕ → Grammar (Bool × Limits)
table_limits_after flags =
    choose (flags == 0 || flags == 1 || flags == 4 || flags == 5) (map_value (λ l. (has_bit 2 flags, l)) (limits (has_bit 0 flags))) fail

-- A table type: the type of the elements, and limits.
abbrev pub table_type : Grammar TableType
table_type =
    map_value (λ (element, (wide, limits)). table_type_of wide limits element)
    (seq reference_type (λ _. after_first_byte table_limits_after))

-- A table, by its first byte: the bytes 40 00, a table type and an initialiser; or a table type alone.
abbrev pub table_by : ℕ → Grammar (Table (Placed Operator))
table_by b =
    choose (b == 0x40)
    (map_value (λ (_, (_, (type, init))). table_of type (Some init))
    (seq (only 0x40) (λ _. seq (only 0x00) (λ _. seq table_type (λ _. constant)))))
    (map_value (λ t. table_of t None) table_type)

-- A table, with or without an initialiser.
abbrev pub table : Grammar (Table (Placed Operator))
table = by_first_byte table_by

-- The content of a table section.
abbrev pub table_section : Remainder (List (Placed (Table (Placed Operator))))
table_section = alone (vec (value_with_place table))
