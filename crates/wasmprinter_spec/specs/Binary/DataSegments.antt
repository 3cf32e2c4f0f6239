-- The data section (section 5.5 of the standard, "Data Section"): a list of data segments; and the data count
-- section, which holds their number.
use Rattle.std.specs.Prelude.{ℕ, List, ◌==◌, Option, Some}
use Rattle.wasmprinter_spec.specs.Grammar.{Grammar, Remainder, seq, map_value, succeed, fail, choose, Placed, value_with_place}
use Rattle.wasmprinter_spec.specs.Sized.{take_bytes, alone}
use Rattle.wasmprinter_spec.specs.Name.{u32, vec}
use Rattle.wasmprinter_spec.specs.Operator.{Operator}
use Rattle.wasmprinter_spec.specs.Placed.{DataMode, PassiveData, ActiveData, Data, data_of}
use Rattle.wasmprinter_spec.specs.Instructions.{constant}

-- A length n, and then n bytes.
abbrev pub byte_vec : Grammar (List ℕ)
byte_vec = map_value (λ x. x.1) (seq u32 (λ n. take_bytes n))

-- The mode of a data segment after the flags: 0 is active in memory 0, 1 is passive, 2 is active in a memory whose
-- index follows.
abbrev pub data_mode : ℕ → Grammar (DataMode (Placed Operator))
data_mode flags =
    choose (flags == 0) (map_value (ActiveData 0) constant)
    (choose (flags == 1) (succeed PassiveData)
    (choose (flags == 2) (map_value (λ x. ActiveData x.0 x.1) (seq u32 (λ _. constant))) fail))

-- A data segment: the flags, the memory and the offset that they call for, and the bytes.
abbrev pub segment : Grammar (Data (Placed Operator))
segment = map_value (λ (_, (mode, bytes)). data_of mode bytes) (seq u32 (λ flags. seq (data_mode flags) (λ _. byte_vec)))

-- The content of a data section.
abbrev pub data_section : Remainder (List (Placed (Data (Placed Operator))))
data_section = alone (vec (value_with_place segment))

-- The content of a data count section (section 5.5, "Data Count Section").
abbrev pub data_count_section : Remainder (Option ℕ)
data_count_section = alone (map_value Some u32)
