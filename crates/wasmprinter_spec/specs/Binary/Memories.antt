-- How bytes encode memory types (section 5.3 of the standard, "Memory Types", with the page sizes that a proposal
-- to the standard adds), and the memory section (section 5.5, "Memory Section"): a list of memory types.
use Rattle.std.specs.Prelude.{ℕ, nat_lt, Bool, true, false, List, Option, Some, None, if◌then◌else◌}
use Rattle.wasmprinter_spec.specs.Grammar.{Grammar, Remainder, seq, try_map, map_value, succeed, fail, choose, Placed, value_with_place}
use Rattle.wasmprinter_spec.specs.FirstByte.{after_first_byte}
use Rattle.wasmprinter_spec.specs.Sized.{alone}
use Rattle.wasmprinter_spec.specs.Name.{u32, vec}
use Rattle.wasmprinter_spec.specs.Types.{MemoryType, memory_type_of}
use Rattle.wasmprinter_spec.specs.Binary.Limits.{has_bit, limits}

-- The exponent of a page size, which must be below 64.
abbrev pub page_exponent : ℕ → Option ℕ
page_exponent n = if nat_lt n 64 then Some n else None

-- The exponent of the page size, if the argument says that it follows.
abbrev pub page : Bool → Grammar (Option ℕ)
page true = map_value Some (try_map page_exponent u32)
page false = succeed None

-- A memory type after the flags: bit 0 says that there is a maximum size, bit 1 that the memory is shared, bit 2
-- that addresses have 64 bits, bit 3 that the exponent of the page size follows.
abbrev pub memory_type_after : ℕ → Grammar MemoryType
memory_type_after flags =
    choose (nat_lt flags 16)
    (map_value (λ (limits, page). memory_type_of (has_bit 2 flags) (has_bit 1 flags) limits page)
    (seq (limits (has_bit 0 flags)) (λ _. page (has_bit 3 flags)))) fail

-- A memory type: the flags, the limits, and the exponent of the page size if it follows.
abbrev pub memory_type : Grammar MemoryType
memory_type = after_first_byte memory_type_after

-- The content of a memory section.
abbrev pub memory_section : Remainder (List (Placed MemoryType))
memory_section = alone (vec (value_with_place memory_type))
