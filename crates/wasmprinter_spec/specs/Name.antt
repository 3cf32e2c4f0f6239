-- Names in the binary format (section 5.2 of the standard, "Names"): a length, and that many bytes of UTF-8.
use Rattle.std.specs.Prelude.{ℕ, List, Option, Some, None, if◌then◌else◌}
use Rattle.std.specs.Str.{is_utf8}
use Rattle.wasmprinter_spec.specs.Grammar.{Grammar, seq, try_map, map_value}
use Rattle.wasmprinter_spec.specs.Repeated.{vec_of}
use Rattle.wasmprinter_spec.specs.Sized.{take_bytes}
use Rattle.wasmprinter_spec.specs.Leb.{unsigned}

-- An unsigned integer of 32 bits (the standard's `u32`).
abbrev pub u32 : Grammar ℕ
u32 = unsigned 32

-- A list: a count n, and then n items (section 5.1, "Lists").
abbrev pub vec : {A : Type 0} → Grammar A → Grammar (List A)
vec g = vec_of u32 g

-- The bytes, if they are UTF-8.
abbrev pub checked_text : List ℕ → Option (List ℕ)
checked_text bytes = if is_utf8 bytes then Some bytes else None

-- A name: a length n, and then n bytes, which must be UTF-8. The value is these n bytes.
abbrev pub name : Grammar (List ℕ)
name = try_map checked_text (map_value (λ x. x.1) (seq u32 (λ n. take_bytes n)))
