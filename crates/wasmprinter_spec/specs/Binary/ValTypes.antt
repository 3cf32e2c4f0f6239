-- How bytes encode heap types, reference types and value types (section 5.3 of the standard).
use Rattle.std.specs.Prelude.{ℕ, ℤ, pos, negsuc, List, [], ◌∷◌, Bool, true, false, ◌||◌, ◌==◌, is_some, cond, Option, Some, None}
use Rattle.wasmprinter_spec.specs.Grammar.{Grammar, byte, try_map, map_value, succeed, fail, choose}
use Rattle.wasmprinter_spec.specs.FirstByte.{after_first_byte, by_first_byte}
use Rattle.wasmprinter_spec.specs.Leb.{signed}
use Rattle.wasmprinter_spec.specs.Types.{HeapType, Exn, Array, Struct, I31, Eq, Any, Extern, Func, NoAny, NoExtern, NoFunc, NoExn, Index, RefType, ref_type, ValType, I32, I64, F32, F64, V128, Ref}

-- The value that the rows give for this byte, or None if no row has it.
abbrev pub lookup : {A : Type 0} → List (ℕ × A) → ℕ → Option A
lookup [] b = None
lookup (row ∷ rows) b = cond (b == row.0) (Some row.1) (lookup rows b)

-- The number type or the vector type of the byte, or `None` for any other byte.
abbrev pub number_type_of : ℕ → Option ValType
number_type_of b = lookup ((0x7f, I32) ∷ (0x7e, I64) ∷ (0x7d, F32) ∷ (0x7c, F64) ∷ (0x7b, V128) ∷ []) b

-- The abstract heap type of the byte, or `None` for any other byte.
abbrev pub abstract_heap_of : ℕ → Option HeapType
abstract_heap_of b =
    lookup (
    (0x69, Exn) ∷ (0x6a, Array) ∷ (0x6b, Struct) ∷ (0x6c, I31) ∷ (0x6d, Eq) ∷ (0x6e, Any)
    ∷ (0x6f, Extern) ∷ (0x70, Func) ∷ (0x71, NoAny) ∷ (0x72, NoExtern) ∷ (0x73, NoFunc) ∷ (0x74, NoExn) ∷ []) b

-- The number, if it is not negative.
abbrev pub non_negative : ℤ → Option ℕ
non_negative (pos n) = Some n
non_negative (negsuc n) = None

-- A type index, encoded as a signed integer of 33 bits that is not negative. As signed integers, the bytes of
-- types are negative, so that the two are distinct.
abbrev pub signed_index : Grammar ℕ
signed_index = try_map non_negative (signed 33)

-- The value, encoded by the empty byte string. If there is no value, no bytes encode anything.
abbrev pub value_if_any : {A : Type 0} → Option A → Grammar A
value_if_any None = fail
value_if_any (Some a) = succeed a

-- A heap type, by its first byte: the byte of an abstract heap type, or a type index.
abbrev pub heap_type_by : ℕ → Grammar HeapType
heap_type_by b = choose (is_some (abstract_heap_of b)) (try_map abstract_heap_of byte) (map_value Index signed_index)

-- A heap type (section 5.3, "Heap Types").
abbrev pub heap_type : Grammar HeapType
heap_type = by_first_byte heap_type_by

-- A reference type after its first byte: 64 and a heap type; 63 and a heap type, nullable; or an abstract heap
-- type, nullable.
abbrev pub ref_type_after : ℕ → Grammar RefType
ref_type_after b =
    choose (b == 0x64) (map_value (ref_type false) heap_type)
    (choose (b == 0x63) (map_value (ref_type true) heap_type)
    (map_value (ref_type true) (value_if_any (abstract_heap_of b))))

-- A reference type (section 5.3, "Reference Types").
abbrev pub reference_type : Grammar RefType
reference_type = after_first_byte ref_type_after

-- A value type after its first byte: a number type, the vector type, or a reference type.
abbrev pub val_type_after : ℕ → Grammar ValType
val_type_after b = choose (is_some (number_type_of b)) (value_if_any (number_type_of b)) (map_value Ref (ref_type_after b))

-- A value type (section 5.3, "Value Types").
abbrev pub val_type : Grammar ValType
val_type = after_first_byte val_type_after

-- A value type begins with this byte.
abbrev pub begins_val_type : ℕ → Bool
begins_val_type b = is_some (number_type_of b) || ((b == 0x64) || ((b == 0x63) || is_some (abstract_heap_of b)))
