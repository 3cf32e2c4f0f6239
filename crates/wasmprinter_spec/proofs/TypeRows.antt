-- Worked rows of types in the binary format (sections 5.3 and 5.5 of the standard): what single bytes encode, and
-- which type indices are declared.
use Rattle.std.specs.Prelude.{◌≡◌, ℕ, zero, suc, List, [], ◌∷◌, ◌++◌, Bool, true, false, cond, not, is_some, map, replicate, Option, Some, None, refl}
use Rattle.std.proofs.Common.{arith}
use Rattle.wasmprinter_spec.specs.Grammar.{Grammar, input, Placed}
use Rattle.wasmprinter_spec.specs.Sized.{alone}
use Rattle.wasmprinter_spec.specs.Types.{Exn, Array, Struct, I31, Eq, Any, Extern, Func, NoAny, NoExtern, NoFunc, NoExn, Index, ref_type, ValType, I32, I64, F32, F64, V128, Ref, Val, I8, I16, field_type, ArrayComposite, StructComposite, SubType, sub_type, final_type, all_types, signature_at}
use Rattle.wasmprinter_spec.specs.Placed.{TypeGroup, type_group}
use Rattle.wasmprinter_spec.specs.Binary.ValTypes.{heap_type, reference_type, val_type, begins_val_type}
use Rattle.wasmprinter_spec.specs.Instructions.{block_type}
use Rattle.wasmprinter_spec.specs.Binary.Types.{storage_type, field, subtype, type_section}
use Rattle.wasmprinter_spec.specs.Module.{Module}
use Rattle.wasmprinter_spec.specs.Indexed.{IsIndexed}
use Rattle.wasmprinter_spec.proofs.Samples.{func, bare, empty, nothing}

-- The value that exactly these bytes encode
abbrev spelled_by : {A : Type 0} → Grammar A → List ℕ → Option A
spelled_by g bytes = (alone g).parse (input 0 bytes)

-- ---- heap types and reference types

abstract_heaps : map (λ b. spelled_by heap_type (b ∷ [])) (0x69 ∷ 0x6a ∷ 0x6b ∷ 0x6c ∷ 0x6d ∷ 0x6e ∷ 0x6f ∷ 0x70 ∷ 0x71 ∷ 0x72 ∷ 0x73 ∷ 0x74 ∷ [])
    ≡ map (λ h. Some h) (Exn ∷ Array ∷ Struct ∷ I31 ∷ Eq ∷ Any ∷ Extern ∷ Func ∷ NoAny ∷ NoExtern ∷ NoFunc ∷ NoExn ∷ [])
abstract_heaps = refl

-- Indices in one byte, in two bytes, in the longest encoding, and the greatest index
heap_indices : map (spelled_by heap_type) ((0x00 ∷ []) ∷ (0x3f ∷ []) ∷ (0xe9 ∷ 0x00 ∷ []) ∷ (0x85 ∷ 0x80 ∷ 0x80 ∷ 0x80 ∷ 0x00 ∷ []) ∷ (0xff ∷ 0xff ∷ 0xff ∷ 0xff ∷ 0x0f ∷ []) ∷ [])
    ≡ map (λ n. Some (Index n)) (0 ∷ 63 ∷ 105 ∷ 5 ∷ 4294967295 ∷ [])
heap_indices = refl

-- Negative numbers, also in several bytes; a number of more than 33 bits; no byte; more than one number
no_heaps : map (spelled_by heap_type) ((0x40 ∷ []) ∷ (0x68 ∷ []) ∷ (0x75 ∷ []) ∷ (0x7f ∷ []) ∷ (0xf0 ∷ 0x7f ∷ []) ∷ (0xff ∷ 0xff ∷ 0xff ∷ 0xff ∷ 0x7f ∷ []) ∷ (0x80 ∷ 0x80 ∷ 0x80 ∷ 0x80 ∷ 0x10 ∷ []) ∷ [] ∷ (0x80 ∷ []) ∷ (0x70 ∷ 0x70 ∷ []) ∷ [])
    ≡ replicate 10 None
no_heaps = refl

references : map (spelled_by reference_type) ((0x64 ∷ 0x70 ∷ []) ∷ (0x63 ∷ 0x70 ∷ []) ∷ (0x70 ∷ []) ∷ (0x63 ∷ 0x00 ∷ []) ∷ (0x64 ∷ 0x80 ∷ 0x01 ∷ []) ∷ (0x6c ∷ []) ∷ [])
    ≡ map (λ r. Some r) (ref_type false Func ∷ ref_type true Func ∷ ref_type true Func ∷ ref_type true (Index 0) ∷ ref_type false (Index 128) ∷ ref_type true I31 ∷ [])
references = refl

no_references : map (spelled_by reference_type) ((0x64 ∷ []) ∷ (0x63 ∷ []) ∷ (0x00 ∷ []) ∷ (0x64 ∷ 0x64 ∷ 0x70 ∷ []) ∷ (0x64 ∷ 0x7f ∷ []) ∷ (0x62 ∷ 0x70 ∷ []) ∷ (0x7f ∷ []) ∷ [])
    ≡ replicate 7 None
no_references = refl

-- ---- value types

value_types : map (spelled_by val_type) ((0x7f ∷ []) ∷ (0x7e ∷ []) ∷ (0x7d ∷ []) ∷ (0x7c ∷ []) ∷ (0x7b ∷ []) ∷ (0x69 ∷ []) ∷ (0x63 ∷ 0x01 ∷ []) ∷ [])
    ≡ map (λ t. Some t) (I32 ∷ I64 ∷ F32 ∷ F64 ∷ V128 ∷ Ref (ref_type true Exn) ∷ Ref (ref_type true (Index 1)) ∷ [])
value_types = refl

no_value_types : map (spelled_by val_type) ([] ∷ (0x40 ∷ []) ∷ (0x7a ∷ []) ∷ (0x78 ∷ []) ∷ (0x77 ∷ []) ∷ (0x60 ∷ []) ∷ (0x00 ∷ []) ∷ (0xff ∷ 0x7f ∷ []) ∷ (0x7f ∷ 0x7f ∷ []) ∷ [])
    ≡ replicate 9 None
no_value_types = refl

-- The numbers below `n` that pass a test
abbrev passing : (ℕ → Bool) → ℕ → List ℕ
passing test zero = []
passing test (suc n) = passing test n ++ cond (test n) (n ∷ []) []

first_bytes : passing begins_val_type 256
    ≡ 0x63 ∷ 0x64 ∷ 0x69 ∷ 0x6a ∷ 0x6b ∷ 0x6c ∷ 0x6d ∷ 0x6e ∷ 0x6f ∷ 0x70 ∷ 0x71 ∷ 0x72 ∷ 0x73 ∷ 0x74 ∷ 0x7b ∷ 0x7c ∷ 0x7d ∷ 0x7e ∷ 0x7f ∷ []
first_bytes = refl

-- `begins_val_type` is right about each byte: with some continuation, each of the listed bytes begins a value
-- type, and no other byte does with any.
begun : map (λ b. is_some (val_type.parse (input 0 (b ∷ 0x00 ∷ [])))) (passing begins_val_type 256) ≡ replicate 19 true
begun = refl

not_begun : (p : ℕ) (bs : List ℕ) → map (λ b. val_type.parse (input p (b ∷ bs))) (passing (λ b. not (begins_val_type b)) 256) ≡ replicate 237 None
not_begun p bs = refl

-- The bytes that are a block type by themselves: indices, 40, and the value types except 63 and 64
one_byte_block_types : passing (λ b. is_some (spelled_by block_type (b ∷ []))) 256
    ≡ passing (λ b. true) 0x41 ++ 0x69 ∷ 0x6a ∷ 0x6b ∷ 0x6c ∷ 0x6d ∷ 0x6e ∷ 0x6f ∷ 0x70 ∷ 0x71 ∷ 0x72 ∷ 0x73 ∷ 0x74 ∷ 0x7b ∷ 0x7c ∷ 0x7d ∷ 0x7e ∷ 0x7f ∷ []
one_byte_block_types = refl

-- ---- fields

storage_types : map (spelled_by storage_type) ((0x78 ∷ []) ∷ (0x77 ∷ []) ∷ (0x7b ∷ []) ∷ (0x6f ∷ []) ∷ (0x64 ∷ 0x02 ∷ []) ∷ [])
    ≡ map (λ s. Some s) (I8 ∷ I16 ∷ Val V128 ∷ Val (Ref (ref_type true Extern)) ∷ Val (Ref (ref_type false (Index 2))) ∷ [])
storage_types = refl

fields : map (spelled_by field) ((0x78 ∷ 0x00 ∷ []) ∷ (0x7f ∷ 0x01 ∷ []) ∷ (0x78 ∷ 0x02 ∷ []) ∷ (0x78 ∷ []) ∷ (0x76 ∷ 0x00 ∷ []) ∷ [])
    ≡ Some (field_type false I8) ∷ Some (field_type true (Val I32)) ∷ None ∷ None ∷ None ∷ []
fields = refl

-- ---- subtypes

subtypes : map (spelled_by subtype) (
    (0x60 ∷ 0x00 ∷ 0x00 ∷ [])
    ∷ (0x60 ∷ 0x01 ∷ 0x7f ∷ 0x02 ∷ 0x70 ∷ 0x7e ∷ [])
    ∷ (0x5f ∷ 0x02 ∷ 0x78 ∷ 0x01 ∷ 0x7f ∷ 0x00 ∷ [])
    ∷ (0x5f ∷ 0x00 ∷ [])
    ∷ (0x50 ∷ 0x00 ∷ 0x5e ∷ 0x7f ∷ 0x00 ∷ [])
    ∷ (0x4f ∷ 0x01 ∷ 0x00 ∷ 0x60 ∷ 0x00 ∷ 0x00 ∷ [])
    ∷ (0x4f ∷ 0x00 ∷ 0x60 ∷ 0x00 ∷ 0x00 ∷ [])
    ∷ (0x50 ∷ 0x02 ∷ 0x07 ∷ 0x80 ∷ 0x01 ∷ 0x60 ∷ 0x00 ∷ 0x00 ∷ [])
    ∷ [])
    ≡ map (λ t. Some t) (
    final_type nothing
    ∷ func (I32 ∷ []) (Ref (ref_type true Func) ∷ I64 ∷ [])
    ∷ final_type (StructComposite (field_type true I8 ∷ field_type false (Val I32) ∷ []))
    ∷ final_type (StructComposite [])
    ∷ sub_type false [] (ArrayComposite (field_type false (Val I32)))
    ∷ sub_type true (0 ∷ []) nothing
    ∷ sub_type true [] nothing
    ∷ sub_type false (7 ∷ 128 ∷ []) nothing
    ∷ [])
subtypes = refl

-- A subtype within a subtype, a group within a subtype, a value type, and a missing field
no_subtypes : map (spelled_by subtype) (
    (0x50 ∷ 0x00 ∷ 0x50 ∷ 0x00 ∷ 0x60 ∷ 0x00 ∷ 0x00 ∷ [])
    ∷ (0x50 ∷ 0x00 ∷ 0x4e ∷ 0x00 ∷ [])
    ∷ (0x4e ∷ 0x00 ∷ [])
    ∷ (0x7f ∷ [])
    ∷ (0x5e ∷ [])
    ∷ (0x5d ∷ 0x7f ∷ 0x00 ∷ [])
    ∷ [])
    ≡ replicate 6 None
no_subtypes = refl

-- ---- groups

abbrev groups_at : ℕ → List ℕ → Option (List (Placed TypeGroup))
groups_at place bytes = type_section.parse (input place bytes)

abbrev written : ℕ → List SubType → Placed TypeGroup
written place ts = record { place = place; value = type_group true ts }

group_of_one : groups_at 0xa (0x01 ∷ 0x4e ∷ 0x01 ∷ 0x60 ∷ 0x00 ∷ 0x00 ∷ []) ≡ Some (written 0xb (final_type nothing ∷ []) ∷ [])
group_of_one = refl

-- A type outside groups, a group of no types, a group of two types, and another type outside groups
several_groups : groups_at 0xa (0x04 ∷ 0x60 ∷ 0x00 ∷ 0x00 ∷ 0x4e ∷ 0x00 ∷ 0x4e ∷ 0x02 ∷ 0x50 ∷ 0x00 ∷ 0x60 ∷ 0x00 ∷ 0x00 ∷ 0x5e ∷ 0x77 ∷ 0x01 ∷ 0x5f ∷ 0x00 ∷ [])
    ≡ Some (
    bare 0xb (final_type nothing)
    ∷ written 0xe []
    ∷ written 0x10 (sub_type false [] nothing ∷ final_type (ArrayComposite (field_type true I16)) ∷ [])
    ∷ bare 0x1a (final_type (StructComposite []))
    ∷ [])
several_groups = refl

-- A group within a group, truncated groups, and a byte that begins neither a group nor a type
no_groups : map (groups_at 0xa) ((0x01 ∷ 0x4e ∷ 0x01 ∷ 0x4e ∷ 0x00 ∷ []) ∷ (0x01 ∷ 0x4e ∷ []) ∷ (0x01 ∷ 0x4e ∷ 0x02 ∷ 0x5f ∷ 0x00 ∷ []) ∷ (0x01 ∷ 0x4d ∷ 0x00 ∷ []) ∷ []) ≡ None ∷ None ∷ None ∷ None ∷ []
no_groups = refl

-- ---- type indices

-- Type indices run across all groups.
abbrev two_groups : List (List SubType)
two_groups = (final_type (StructComposite []) ∷ []) ∷ [] ∷ (func (I32 ∷ []) [] ∷ sub_type false [] nothing ∷ []) ∷ []

signatures : map (signature_at (all_types two_groups)) (0 ∷ 1 ∷ 2 ∷ 3 ∷ [])
    ≡ None ∷ Some (record { params = I32 ∷ []; results = [] }) ∷ Some (record { params = []; results = [] }) ∷ None ∷ []
signatures = refl

-- A module with one group, and with a function that has a local
abbrev of_types : List SubType → Module
of_types ts = record empty { types = ts ∷ [] }

abbrev using : List SubType → ℕ → ValType → Module
using ts i local = record (of_types ts) { functions = record { type_index = i; locals = local ∷ []; operators = [] } ∷ [] }

abbrev to : ℕ → ValType
to i = Ref (ref_type true (Index i))

-- Types that name each other, and themselves
mutual_types : IsIndexed (using (sub_type false [] (StructComposite (field_type true (Val (to 1)) ∷ [])) ∷ sub_type true (0 ∷ []) (ArrayComposite (field_type false (Val (to 1)))) ∷ func (to 2 ∷ []) (to 0 ∷ []) ∷ []) 2 (to 2))
mutual_types = record {
  types = (
    (
      record { supertypes = tt; composite = (omega arith, tt) },
      (
        record { supertypes = (omega arith, tt); composite = omega arith },
        (record { supertypes = tt; composite = record { params = (omega arith, tt); results = (omega arith, tt) } }, tt),
      ),
    ),
    tt,
  );
  functions = (record { type_index = (_, refl); locals = (omega arith, tt); operators = tt }, tt);
  imports = tt;
  tables = tt;
  tags = tt;
  globals = tt;
  exports = tt;
  start = tt;
  elements = tt;
  data_segments = tt;
}

undeclared_supertype : IsIndexed (of_types (sub_type false (1 ∷ []) nothing ∷ [])) → ⊥
undeclared_supertype i = let ((type, _), _) = i.types in omega (arith, type.supertypes.0)

undeclared_field : IsIndexed (of_types (final_type (StructComposite (field_type false I8 ∷ field_type false (Val (to 1)) ∷ [])) ∷ [])) → ⊥
undeclared_field i =
    let ((type, _), _) = i.types in
    let (first, (second, _)) = type.composite in
    omega (arith, second)

undeclared_item : IsIndexed (of_types (final_type (ArrayComposite (field_type false (Val (to 1)))) ∷ [])) → ⊥
undeclared_item i = let ((type, _), _) = i.types in omega (arith, type.composite)

undeclared_parameter : IsIndexed (of_types (func (to 1 ∷ []) [] ∷ [])) → ⊥
undeclared_parameter i = let ((type, _), _) = i.types in omega (arith, type.composite.params.0)

undeclared_result : IsIndexed (of_types (func [] (I32 ∷ to 1 ∷ []) ∷ [])) → ⊥
undeclared_result i =
    let ((type, _), _) = i.types in
    let (first, (second, _)) = type.composite.results in
    omega (arith, second)

undeclared_local : IsIndexed (using (func [] [] ∷ []) 0 (to 1)) → ⊥
undeclared_local i = omega (arith, i.functions.0.locals.0)

-- A function whose type is a structure type
structure_as_function : IsIndexed (using (final_type (StructComposite []) ∷ []) 0 I32) → ⊥
structure_as_function i = absurd (let e = i.functions.0.type_index.1 in cc)
