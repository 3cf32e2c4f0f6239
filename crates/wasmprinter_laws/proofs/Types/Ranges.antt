-- Types that bytes encode are in range.
use Rattle.std.proofs.Common.{◌≡◌, ℕ, zero, suc, ℤ, pos, negsuc, ◌<◌, ◌^◌, Bool, true, false, List, [], ◌∷◌, length, Some, arith, is_some, ◌==◌}
use Rattle.std.specs.List.{AllByRecursion}
use Rattle.std.proofs.lemmas.Int.{ints}
use Rattle.wasmprinter_spec.specs.Grammar.{some_is, byte, Placed}
use Rattle.wasmprinter_spec.specs.Types.{HeapType, Index, ValType, Ref, StorageType, Val, CompositeType, FuncComposite, SubType, all_types, func_type_of, signature_at}
use Rattle.wasmprinter_spec.specs.Placed.{TypeGroup}
use Rattle.wasmprinter_spec.specs.Module.{groups_of}
use Rattle.wasmprinter_spec.specs.Binary.ValTypes.{number_type_of, abstract_heap_of, non_negative, signed_index, heap_type, ref_type_after, reference_type, val_type_after, val_type}
use Rattle.wasmprinter_spec.specs.Binary.Types.{packed_type_of, storage_type, mutability, field, signature, composite_after, sub_type_parts, sub_type_after, group}
use Rattle.wasmprinter_spec.proofs.Each.{all_both}
use Rattle.wasmprinter_laws.specs.Listed.{FitsSigned, IsU32, IsSignatureInRange}
use Rattle.wasmprinter_laws.proofs.AllSpelled.{AllSpelled, Spelled-any, Spelled-seq, Spelled-try_map, Spelled-map_value, Spelled-fail, Spelled-choose, Spelled-value_if_any, Spelled-after_first_byte, Spelled-by_first_byte}
use Rattle.wasmprinter_laws.proofs.LebRange.{AllSpelled-signed}
use Rattle.wasmprinter_laws.proofs.Vectors.{AllSpelled-u32, Spelled-vec}
use Rattle.wasmprinter_laws.proofs.Types.Ranged.{IsRangedHeap, IsRangedVal, IsRangedStorage, IsRangedField, IsRangedFunc, IsRangedComposite, IsRangedSub, IsFewComposite, IsFewSub, IsRangedGroup}

-- ---- value types

-- No byte encodes an index as an abstract heap type.
abstract_ranged : (b : ℕ) (h : HeapType) → abstract_heap_of b ≡ Some h → IsRangedHeap h
abstract_ranged b (Index n) e = absurd (grind arith)
abstract_ranged b _ e = tt

number_ranged : (b : ℕ) (t : ValType) → number_type_of b ≡ Some t → IsRangedVal t
number_ranged b (Ref r) e = absurd (grind arith)
number_ranged b _ e = tt

index_ranged : (z : ℤ) (n : ℕ) → non_negative z ≡ Some n → FitsSigned 32 z → n < 2 ^ 32
index_ranged (pos m) n e h = let same : m ≡ n = some_is m n e in omega (arith, ints, h.1)
index_ranged (negsuc m) n e h = absurd cc

pub AllSpelled-signed_index : AllSpelled signed_index IsU32
AllSpelled-signed_index = Spelled-try_map (AllSpelled-signed 33) index_ranged

pub AllSpelled-heap_type : AllSpelled heap_type IsRangedHeap
AllSpelled-heap_type =
    Spelled-by_first_byte (λ b. Spelled-choose (is_some (abstract_heap_of b))
    (Spelled-try_map (Spelled-any byte) (λ c h e _. abstract_ranged c h e))
    (Spelled-map_value AllSpelled-signed_index (λ n h. h)))

AllSpelled-ref_type_after : (b : ℕ) → AllSpelled (ref_type_after b) (λ r. IsRangedHeap r.heap)
AllSpelled-ref_type_after b =
    Spelled-choose (b == 0x64) (Spelled-map_value AllSpelled-heap_type (λ t h. h))
    (Spelled-choose (b == 0x63) (Spelled-map_value AllSpelled-heap_type (λ t h. h))
    (Spelled-map_value (Spelled-value_if_any (abstract_heap_of b) (abstract_ranged b)) (λ t h. h)))

pub AllSpelled-reference_type : AllSpelled reference_type (λ r. IsRangedHeap r.heap)
AllSpelled-reference_type = Spelled-after_first_byte AllSpelled-ref_type_after

AllSpelled-val_type_after : (b : ℕ) → AllSpelled (val_type_after b) IsRangedVal
AllSpelled-val_type_after b =
    Spelled-choose (is_some (number_type_of b)) (Spelled-value_if_any (number_type_of b) (number_ranged b))
    (Spelled-map_value (AllSpelled-ref_type_after b) (λ t h. h))

pub AllSpelled-val_type : AllSpelled val_type IsRangedVal
AllSpelled-val_type = Spelled-after_first_byte AllSpelled-val_type_after

-- ---- composite types

packed_ranged : (b : ℕ) (s : StorageType) → packed_type_of b ≡ Some s → IsRangedStorage s
packed_ranged b (Val t) e = absurd (grind arith)
packed_ranged b _ e = tt

AllSpelled-storage_type : AllSpelled storage_type IsRangedStorage
AllSpelled-storage_type =
    Spelled-after_first_byte (λ b. Spelled-choose (is_some (packed_type_of b)) (Spelled-value_if_any (packed_type_of b) (packed_ranged b))
    (Spelled-map_value (AllSpelled-val_type_after b) (λ t h. h)))

AllSpelled-field : AllSpelled field IsRangedField
AllSpelled-field = Spelled-map_value (Spelled-seq AllSpelled-storage_type (λ _. Spelled-any mutability)) (λ x h. h.0)

AllSpelled-signature : AllSpelled signature (λ t. IsRangedFunc t × (length t.params < 2 ^ 32))
AllSpelled-signature =
    Spelled-map_value (Spelled-seq (Spelled-vec AllSpelled-val_type) (λ _. Spelled-vec AllSpelled-val_type))
    (λ x h. (record { params = h.0.each; results = h.1.each }, h.0.count))

AllSpelled-composite_after : (b : ℕ) → AllSpelled (composite_after b) (λ c. IsRangedComposite c × IsFewComposite c)
AllSpelled-composite_after b =
    Spelled-choose (b == 0x5e) (Spelled-map_value AllSpelled-field (λ f h. (h, tt)))
    (Spelled-choose (b == 0x5f) (Spelled-map_value (Spelled-vec AllSpelled-field) (λ fs h. (h.each, h.count)))
    (Spelled-choose (b == 0x60) (Spelled-map_value AllSpelled-signature (λ t h. h)) Spelled-fail))

-- ---- subtypes and groups

AllSpelled-sub_type_parts : (final : Bool) → AllSpelled (sub_type_parts final) (λ t. IsRangedSub t × IsFewSub t)
AllSpelled-sub_type_parts final =
    Spelled-map_value (Spelled-seq (Spelled-vec AllSpelled-u32) (λ _. Spelled-after_first_byte AllSpelled-composite_after))
    (λ x (supertypes, (composite, few)). (record { supertypes = supertypes.each; composite = composite }, few))

AllSpelled-sub_type_after : (b : ℕ) → AllSpelled (sub_type_after b) (λ t. IsRangedSub t × IsFewSub t)
AllSpelled-sub_type_after b =
    Spelled-choose (b == 0x50) (AllSpelled-sub_type_parts false)
    (Spelled-choose (b == 0x4f) (AllSpelled-sub_type_parts true)
    (Spelled-map_value (AllSpelled-composite_after b) (λ c h. (record { supertypes = tt; composite = h.0 }, h.1))))

-- If both facts hold of each type, then each of them holds of all types.
each_ranged : (ts : List SubType) → AllByRecursion (λ t. IsRangedSub t × IsFewSub t) ts → AllByRecursion IsRangedSub ts × AllByRecursion IsFewSub ts
each_ranged [] h = (tt, tt)
each_ranged (t ∷ ts) ((ranged, few), others) = let rest = each_ranged ts others in ((ranged, rest.0), (few, rest.1))

pub AllSpelled-group : AllSpelled group IsRangedGroup
AllSpelled-group =
    Spelled-after_first_byte (λ b. Spelled-choose (b == 0x4e)
    (Spelled-map_value (Spelled-vec (Spelled-after_first_byte AllSpelled-sub_type_after))
    (λ ts h. let both = each_ranged ts h.each in record { count = h.count; each = both.0; few = both.1; single = tt }))
    (Spelled-map_value (AllSpelled-sub_type_after b) (λ t h. record { count = omega arith; each = (h.0, tt); few = (h.1, tt); single = tt })))

-- ---- the types of all groups

all_types_ranged : (gs : List (Placed TypeGroup)) → AllByRecursion (λ g. IsRangedGroup g.value) gs → AllByRecursion IsRangedSub (all_types (groups_of gs))
all_types_ranged [] h = tt
all_types_ranged (g ∷ gs) h = all_both IsRangedSub g.value.types (all_types (groups_of gs)) h.0.each (all_types_ranged gs h.1)

composite_signature : (c : CompositeType) → IsRangedComposite c → IsSignatureInRange (func_type_of c)
composite_signature (FuncComposite t) h = h
composite_signature _ h = tt

signature_ranged : (ts : List SubType) (i : ℕ) → AllByRecursion IsRangedSub ts → IsSignatureInRange (signature_at ts i)
signature_ranged [] i h = tt
signature_ranged (t ∷ ts) zero h = composite_signature t.composite h.0.composite
signature_ranged (t ∷ ts) (suc i) h = signature_ranged ts i h.1

-- The signature of the type with an index is in range.
pub own_signature_ranged : (gs : List (Placed TypeGroup)) (i : ℕ) → AllByRecursion (λ g. IsRangedGroup g.value) gs → IsSignatureInRange (signature_at (all_types (groups_of gs)) i)
own_signature_ranged gs i h = signature_ranged (all_types (groups_of gs)) i (all_types_ranged gs h)
