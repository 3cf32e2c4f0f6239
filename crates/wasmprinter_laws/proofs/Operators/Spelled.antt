-- Operators that bytes encode are listed, in range and well nested.
use Rattle.std.proofs.Common.{◌≡◌, ℕ, ◌<◌, ◌≤◌, ◌+◌, ◌^◌, ◌==◌, ltb, true, List, [], ◌∷◌, length, Option, Some, None, refl, ap, subst, arith}
use Rattle.std.proofs.lemmas.Bool.{ltb-true}
use Rattle.std.proofs.lemmas.List.{length-append}
use Rattle.std.proofs.Math.Nat.{pow-suc}
use Rattle.std.specs.List.{AllByRecursion}
use Rattle.wasmprinter_spec.specs.Grammar.{byte, try_map, map_value, Placed, value_with_place}
use Rattle.wasmprinter_spec.specs.Repeated.{AreItems}
use Rattle.wasmprinter_spec.specs.Sized.{take_bytes}
use Rattle.wasmprinter_spec.specs.FirstByte.{only}
use Rattle.wasmprinter_spec.specs.Binary.ValTypes.{begins_val_type}
use Rattle.wasmprinter_spec.specs.Operator.{Catch, One, OneRef, Immediates, Bytes, Operator}
use Rattle.wasmprinter_spec.specs.Row.{Row, Shape, NoneShape, FenceShape, BlockShape, TryTableShape, IndexShape, DefaultIndexShape, PairShape, FieldShape, CountShape, CallShape, SegmentShape, CopyShape, BranchTableShape, SelectShape, HeapShape, RefShape, CastShape, MemoryShape, MemoryLaneShape, LaneShape, I32Shape, I64Shape, F32Shape, F64Shape, VectorShape, LanesShape}
use Rattle.wasmprinter_spec.specs.Table.{by_opcode}
use Rattle.wasmprinter_spec.specs.Nesting.{Nests, Sequence}
use Rattle.wasmprinter_spec.specs.Instructions.{opcode_grammar, block_type, tag_and_label, catch_by, catch, u64, mem_arg_by, mem_arg, indices, cast_nulls, cast, little_endian, float_bits, immediates, immediates_of_row, operator, end_byte, Closed, expression, operator_takes, roles}
use Rattle.wasmprinter_spec.specs.Module.{without_places}
use Rattle.wasmprinter_spec.specs.Binary.{AreBytes}
use Rattle.wasmprinter_spec.specs.Shapes.{has_shape, has_row_shape}
use Rattle.wasmprinter_laws.specs.Listed.{IsU32, IsByte, IsBlockInRange, IsCatchInRange, IsMemArgInRange, AreInRange, IsListed}
use Rattle.wasmprinter_laws.proofs.AllSpelled.{AllSpelled, split_bytes, items_have, Spelled-any, Spelled-seq, Spelled-map_value, Spelled-succeed, Spelled-fail, Spelled-choose, Spelled-choose_by, AllSpelled-byte, AllSpelled-take_bytes, Spelled-after_first_byte, Spelled-by_first_byte, Spelled-value_with_place}
use Rattle.wasmprinter_laws.proofs.LebRange.{AllSpelled-unsigned, AllSpelled-signed}
use Rattle.wasmprinter_laws.proofs.Vectors.{AllSpelled-u32, Spelled-vec}
use Rattle.wasmprinter_laws.proofs.Types.Ranges.{AllSpelled-signed_index, AllSpelled-heap_type, AllSpelled-val_type}

-- Immediates of this shape, in range
abbrev HasShape : Shape → Immediates → Type 0
HasShape s i = (has_shape s i ≡ true) × AreInRange i

abbrev HasRowShape : Option Row → Immediates → Type 0
HasRowShape r i = (has_row_shape r i ≡ true) × AreInRange i

-- ---- immediates

-- A block type is in range.
AllSpelled-block_type : AllSpelled block_type IsBlockInRange
AllSpelled-block_type = Spelled-by_first_byte (λ b.
    Spelled-choose (b == 0x40) (Spelled-map_value (Spelled-any byte) (λ x h. tt))
    (Spelled-choose (begins_val_type b) (Spelled-map_value AllSpelled-val_type (λ t h. h)) (Spelled-map_value AllSpelled-signed_index (λ n h. h))))

-- A catch clause with a tag and a label is in range.
AllSpelled-tag_and_label : (c : ℕ → ℕ → Catch) → ((t l : ℕ) → IsU32 t → IsU32 l → IsCatchInRange (c t l)) → AllSpelled (tag_and_label c) IsCatchInRange
AllSpelled-tag_and_label c keeps = Spelled-map_value (Spelled-seq AllSpelled-u32 (λ _. AllSpelled-u32)) (λ x h. keeps x.0 x.1 h.0 h.1)

AllSpelled-catch_by : (k : ℕ) → AllSpelled (catch_by k) IsCatchInRange
AllSpelled-catch_by k =
    Spelled-choose (k == 0) (AllSpelled-tag_and_label One (λ t l h i. (h, i)))
    (Spelled-choose (k == 1) (AllSpelled-tag_and_label OneRef (λ t l h i. (h, i)))
    (Spelled-choose (k == 2) (Spelled-map_value AllSpelled-u32 (λ l h. h))
    (Spelled-choose (k == 3) (Spelled-map_value AllSpelled-u32 (λ l h. h)) Spelled-fail)))

AllSpelled-catch : AllSpelled catch IsCatchInRange
AllSpelled-catch = Spelled-after_first_byte AllSpelled-catch_by

-- A memory operand is in range. Its first number says whether the index of a memory follows.
AllSpelled-u64 : AllSpelled u64 (λ n. n < 2 ^ 64)
AllSpelled-u64 = AllSpelled-unsigned 64

AllSpelled-mem_arg : AllSpelled mem_arg IsMemArgInRange
AllSpelled-mem_arg =
    Spelled-map_value (Spelled-seq AllSpelled-u32 (λ n. by n)) (λ x h. h.1)
  where
    by : (n : ℕ) → AllSpelled (mem_arg_by n) IsMemArgInRange
    by n =
        Spelled-choose_by (ltb n 64)
        (λ small. Spelled-map_value AllSpelled-u64 (λ offset h. record { exponent = ltb-true n 64 small; memory = omega arith; offset = h }))
        (λ _. Spelled-choose_by (ltb n 128)
        (λ small. Spelled-map_value (Spelled-seq AllSpelled-u32 (λ _. AllSpelled-u64))
        (λ x h. record { exponent = omega (arith, ltb-true n 128 small); memory = h.0; offset = h.1 }))
        (λ _. Spelled-fail))

-- Two indices, or an index and a number, are in range.
AllSpelled-indices : AllSpelled indices (HasShape FieldShape)
AllSpelled-indices = Spelled-map_value (Spelled-seq AllSpelled-u32 (λ _. AllSpelled-u32)) (λ x h. (refl, h))

-- A cast is in range: a label and two heap types.
AllSpelled-cast : AllSpelled cast (HasShape CastShape)
AllSpelled-cast =
    Spelled-map_value (Spelled-seq (Spelled-any (try_map cast_nulls byte))
    (λ _. Spelled-seq AllSpelled-u32 (λ _. Spelled-seq AllSpelled-heap_type (λ _. AllSpelled-heap_type))))
    (λ x (_, (label, (from, to))). (refl, (label, from, to)))

-- The number that n bytes encode, the lowest byte first, is below 256 ^ n.
little_endian-below : (bs : List ℕ) → AllByRecursion IsByte bs → little_endian bs < 256 ^ length bs
little_endian-below [] h = omega arith
little_endian-below (b ∷ bs) h = omega (arith, h.0, little_endian-below bs h.1, pow-suc 256 (length bs))

AllSpelled-float_bits : (n : ℕ) → AllSpelled (float_bits n) (λ bits. bits < 256 ^ n)
AllSpelled-float_bits n = Spelled-map_value (AllSpelled-take_bytes n) (λ bs h. subst (λ k. little_endian bs < 256 ^ k) h.0 (little_endian-below bs h.1))

AllSpelled-sixteen : AllSpelled (map_value Bytes (take_bytes 16)) (HasShape VectorShape)
AllSpelled-sixteen = Spelled-map_value (AllSpelled-take_bytes 16) (λ bs h. (refl, record { count = h.0; each = h.1 }))

-- Immediates of each shape have that shape and are in range.
AllSpelled-immediates : (s : Shape) → AllSpelled (immediates s) (HasShape s)
AllSpelled-immediates NoneShape = Spelled-succeed (refl, tt)
AllSpelled-immediates FenceShape = Spelled-map_value (Spelled-any (only 0x00)) (λ _ h. (refl, tt))
AllSpelled-immediates BlockShape = Spelled-map_value AllSpelled-block_type (λ t h. (refl, h))
AllSpelled-immediates TryTableShape =
    Spelled-map_value (Spelled-seq AllSpelled-block_type (λ _. Spelled-vec AllSpelled-catch)) (λ x h. (refl, (h.0, h.1.each)))
AllSpelled-immediates (IndexShape space) = Spelled-map_value AllSpelled-u32 (λ n h. (refl, h))
AllSpelled-immediates (DefaultIndexShape space) = Spelled-map_value AllSpelled-u32 (λ n h. (refl, h))
AllSpelled-immediates (PairShape first second) = AllSpelled-indices
AllSpelled-immediates FieldShape = AllSpelled-indices
AllSpelled-immediates CountShape = AllSpelled-indices
AllSpelled-immediates CallShape = AllSpelled-indices
AllSpelled-immediates (SegmentShape segments space) = AllSpelled-indices
AllSpelled-immediates (CopyShape space) = AllSpelled-indices
AllSpelled-immediates BranchTableShape =
    Spelled-map_value (Spelled-seq (Spelled-vec AllSpelled-u32) (λ _. AllSpelled-u32)) (λ x h. (refl, (h.0.each, h.1)))
AllSpelled-immediates SelectShape = Spelled-map_value (Spelled-vec AllSpelled-val_type) (λ ts h. (refl, h.each))
AllSpelled-immediates HeapShape = Spelled-map_value AllSpelled-heap_type (λ t h. (refl, h))
AllSpelled-immediates (RefShape null) = Spelled-map_value AllSpelled-heap_type (λ t h. (refl, h))
AllSpelled-immediates CastShape = AllSpelled-cast
AllSpelled-immediates (MemoryShape natural) = Spelled-map_value AllSpelled-mem_arg (λ m h. (refl, h))
AllSpelled-immediates (MemoryLaneShape natural) = Spelled-map_value (Spelled-seq AllSpelled-mem_arg (λ _. AllSpelled-byte)) (λ x h. (refl, h))
AllSpelled-immediates LaneShape = Spelled-map_value AllSpelled-byte (λ k h. (refl, h))
AllSpelled-immediates I32Shape = Spelled-map_value (AllSpelled-signed 32) (λ z h. (refl, h))
AllSpelled-immediates I64Shape = Spelled-map_value (AllSpelled-signed 64) (λ z h. (refl, h))
AllSpelled-immediates F32Shape = Spelled-map_value (AllSpelled-float_bits 4) (λ bits h. (refl, h))
AllSpelled-immediates F64Shape = Spelled-map_value (AllSpelled-float_bits 8) (λ bits h. (refl, h))
AllSpelled-immediates VectorShape = AllSpelled-sixteen
AllSpelled-immediates LanesShape = AllSpelled-sixteen

-- The immediates of an opcode that the table lists are in range; another opcode has none.
AllSpelled-immediates_of_row : (r : Option Row) → AllSpelled (immediates_of_row r) (HasRowShape r)
AllSpelled-immediates_of_row None = Spelled-fail
AllSpelled-immediates_of_row (Some r) = AllSpelled-immediates r.shape

-- ---- operators

-- An operator is listed with its immediates.
AllSpelled-operator : AllSpelled operator IsListed
AllSpelled-operator =
    Spelled-map_value (Spelled-seq (Spelled-any opcode_grammar) (λ o. AllSpelled-immediates_of_row (by_opcode o)))
    (λ x (_, (shape, range)). record { shape = shape; range = range })

listed_values : (os : List (Placed Operator)) → AllByRecursion (λ o. IsListed o.value) os → AllByRecursion IsListed (without_places os)
listed_values [] h = tt
listed_values (o ∷ os) h = (h.0, listed_values os h.1)

-- Operators that are listed and well nested
pub record AreNested (x : Closed (Placed Operator)) : Type 0 where
  pub listed : AllByRecursion IsListed (without_places x.items)
  pub nested : Nests Sequence (roles x.items)

-- The operators of an expression are listed and well nested.
pub AllSpelled-expression : AllSpelled expression AreNested
AllSpelled-expression = record {
  has = λ p text x bytes (t, closed, all_spelled, nested, end_place).
      let parts = split_bytes t (end_byte ∷ []) (subst AreBytes closed bytes) in
      record {
        listed = listed_values x.items (items_have (Spelled-value_with_place AllSpelled-operator) x.items p t parts.0 all_spelled);
        nested = nested;
      };
}

-- ---- each operator takes a byte

operators_take : (os : List (Placed Operator)) (p : ℕ) (text : List ℕ) → AreItems (value_with_place operator) p text os → length os ≤ length text
operators_take [] p text s = omega arith
operators_take (o ∷ os) p text (t, u, joined, spelled, all_spelled) =
    let first : 0 < length t = operator_takes p t o spelled in
    let rest : length os ≤ length u = operators_take os (p + length t) u all_spelled in
    omega (arith, first, rest, ap length joined, length-append t u)

pub expression_takes : (p : ℕ) (text : List ℕ) (x : Closed (Placed Operator)) → expression.spells p text x → length x.items ≤ length text
expression_takes p text x (t, closed, all_spelled, nested, end_place) =
    let items : length x.items ≤ length t = operators_take x.items p t all_spelled in
    omega (arith, items, ap length closed, length-append t (end_byte ∷ []))
