-- The lengths of the shortest encodings of operators (section 5.4 of the standard).
use Rattle.std.specs.Prelude.{◌≡◌, ℕ, List, [], ◌∷◌, ◌+◌, Bool, true, false, ◌&&◌, ◌==◌, cond, Option, Some, None, refl}
use Rattle.std.proofs.Common.{sym, ap, ◌∙◌, arith, inl, inr, eqb}
use Rattle.std.proofs.lemmas.Bool.{and_parts, eqb-true}
use Rattle.wasmprinter_spec.specs.Grammar.{some_is}
use Rattle.wasmprinter_spec.specs.Choices.{cond_cases}
use Rattle.wasmprinter_spec.specs.Name.{u32}
use Rattle.wasmprinter_spec.specs.Types.{HeapType, ref_type}
use Rattle.wasmprinter_spec.specs.Binary.ValTypes.{val_type}
use Rattle.wasmprinter_spec.specs.Operator.{Opcode, BlockType, Catch, MemArg, Immediates, NoImmediates, Block, TryTable, Index, Indices, BranchTable, Types, Heap, Cast, Memory, MemoryLane, Lane, I32, I64, F32, F64, Bytes, Operator}
use Rattle.wasmprinter_spec.specs.Row.{Row, Shape, NoneShape, FenceShape, BlockShape, TryTableShape, IndexShape, DefaultIndexShape, PairShape, FieldShape, CountShape, CallShape, SegmentShape, CopyShape, BranchTableShape, SelectShape, HeapShape, RefShape, CastShape, MemoryShape, MemoryLaneShape, LaneShape, I32Shape, I64Shape, F32Shape, F64Shape, VectorShape, LanesShape}
use Rattle.wasmprinter_spec.specs.Table.{table, first, has_opcode, by_opcode}
use Rattle.wasmprinter_spec.specs.Instructions.{indices, cast_nulls, cast, catch, little_endian, float_bits, immediates, immediates_of_row, operator}
use Rattle.wasmprinter_hidden.specs.Lengths.{immediates_len, reserved_len, operator_len}
use Rattle.wasmprinter_hidden.proofs.Combinators.{Spelling, Measured, same, map_measured, byte_measured, byte_map_measured, with_len, fixed_measured, then_measured, then_by_measured, list_measured, succeed_measured, fail_measured, only_measured}
use Rattle.wasmprinter_hidden.proofs.Names.{u32_measured, signed_measured}
use Rattle.wasmprinter_hidden.proofs.ValTypes.{heap_measured, val_measured}
use Rattle.wasmprinter_hidden.proofs.Operands.{opcode_measured, block_measured, catch_measured, mem_arg_measured}

-- ---- Immediates

-- The shape is that of `atomic.fence`, whose reserved byte is no immediate.
abbrev pub is_fence : Shape → Bool
is_fence FenceShape = true
is_fence _ = false

-- The length of immediates of this shape, with the reserved byte.
abbrev shape_len : Shape → Immediates → ℕ
shape_len s i = cond (is_fence s) 1 0 + immediates_len i

-- Two indices.
indices_measured : Measured same indices.spells immediates_len
indices_measured =
    map_measured (λ (x : ℕ × ℕ). Indices x.0 x.1) (λ x. refl) (λ x y e. ap (λ (z : ℕ × ℕ). Indices z.0 z.1) e) (then_measured u32_measured u32_measured)

-- The cast of these types.
abbrev cast_of_parts : (Bool × Bool) × (ℕ × (HeapType × HeapType)) → Immediates
cast_of_parts x = Cast x.1.0 (ref_type x.0.0 x.1.1.0) (ref_type x.0.1 x.1.1.1)

cast_measured : Measured same cast.spells immediates_len
cast_measured =
    map_measured cast_of_parts (λ x. omega arith) (λ x y e. ap cast_of_parts e)
    (then_measured (byte_map_measured cast_nulls) (then_measured u32_measured (then_measured heap_measured heap_measured)))

-- The bits of a float.
float_measured : (n : ℕ) → Measured same (float_bits n).spells (λ bits. n)
float_measured n = map_measured little_endian (λ b. refl) (λ x y e. ap little_endian e) (fixed_measured n)

-- Immediates without a reserved byte.
plain_measured : {S : Spelling Immediates} → Measured same S immediates_len → Measured same S (λ i. 0 + immediates_len i)
plain_measured m = with_len (λ i. 0 + immediates_len i) (λ i. omega arith) m

-- A line for each shape.
immediates_measured : (s : Shape) → Measured same (immediates s).spells (shape_len s)
immediates_measured NoneShape = succeed_measured NoImmediates refl
immediates_measured FenceShape = map_measured (λ b. NoImmediates) (λ b. refl) (λ x y e. refl) (only_measured 0x00)
immediates_measured BlockShape = map_measured Block (λ t. omega arith) (λ x y e. ap Block e) block_measured
immediates_measured TryTableShape =
    map_measured (λ (x : BlockType × List Catch). TryTable x.0 x.1) (λ x. omega arith)
    (λ x y e. ap (λ (z : BlockType × List Catch). TryTable z.0 z.1) e) (then_measured block_measured (list_measured catch catch_measured))
immediates_measured (IndexShape space) = map_measured Index (λ n. omega arith) (λ x y e. ap Index e) u32_measured
immediates_measured (DefaultIndexShape space) = map_measured Index (λ n. omega arith) (λ x y e. ap Index e) u32_measured
immediates_measured (PairShape x y) = plain_measured indices_measured
immediates_measured FieldShape = plain_measured indices_measured
immediates_measured CountShape = plain_measured indices_measured
immediates_measured CallShape = plain_measured indices_measured
immediates_measured (SegmentShape x y) = plain_measured indices_measured
immediates_measured (CopyShape space) = plain_measured indices_measured
immediates_measured BranchTableShape =
    map_measured (λ (x : List ℕ × ℕ). BranchTable x.0 x.1) (λ x. omega arith) (λ x y e. ap (λ (z : List ℕ × ℕ). BranchTable z.0 z.1) e)
    (then_measured (list_measured u32 u32_measured) u32_measured)
immediates_measured SelectShape = map_measured Types (λ ts. omega arith) (λ x y e. ap Types e) (list_measured val_type val_measured)
immediates_measured HeapShape = map_measured Heap (λ t. omega arith) (λ x y e. ap Heap e) heap_measured
immediates_measured (RefShape null) = map_measured Heap (λ t. omega arith) (λ x y e. ap Heap e) heap_measured
immediates_measured CastShape = plain_measured cast_measured
immediates_measured (MemoryShape natural) = map_measured Memory (λ m. omega arith) (λ x y e. ap Memory e) mem_arg_measured
immediates_measured (MemoryLaneShape natural) =
    map_measured (λ (x : MemArg × ℕ). MemoryLane x.0 x.1) (λ x. omega arith) (λ x y e. ap (λ (z : MemArg × ℕ). MemoryLane z.0 z.1) e)
    (then_measured mem_arg_measured byte_measured)
immediates_measured LaneShape = map_measured Lane (λ n. omega arith) (λ x y e. ap Lane e) byte_measured
immediates_measured I32Shape = map_measured I32 (λ z. omega arith) (λ x y e. ap I32 e) (signed_measured 32 (omega arith))
immediates_measured I64Shape = map_measured I64 (λ z. omega arith) (λ x y e. ap I64 e) (signed_measured 64 (omega arith))
immediates_measured F32Shape = map_measured F32 (λ bits. omega arith) (λ x y e. ap F32 e) (float_measured 4)
immediates_measured F64Shape = map_measured F64 (λ bits. omega arith) (λ x y e. ap F64 e) (float_measured 8)
immediates_measured VectorShape = map_measured Bytes (λ bytes. omega arith) (λ x y e. ap Bytes e) (fixed_measured 16)
immediates_measured LanesShape = map_measured Bytes (λ bytes. omega arith) (λ x y e. ap Bytes e) (fixed_measured 16)

-- ---- Only the opcode FE 03 has a reserved byte

-- Both are true, or both are false.
abbrev agrees : Bool → Bool → Bool
agrees true b = b
agrees false true = false
agrees false false = true

-- Tests that agree are equal.
agrees-true : (a b : Bool) → agrees a b ≡ true → a ≡ b
agrees-true true b e = sym e
agrees-true false true e = absurd cc
agrees-true false false e = refl

-- The row has the shape of `atomic.fence` if and only if its opcode is FE 03.
abbrev fits_fence : Row → Bool
fits_fence r = agrees (is_fence r.shape) ((r.prefix == 0xfe) && (r.number == 3))

-- Each row fits.
abbrev all_fit : List Row → Bool
all_fit [] = true
all_fit (r ∷ rs) = fits_fence r && all_fit rs

-- By computation over the table.
table_fits : all_fit table ≡ true
unfolding table
table_fits = refl

-- The row that is found has the opcode, and fits.
row_found : (o : Opcode) (rs : List Row) (r : Row) → all_fit rs ≡ true → first (has_opcode o) rs ≡ Some r → (has_opcode o r ≡ true) × (fits_fence r ≡ true)
row_found o [] r f e = absurd cc
row_found o (x ∷ rs) r f e =
    let fit = and_parts (fits_fence x) (all_fit rs) f in
    elim (cond_cases (has_opcode o x) (Some x) (first (has_opcode o) rs) (Some r) e) [
      | inl (here, is) ↦
          let row : x ≡ r = some_is x r is in
          (ap (has_opcode o) (sym row) ∙ here, ap fits_fence (sym row) ∙ fit.0)
      | inr (other, later) ↦ row_found o rs r fit.1 later
    ]

-- The reserved byte of an opcode that the table lists, by the shape of its row.
pub reserved_is : (o : Opcode) (r : Row) → by_opcode o ≡ Some r → reserved_len o ≡ cond (is_fence r.shape) 1 0
reserved_is o r e =
    let (has, fits) = row_found o table r table_fits e in
    let (prefix, number) = and_parts (eqb r.prefix o.prefix) (eqb r.number o.number) has in
    let same_test : is_fence r.shape ≡ (eqb r.prefix 0xfe && eqb r.number 3) = agrees-true _ _ fits in
    let test : is_fence r.shape ≡ (eqb o.prefix 0xfe && eqb o.number 3) =
    same_test ∙ ap (λ (p : ℕ). eqb p 0xfe && eqb r.number 3) (eqb-true r.prefix o.prefix prefix)
    ∙ ap (λ (n : ℕ). eqb o.prefix 0xfe && eqb n 3) (eqb-true r.number o.number number) in
    ap (λ (b : Bool). cond b 1 0) (sym test)

-- ---- Operators

-- The immediates after this opcode, with the reserved byte.
abbrev rest_len : Opcode → Immediates → ℕ
rest_len o i = reserved_len o + immediates_len i

-- The immediates after an opcode, by the row of the opcode.
row_measured : (o : Opcode) (row : Option Row) → by_opcode o ≡ row → Measured same (immediates_of_row row).spells (rest_len o)
row_measured o None e = fail_measured
row_measured o (Some r) e =
    with_len (rest_len o) (λ i. ap (λ (n : ℕ). n + immediates_len i) (reserved_is o r e)) (immediates_measured r.shape)

-- The operator with this opcode and these immediates.
abbrev operator_of_parts : Opcode × Immediates → Operator
operator_of_parts x = record { opcode = x.0; immediates = x.1 }

pub operator_measured : Measured same operator.spells operator_len
operator_measured =
    map_measured operator_of_parts (λ x. omega arith) (λ x y e. ap operator_of_parts e)
    (then_by_measured (λ o. (immediates_of_row (by_opcode o)).spells) rest_len opcode_measured (λ o. row_measured o (by_opcode o) refl))
