-- Operators on vectors, after the prefix FD (section 5.4 of the standard, "Vector Instructions"): memories, lanes,
-- comparisons and bits. The exponents are those of the natural alignment.
use Prim.Native.String.{String}
use Rattle.std.specs.Prelude.{ℕ, List, [], ◌∷◌}
use Rattle.wasmprinter_spec.specs.Row.{Row, Shape, NoneShape, MemoryShape, MemoryLaneShape, LaneShape, VectorShape, LanesShape, Arity, Fixed}
use Rattle.wasmprinter_spec.specs.Table.Rows.{prefixed_row}

-- An operator after the prefix: its number, word, shape and arity.
abbrev vector : ℕ → String → Shape → Arity → Row
vector n w s a = prefixed_row 0xfd n w s a

-- Operators without immediates that give one result. They take one operand (`unary`), two (`binary`) or three
-- (`ternary`).
abbrev unary : ℕ → String → Row
unary n w = vector n w NoneShape (Fixed 1 1)

abbrev binary : ℕ → String → Row
binary n w = vector n w NoneShape (Fixed 2 1)

abbrev ternary : ℕ → String → Row
ternary n w = vector n w NoneShape (Fixed 3 1)

-- Takes an address. The last argument, here and below, is the natural exponent.
abbrev load : ℕ → String → ℕ → Row
load n w natural = vector n w (MemoryShape natural) (Fixed 1 1)

-- These three take an address and a vector: `store`, `load_lane` and `store_lane`.
abbrev store : ℕ → String → ℕ → Row
store n w natural = vector n w (MemoryShape natural) (Fixed 2 0)

abbrev load_lane : ℕ → String → ℕ → Row
load_lane n w natural = vector n w (MemoryLaneShape natural) (Fixed 2 1)

abbrev store_lane : ℕ → String → ℕ → Row
store_lane n w natural = vector n w (MemoryLaneShape natural) (Fixed 2 0)

-- Takes a vector.
abbrev extract : ℕ → String → Row
extract n w = vector n w LaneShape (Fixed 1 1)

-- Takes a vector and a number.
abbrev replace : ℕ → String → Row
replace n w = vector n w LaneShape (Fixed 2 1)

-- The operators on vectors with the numbers 0 to 95.
unfoldable pub vector_rows : List Row
vector_rows =
    load 0 "v128.load" 4 ∷
    load 1 "v128.load8x8_s" 3 ∷
    load 2 "v128.load8x8_u" 3 ∷
    load 3 "v128.load16x4_s" 3 ∷
    load 4 "v128.load16x4_u" 3 ∷
    load 5 "v128.load32x2_s" 3 ∷
    load 6 "v128.load32x2_u" 3 ∷
    load 7 "v128.load8_splat" 0 ∷
    load 8 "v128.load16_splat" 1 ∷
    load 9 "v128.load32_splat" 2 ∷
    load 10 "v128.load64_splat" 3 ∷
    store 11 "v128.store" 4 ∷
    vector 12 "v128.const" VectorShape (Fixed 0 1) ∷
    vector 13 "i8x16.shuffle" LanesShape (Fixed 2 1) ∷
    binary 14 "i8x16.swizzle" ∷
    unary 15 "i8x16.splat" ∷
    unary 16 "i16x8.splat" ∷
    unary 17 "i32x4.splat" ∷
    unary 18 "i64x2.splat" ∷
    unary 19 "f32x4.splat" ∷
    unary 20 "f64x2.splat" ∷
    extract 21 "i8x16.extract_lane_s" ∷
    extract 22 "i8x16.extract_lane_u" ∷
    replace 23 "i8x16.replace_lane" ∷
    extract 24 "i16x8.extract_lane_s" ∷
    extract 25 "i16x8.extract_lane_u" ∷
    replace 26 "i16x8.replace_lane" ∷
    extract 27 "i32x4.extract_lane" ∷
    replace 28 "i32x4.replace_lane" ∷
    extract 29 "i64x2.extract_lane" ∷
    replace 30 "i64x2.replace_lane" ∷
    extract 31 "f32x4.extract_lane" ∷
    replace 32 "f32x4.replace_lane" ∷
    extract 33 "f64x2.extract_lane" ∷
    replace 34 "f64x2.replace_lane" ∷
    binary 35 "i8x16.eq" ∷
    binary 36 "i8x16.ne" ∷
    binary 37 "i8x16.lt_s" ∷
    binary 38 "i8x16.lt_u" ∷
    binary 39 "i8x16.gt_s" ∷
    binary 40 "i8x16.gt_u" ∷
    binary 41 "i8x16.le_s" ∷
    binary 42 "i8x16.le_u" ∷
    binary 43 "i8x16.ge_s" ∷
    binary 44 "i8x16.ge_u" ∷
    binary 45 "i16x8.eq" ∷
    binary 46 "i16x8.ne" ∷
    binary 47 "i16x8.lt_s" ∷
    binary 48 "i16x8.lt_u" ∷
    binary 49 "i16x8.gt_s" ∷
    binary 50 "i16x8.gt_u" ∷
    binary 51 "i16x8.le_s" ∷
    binary 52 "i16x8.le_u" ∷
    binary 53 "i16x8.ge_s" ∷
    binary 54 "i16x8.ge_u" ∷
    binary 55 "i32x4.eq" ∷
    binary 56 "i32x4.ne" ∷
    binary 57 "i32x4.lt_s" ∷
    binary 58 "i32x4.lt_u" ∷
    binary 59 "i32x4.gt_s" ∷
    binary 60 "i32x4.gt_u" ∷
    binary 61 "i32x4.le_s" ∷
    binary 62 "i32x4.le_u" ∷
    binary 63 "i32x4.ge_s" ∷
    binary 64 "i32x4.ge_u" ∷
    binary 65 "f32x4.eq" ∷
    binary 66 "f32x4.ne" ∷
    binary 67 "f32x4.lt" ∷
    binary 68 "f32x4.gt" ∷
    binary 69 "f32x4.le" ∷
    binary 70 "f32x4.ge" ∷
    binary 71 "f64x2.eq" ∷
    binary 72 "f64x2.ne" ∷
    binary 73 "f64x2.lt" ∷
    binary 74 "f64x2.gt" ∷
    binary 75 "f64x2.le" ∷
    binary 76 "f64x2.ge" ∷
    unary 77 "v128.not" ∷
    binary 78 "v128.and" ∷
    binary 79 "v128.andnot" ∷
    binary 80 "v128.or" ∷
    binary 81 "v128.xor" ∷
    ternary 82 "v128.bitselect" ∷
    unary 83 "v128.any_true" ∷
    load_lane 84 "v128.load8_lane" 0 ∷
    load_lane 85 "v128.load16_lane" 1 ∷
    load_lane 86 "v128.load32_lane" 2 ∷
    load_lane 87 "v128.load64_lane" 3 ∷
    store_lane 88 "v128.store8_lane" 0 ∷
    store_lane 89 "v128.store16_lane" 1 ∷
    store_lane 90 "v128.store32_lane" 2 ∷
    store_lane 91 "v128.store64_lane" 3 ∷
    load 92 "v128.load32_zero" 2 ∷
    load 93 "v128.load64_zero" 3 ∷
    unary 94 "f32x4.demote_f64x2_zero" ∷
    unary 95 "f64x2.promote_low_f32x4" ∷
    []
