-- Operators on numbers (section 5.4 of the standard, "Numeric Instructions"; after the prefix FC also those of the
-- wide arithmetic proposal).
use Prim.Native.String.{String}
use Rattle.std.specs.Prelude.{ℕ, List, [], ◌∷◌, ◌++◌}
use Rattle.wasmprinter_spec.specs.Row.{Row, Shape, NoneShape, I32Shape, I64Shape, F32Shape, F64Shape, Fixed}
use Rattle.wasmprinter_spec.specs.Table.Rows.{plain, prefixed_row}

-- Takes nothing, gives its immediate. The arguments here and below are the opcode's number and the word.
abbrev constant : ℕ → String → Shape → Row
constant n w s = plain n w s (Fixed 0 1)

-- Takes one operand, gives one result.
abbrev unary : ℕ → String → Row
unary n w = plain n w NoneShape (Fixed 1 1)

-- Takes two operands, gives one result.
abbrev binary : ℕ → String → Row
binary n w = plain n w NoneShape (Fixed 2 1)

-- After the prefix FC: takes one operand, gives one result.
abbrev saturating : ℕ → String → Row
saturating n w = prefixed_row 0xfc n w NoneShape (Fixed 1 1)

-- Takes this number of 64-bit operands, gives two results.
abbrev wide : ℕ → String → ℕ → Row
wide n w operands = prefixed_row 0xfc n w NoneShape (Fixed operands 2)

-- Constants and comparisons.
unfoldable pub comparison_rows : List Row
comparison_rows =
    constant 0x41 "i32.const" I32Shape ∷
    constant 0x42 "i64.const" I64Shape ∷
    constant 0x43 "f32.const" F32Shape ∷
    constant 0x44 "f64.const" F64Shape ∷
    unary 0x45 "i32.eqz" ∷
    binary 0x46 "i32.eq" ∷
    binary 0x47 "i32.ne" ∷
    binary 0x48 "i32.lt_s" ∷
    binary 0x49 "i32.lt_u" ∷
    binary 0x4a "i32.gt_s" ∷
    binary 0x4b "i32.gt_u" ∷
    binary 0x4c "i32.le_s" ∷
    binary 0x4d "i32.le_u" ∷
    binary 0x4e "i32.ge_s" ∷
    binary 0x4f "i32.ge_u" ∷
    unary 0x50 "i64.eqz" ∷
    binary 0x51 "i64.eq" ∷
    binary 0x52 "i64.ne" ∷
    binary 0x53 "i64.lt_s" ∷
    binary 0x54 "i64.lt_u" ∷
    binary 0x55 "i64.gt_s" ∷
    binary 0x56 "i64.gt_u" ∷
    binary 0x57 "i64.le_s" ∷
    binary 0x58 "i64.le_u" ∷
    binary 0x59 "i64.ge_s" ∷
    binary 0x5a "i64.ge_u" ∷
    binary 0x5b "f32.eq" ∷
    binary 0x5c "f32.ne" ∷
    binary 0x5d "f32.lt" ∷
    binary 0x5e "f32.gt" ∷
    binary 0x5f "f32.le" ∷
    binary 0x60 "f32.ge" ∷
    binary 0x61 "f64.eq" ∷
    binary 0x62 "f64.ne" ∷
    binary 0x63 "f64.lt" ∷
    binary 0x64 "f64.gt" ∷
    binary 0x65 "f64.le" ∷
    binary 0x66 "f64.ge" ∷
    []

-- Operators on operands of one type.
unfoldable pub arithmetic_rows : List Row
arithmetic_rows =
    unary 0x67 "i32.clz" ∷
    unary 0x68 "i32.ctz" ∷
    unary 0x69 "i32.popcnt" ∷
    binary 0x6a "i32.add" ∷
    binary 0x6b "i32.sub" ∷
    binary 0x6c "i32.mul" ∷
    binary 0x6d "i32.div_s" ∷
    binary 0x6e "i32.div_u" ∷
    binary 0x6f "i32.rem_s" ∷
    binary 0x70 "i32.rem_u" ∷
    binary 0x71 "i32.and" ∷
    binary 0x72 "i32.or" ∷
    binary 0x73 "i32.xor" ∷
    binary 0x74 "i32.shl" ∷
    binary 0x75 "i32.shr_s" ∷
    binary 0x76 "i32.shr_u" ∷
    binary 0x77 "i32.rotl" ∷
    binary 0x78 "i32.rotr" ∷
    unary 0x79 "i64.clz" ∷
    unary 0x7a "i64.ctz" ∷
    unary 0x7b "i64.popcnt" ∷
    binary 0x7c "i64.add" ∷
    binary 0x7d "i64.sub" ∷
    binary 0x7e "i64.mul" ∷
    binary 0x7f "i64.div_s" ∷
    binary 0x80 "i64.div_u" ∷
    binary 0x81 "i64.rem_s" ∷
    binary 0x82 "i64.rem_u" ∷
    binary 0x83 "i64.and" ∷
    binary 0x84 "i64.or" ∷
    binary 0x85 "i64.xor" ∷
    binary 0x86 "i64.shl" ∷
    binary 0x87 "i64.shr_s" ∷
    binary 0x88 "i64.shr_u" ∷
    binary 0x89 "i64.rotl" ∷
    binary 0x8a "i64.rotr" ∷
    unary 0x8b "f32.abs" ∷
    unary 0x8c "f32.neg" ∷
    unary 0x8d "f32.ceil" ∷
    unary 0x8e "f32.floor" ∷
    unary 0x8f "f32.trunc" ∷
    unary 0x90 "f32.nearest" ∷
    unary 0x91 "f32.sqrt" ∷
    binary 0x92 "f32.add" ∷
    binary 0x93 "f32.sub" ∷
    binary 0x94 "f32.mul" ∷
    binary 0x95 "f32.div" ∷
    binary 0x96 "f32.min" ∷
    binary 0x97 "f32.max" ∷
    binary 0x98 "f32.copysign" ∷
    unary 0x99 "f64.abs" ∷
    unary 0x9a "f64.neg" ∷
    unary 0x9b "f64.ceil" ∷
    unary 0x9c "f64.floor" ∷
    unary 0x9d "f64.trunc" ∷
    unary 0x9e "f64.nearest" ∷
    unary 0x9f "f64.sqrt" ∷
    binary 0xa0 "f64.add" ∷
    binary 0xa1 "f64.sub" ∷
    binary 0xa2 "f64.mul" ∷
    binary 0xa3 "f64.div" ∷
    binary 0xa4 "f64.min" ∷
    binary 0xa5 "f64.max" ∷
    binary 0xa6 "f64.copysign" ∷
    []

-- Operators from one type to another, from one width to another, and on numbers in two halves.
unfoldable pub conversion_rows : List Row
conversion_rows =
    unary 0xa7 "i32.wrap_i64" ∷
    unary 0xa8 "i32.trunc_f32_s" ∷
    unary 0xa9 "i32.trunc_f32_u" ∷
    unary 0xaa "i32.trunc_f64_s" ∷
    unary 0xab "i32.trunc_f64_u" ∷
    unary 0xac "i64.extend_i32_s" ∷
    unary 0xad "i64.extend_i32_u" ∷
    unary 0xae "i64.trunc_f32_s" ∷
    unary 0xaf "i64.trunc_f32_u" ∷
    unary 0xb0 "i64.trunc_f64_s" ∷
    unary 0xb1 "i64.trunc_f64_u" ∷
    unary 0xb2 "f32.convert_i32_s" ∷
    unary 0xb3 "f32.convert_i32_u" ∷
    unary 0xb4 "f32.convert_i64_s" ∷
    unary 0xb5 "f32.convert_i64_u" ∷
    unary 0xb6 "f32.demote_f64" ∷
    unary 0xb7 "f64.convert_i32_s" ∷
    unary 0xb8 "f64.convert_i32_u" ∷
    unary 0xb9 "f64.convert_i64_s" ∷
    unary 0xba "f64.convert_i64_u" ∷
    unary 0xbb "f64.promote_f32" ∷
    unary 0xbc "i32.reinterpret_f32" ∷
    unary 0xbd "i64.reinterpret_f64" ∷
    unary 0xbe "f32.reinterpret_i32" ∷
    unary 0xbf "f64.reinterpret_i64" ∷
    unary 0xc0 "i32.extend8_s" ∷
    unary 0xc1 "i32.extend16_s" ∷
    unary 0xc2 "i64.extend8_s" ∷
    unary 0xc3 "i64.extend16_s" ∷
    unary 0xc4 "i64.extend32_s" ∷
    saturating 0 "i32.trunc_sat_f32_s" ∷
    saturating 1 "i32.trunc_sat_f32_u" ∷
    saturating 2 "i32.trunc_sat_f64_s" ∷
    saturating 3 "i32.trunc_sat_f64_u" ∷
    saturating 4 "i64.trunc_sat_f32_s" ∷
    saturating 5 "i64.trunc_sat_f32_u" ∷
    saturating 6 "i64.trunc_sat_f64_s" ∷
    saturating 7 "i64.trunc_sat_f64_u" ∷
    wide 19 "i64.add128" 4 ∷
    wide 20 "i64.sub128" 4 ∷
    wide 21 "i64.mul_wide_s" 2 ∷
    wide 22 "i64.mul_wide_u" 2 ∷
    []

-- The operators on numbers.
unfoldable pub number_rows : List Row
unfolding comparison_rows arithmetic_rows conversion_rows
number_rows = comparison_rows ++ (arithmetic_rows ++ conversion_rows)
