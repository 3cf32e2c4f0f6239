-- Operators on vectors of numbers, after the prefix FD (section 5.4 of the standard, "Vector Instructions").
use Prim.Native.String.{String}
use Rattle.std.specs.Prelude.{ℕ, List, [], ◌∷◌, ◌++◌}
use Rattle.wasmprinter_spec.specs.Row.{Row, NoneShape, Fixed}
use Rattle.wasmprinter_spec.specs.Table.Rows.{prefixed_row}

-- Operators without immediates that give one result. They take one operand (`unary`), two (`binary`) or three
-- (`ternary`). The arguments are the number after the prefix and the word.
abbrev unary : ℕ → String → Row
unary n w = prefixed_row 0xfd n w NoneShape (Fixed 1 1)

abbrev binary : ℕ → String → Row
binary n w = prefixed_row 0xfd n w NoneShape (Fixed 2 1)

abbrev ternary : ℕ → String → Row
ternary n w = prefixed_row 0xfd n w NoneShape (Fixed 3 1)

-- The operators with the numbers 96 to 255, which are not relaxed.
unfoldable pub exact_rows : List Row
exact_rows =
    unary 96 "i8x16.abs" ∷
    unary 97 "i8x16.neg" ∷
    unary 98 "i8x16.popcnt" ∷
    unary 99 "i8x16.all_true" ∷
    unary 100 "i8x16.bitmask" ∷
    binary 101 "i8x16.narrow_i16x8_s" ∷
    binary 102 "i8x16.narrow_i16x8_u" ∷
    unary 103 "f32x4.ceil" ∷
    unary 104 "f32x4.floor" ∷
    unary 105 "f32x4.trunc" ∷
    unary 106 "f32x4.nearest" ∷
    binary 107 "i8x16.shl" ∷
    binary 108 "i8x16.shr_s" ∷
    binary 109 "i8x16.shr_u" ∷
    binary 110 "i8x16.add" ∷
    binary 111 "i8x16.add_sat_s" ∷
    binary 112 "i8x16.add_sat_u" ∷
    binary 113 "i8x16.sub" ∷
    binary 114 "i8x16.sub_sat_s" ∷
    binary 115 "i8x16.sub_sat_u" ∷
    unary 116 "f64x2.ceil" ∷
    unary 117 "f64x2.floor" ∷
    binary 118 "i8x16.min_s" ∷
    binary 119 "i8x16.min_u" ∷
    binary 120 "i8x16.max_s" ∷
    binary 121 "i8x16.max_u" ∷
    unary 122 "f64x2.trunc" ∷
    binary 123 "i8x16.avgr_u" ∷
    unary 124 "i16x8.extadd_pairwise_i8x16_s" ∷
    unary 125 "i16x8.extadd_pairwise_i8x16_u" ∷
    unary 126 "i32x4.extadd_pairwise_i16x8_s" ∷
    unary 127 "i32x4.extadd_pairwise_i16x8_u" ∷
    unary 128 "i16x8.abs" ∷
    unary 129 "i16x8.neg" ∷
    binary 130 "i16x8.q15mulr_sat_s" ∷
    unary 131 "i16x8.all_true" ∷
    unary 132 "i16x8.bitmask" ∷
    binary 133 "i16x8.narrow_i32x4_s" ∷
    binary 134 "i16x8.narrow_i32x4_u" ∷
    unary 135 "i16x8.extend_low_i8x16_s" ∷
    unary 136 "i16x8.extend_high_i8x16_s" ∷
    unary 137 "i16x8.extend_low_i8x16_u" ∷
    unary 138 "i16x8.extend_high_i8x16_u" ∷
    binary 139 "i16x8.shl" ∷
    binary 140 "i16x8.shr_s" ∷
    binary 141 "i16x8.shr_u" ∷
    binary 142 "i16x8.add" ∷
    binary 143 "i16x8.add_sat_s" ∷
    binary 144 "i16x8.add_sat_u" ∷
    binary 145 "i16x8.sub" ∷
    binary 146 "i16x8.sub_sat_s" ∷
    binary 147 "i16x8.sub_sat_u" ∷
    unary 148 "f64x2.nearest" ∷
    binary 149 "i16x8.mul" ∷
    binary 150 "i16x8.min_s" ∷
    binary 151 "i16x8.min_u" ∷
    binary 152 "i16x8.max_s" ∷
    binary 153 "i16x8.max_u" ∷
    binary 155 "i16x8.avgr_u" ∷
    binary 156 "i16x8.extmul_low_i8x16_s" ∷
    binary 157 "i16x8.extmul_high_i8x16_s" ∷
    binary 158 "i16x8.extmul_low_i8x16_u" ∷
    binary 159 "i16x8.extmul_high_i8x16_u" ∷
    unary 160 "i32x4.abs" ∷
    unary 161 "i32x4.neg" ∷
    unary 163 "i32x4.all_true" ∷
    unary 164 "i32x4.bitmask" ∷
    unary 167 "i32x4.extend_low_i16x8_s" ∷
    unary 168 "i32x4.extend_high_i16x8_s" ∷
    unary 169 "i32x4.extend_low_i16x8_u" ∷
    unary 170 "i32x4.extend_high_i16x8_u" ∷
    binary 171 "i32x4.shl" ∷
    binary 172 "i32x4.shr_s" ∷
    binary 173 "i32x4.shr_u" ∷
    binary 174 "i32x4.add" ∷
    binary 177 "i32x4.sub" ∷
    binary 181 "i32x4.mul" ∷
    binary 182 "i32x4.min_s" ∷
    binary 183 "i32x4.min_u" ∷
    binary 184 "i32x4.max_s" ∷
    binary 185 "i32x4.max_u" ∷
    binary 186 "i32x4.dot_i16x8_s" ∷
    binary 188 "i32x4.extmul_low_i16x8_s" ∷
    binary 189 "i32x4.extmul_high_i16x8_s" ∷
    binary 190 "i32x4.extmul_low_i16x8_u" ∷
    binary 191 "i32x4.extmul_high_i16x8_u" ∷
    unary 192 "i64x2.abs" ∷
    unary 193 "i64x2.neg" ∷
    unary 195 "i64x2.all_true" ∷
    unary 196 "i64x2.bitmask" ∷
    unary 199 "i64x2.extend_low_i32x4_s" ∷
    unary 200 "i64x2.extend_high_i32x4_s" ∷
    unary 201 "i64x2.extend_low_i32x4_u" ∷
    unary 202 "i64x2.extend_high_i32x4_u" ∷
    binary 203 "i64x2.shl" ∷
    binary 204 "i64x2.shr_s" ∷
    binary 205 "i64x2.shr_u" ∷
    binary 206 "i64x2.add" ∷
    binary 209 "i64x2.sub" ∷
    binary 213 "i64x2.mul" ∷
    binary 214 "i64x2.eq" ∷
    binary 215 "i64x2.ne" ∷
    binary 216 "i64x2.lt_s" ∷
    binary 217 "i64x2.gt_s" ∷
    binary 218 "i64x2.le_s" ∷
    binary 219 "i64x2.ge_s" ∷
    binary 220 "i64x2.extmul_low_i32x4_s" ∷
    binary 221 "i64x2.extmul_high_i32x4_s" ∷
    binary 222 "i64x2.extmul_low_i32x4_u" ∷
    binary 223 "i64x2.extmul_high_i32x4_u" ∷
    unary 224 "f32x4.abs" ∷
    unary 225 "f32x4.neg" ∷
    unary 227 "f32x4.sqrt" ∷
    binary 228 "f32x4.add" ∷
    binary 229 "f32x4.sub" ∷
    binary 230 "f32x4.mul" ∷
    binary 231 "f32x4.div" ∷
    binary 232 "f32x4.min" ∷
    binary 233 "f32x4.max" ∷
    binary 234 "f32x4.pmin" ∷
    binary 235 "f32x4.pmax" ∷
    unary 236 "f64x2.abs" ∷
    unary 237 "f64x2.neg" ∷
    unary 239 "f64x2.sqrt" ∷
    binary 240 "f64x2.add" ∷
    binary 241 "f64x2.sub" ∷
    binary 242 "f64x2.mul" ∷
    binary 243 "f64x2.div" ∷
    binary 244 "f64x2.min" ∷
    binary 245 "f64x2.max" ∷
    binary 246 "f64x2.pmin" ∷
    binary 247 "f64x2.pmax" ∷
    unary 248 "i32x4.trunc_sat_f32x4_s" ∷
    unary 249 "i32x4.trunc_sat_f32x4_u" ∷
    unary 250 "f32x4.convert_i32x4_s" ∷
    unary 251 "f32x4.convert_i32x4_u" ∷
    unary 252 "i32x4.trunc_sat_f64x2_s_zero" ∷
    unary 253 "i32x4.trunc_sat_f64x2_u_zero" ∷
    unary 254 "f64x2.convert_low_i32x4_s" ∷
    unary 255 "f64x2.convert_low_i32x4_u" ∷
    []

-- Operators whose results may differ from machine to machine.
unfoldable pub relaxed_rows : List Row
relaxed_rows =
    binary 256 "i8x16.relaxed_swizzle" ∷
    unary 257 "i32x4.relaxed_trunc_f32x4_s" ∷
    unary 258 "i32x4.relaxed_trunc_f32x4_u" ∷
    unary 259 "i32x4.relaxed_trunc_f64x2_s_zero" ∷
    unary 260 "i32x4.relaxed_trunc_f64x2_u_zero" ∷
    ternary 261 "f32x4.relaxed_madd" ∷
    ternary 262 "f32x4.relaxed_nmadd" ∷
    ternary 263 "f64x2.relaxed_madd" ∷
    ternary 264 "f64x2.relaxed_nmadd" ∷
    ternary 265 "i8x16.relaxed_laneselect" ∷
    ternary 266 "i16x8.relaxed_laneselect" ∷
    ternary 267 "i32x4.relaxed_laneselect" ∷
    ternary 268 "i64x2.relaxed_laneselect" ∷
    binary 269 "f32x4.relaxed_min" ∷
    binary 270 "f32x4.relaxed_max" ∷
    binary 271 "f64x2.relaxed_min" ∷
    binary 272 "f64x2.relaxed_max" ∷
    binary 273 "i16x8.relaxed_q15mulr_s" ∷
    binary 274 "i16x8.relaxed_dot_i8x16_i7x16_s" ∷
    ternary 275 "i32x4.relaxed_dot_i8x16_i7x16_add_s" ∷
    []

-- The operators on vectors with the numbers from 96 on.
unfoldable pub vector_number_rows : List Row
unfolding exact_rows relaxed_rows
vector_number_rows = exact_rows ++ relaxed_rows
