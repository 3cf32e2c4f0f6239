-- Worked rows of floats (section 6.3 of the standard, "Floating-Point"): the texts of bit patterns, that these
-- texts read as the same bits, what other texts read as, and which texts do not read.
use Rattle.std.specs.Prelude.{◌≡◌, ℕ, ◌*◌, ◌-◌, ◌^◌, List, [], ◌∷◌, map, codes, Some, None, refl}
use Rattle.std.specs.Fmt.{digits}
use Rattle.wasmprinter_spec.specs.Numeral.{numeral}
use Rattle.wasmprinter_spec.specs.Call.{Text, Start, Literal, Comment, Reset, text_of}
use Rattle.wasmprinter_spec.specs.Float.{single, double, bias, least_exponent, units_of, units, bits_by_halving, bits_of, unsigned_float, float}
use Rattle.wasmprinter_spec.specs.FloatText.{float_text, unsigned_text, digits_after, doublings, unsigned_calls, float_calls}

-- ---- printed texts

-- A bit pattern, its word, and its text, which includes a comment after infinity and NaN
record Row : Type 0 where
  bits : ℕ
  word : List ℕ
  text : List ℕ

abbrev row : ℕ → List ℕ → List ℕ → Row
row bits word text = record { bits = bits; word = word; text = text }

abbrev singles : List Row
singles =
    row 0x3fc00000 (codes "0x1.8p+0") (codes "0x1.8p+0")
    ∷ row 0x00000000 (codes "0x0p+0") (codes "0x0p+0")
    ∷ row 0x80000000 (codes "-0x0p+0") (codes "-0x0p+0")
    ∷ row 0x00000001 (codes "0x1.p-149") (codes "0x1.p-149")
    ∷ row 0x7fc00000 (codes "nan") (codes "nan (;=NaN;)")
    ∷ row 0x7f800001 (codes "nan:0x1") (codes "nan:0x1 (;=NaN;)")
    ∷ row 0x7f800000 (codes "inf") (codes "inf (;=inf;)")
    ∷ row 0xff800000 (codes "-inf") (codes "-inf (;=-inf;)")
    ∷ row 0x40490fdb (codes "0x1.921fb6p+1") (codes "0x1.921fb6p+1")
    ∷ row 0x7f7fffff (codes "0x1.fffffep+127") (codes "0x1.fffffep+127")
    ∷ row 0x00400000 (codes "0x1.p-127") (codes "0x1.p-127")
    ∷ row 0x00600000 (codes "0x1.8p-127") (codes "0x1.8p-127")
    ∷ row 0x00800000 (codes "0x1p-126") (codes "0x1p-126")
    ∷ row 0xffc00000 (codes "-nan") (codes "-nan (;=NaN;)")
    ∷ row 0xffffffff (codes "-nan:0x7fffff") (codes "-nan:0x7fffff (;=NaN;)")
    ∷ []

abbrev doubles : List Row
doubles =
    row 0x3ff0000000000000 (codes "0x1p+0") (codes "0x1p+0")
    ∷ row 0x0000000000000001 (codes "0x1.p-1074") (codes "0x1.p-1074")
    ∷ row 0x7ff8000000000000 (codes "nan") (codes "nan (;=NaN;)")
    ∷ row 0xfff0000000000001 (codes "-nan:0x1") (codes "-nan:0x1 (;=NaN;)")
    ∷ row 0x400921fb54442d18 (codes "0x1.921fb54442d18p+1") (codes "0x1.921fb54442d18p+1")
    ∷ row 0x000fffffffffffff (codes "0x1.ffffffffffffep-1023") (codes "0x1.ffffffffffffep-1023")
    ∷ row 0x0010000000000000 (codes "0x1p-1022") (codes "0x1p-1022")
    ∷ row 0x7fefffffffffffff (codes "0x1.fffffffffffffp+1023") (codes "0x1.fffffffffffffp+1023")
    ∷ []

words_of_singles : map (λ r. float_text single r.bits) singles ≡ map (λ r. r.word) singles
unfolding float_text unsigned_text digits_after doublings digits
words_of_singles = refl

words_of_doubles : map (λ r. float_text double r.bits) doubles ≡ map (λ r. r.word) doubles
unfolding float_text unsigned_text digits_after doublings digits
words_of_doubles = refl

texts_of_singles : map (λ r. text_of (float_calls single r.bits)) singles ≡ map (λ r. r.text) singles
unfolding float_calls unsigned_calls digits_after doublings digits
texts_of_singles = refl

texts_of_doubles : map (λ r. text_of (float_calls double r.bits)) doubles ≡ map (λ r. r.text) doubles
unfolding float_calls unsigned_calls digits_after doublings digits
texts_of_doubles = refl

-- ---- reading back

singles_read : map (λ r. float single r.word) singles ≡ map (λ r. Some r.bits) singles
unfolding float unsigned_float units bits_by_halving bits_of numeral
singles_read = refl

doubles_read : map (λ r. float double r.word) doubles ≡ map (λ r. Some r.bits) doubles
unfolding float unsigned_float units bits_by_halving bits_of numeral
doubles_read = refl

-- ---- other texts

-- An exponent without a sign, after `P`, and absent; a point as the last character, and between digits; leading
-- zeros; underscores; an `e` that is a digit
other_finite : map (float single)
    (codes "0x1.8p1" ∷ codes "0x1.8P+1" ∷ codes "0x10" ∷ codes "0x1." ∷ codes "0x0.8" ∷ codes "0x1_0.8_0p-0_4" ∷ codes "+0x1p+0" ∷ codes "0x0000.00008p+17" ∷ codes "0x1p-149" ∷ codes "0x1e5" ∷ [])
    ≡ Some 0x40400000 ∷ Some 0x40400000 ∷ Some 0x41800000 ∷ Some 0x3f800000 ∷ Some 0x3f000000 ∷ Some 0x3f840000 ∷ Some 0x3f800000 ∷ Some 0x3f800000 ∷ Some 0x00000001 ∷ Some 0x43f28000 ∷ []
unfolding float unsigned_float units bits_by_halving bits_of numeral
other_finite = refl

other_special : map (float single) (codes "+inf" ∷ codes "+nan" ∷ codes "nan:0x4_0" ∷ codes "nan:0x7FFFFF" ∷ [])
    ≡ Some 0x7f800000 ∷ Some 0x7fc00000 ∷ Some 0x7f800040 ∷ Some 0x7fffffff ∷ []
unfolding float unsigned_float units bits_by_halving bits_of numeral
other_special = refl

-- Texts of f64 that are no texts of f32: a number between two neighbors, above the greatest, below the least, and
-- a payload of more bits
wide : map (float double) (codes "0x1.000001p+0" ∷ codes "0x1p128" ∷ codes "0x1p-150" ∷ codes "nan:0x800000" ∷ [])
    ≡ Some 0x3ff0000010000000 ∷ Some 0x47f0000000000000 ∷ Some 0x3690000000000000 ∷ Some 0x7ff0000000800000 ∷ []
unfolding float unsigned_float units bits_by_halving bits_of numeral
wide = refl

too_wide : map (float single) (codes "0x1.000001p+0" ∷ codes "0x1p128" ∷ codes "0x1p-150" ∷ codes "nan:0x800000" ∷ codes "0x1.ffffffp127" ∷ [])
    ≡ None ∷ None ∷ None ∷ None ∷ None ∷ []
unfolding float unsigned_float units bits_by_halving bits_of numeral
too_wide = refl

-- ---- texts that do not read

-- No digit at all, before the point, or in the exponent
no_digits : map (float single) (codes "0x" ∷ codes "0x.8" ∷ codes "0x1p" ∷ codes "0x1p+" ∷ codes "0x.p1" ∷ []) ≡ None ∷ None ∷ None ∷ None ∷ None ∷ []
unfolding float unsigned_float units bits_by_halving bits_of numeral
no_digits = refl

-- Two points, two exponents, two signs; a point in the exponent; an exponent in hexadecimal; an uppercase X
misplaced : map (float single) (codes "0x1.0.0" ∷ codes "0x1p1p1" ∷ codes "-+0x1" ∷ codes "0x1p1.0" ∷ codes "0x1pa" ∷ codes "0X1" ∷ [])
    ≡ None ∷ None ∷ None ∷ None ∷ None ∷ None ∷ []
unfolding float unsigned_float units bits_by_halving bits_of numeral
misplaced = refl

misplaced_underscores : map (float single) (codes "0x1_.8" ∷ codes "0x1._8" ∷ codes "0x1p_1" ∷ codes "0x1_p1" ∷ codes "0x_1" ∷ [])
    ≡ None ∷ None ∷ None ∷ None ∷ None ∷ []
unfolding float unsigned_float units bits_by_halving bits_of numeral
misplaced_underscores = refl

-- A payload that is 0, decimal or missing, and words that only resemble `inf` and `nan`
no_special : map (float single) (codes "nan:0x0" ∷ codes "nan:1" ∷ codes "nan:0x" ∷ codes "nan:" ∷ codes "infinity" ∷ codes "NaN" ∷ codes "Inf" ∷ [])
    ≡ None ∷ None ∷ None ∷ None ∷ None ∷ None ∷ None ∷ []
unfolding float unsigned_float units bits_by_halving bits_of numeral
no_special = refl

nothing : map (float single) (codes "" ∷ codes "-" ∷ codes "+" ∷ []) ≡ None ∷ None ∷ None ∷ []
unfolding float unsigned_float units bits_by_halving bits_of numeral
nothing = refl

-- Decimal texts, which the standard has and this reader does not accept
decimal_texts : map (float single) (codes "1.5" ∷ codes "1e3" ∷ codes "10" ∷ codes "0" ∷ codes "1." ∷ []) ≡ None ∷ None ∷ None ∷ None ∷ None ∷ []
unfolding float unsigned_float units bits_by_halving bits_of numeral
decimal_texts = refl

-- ---- values

-- The least positive numbers are 2 ^ -149 and 2 ^ -1074.
least_exponents : map least_exponent (single ∷ double ∷ []) ≡ 149 ∷ 1074 ∷ []
least_exponents = refl

biases : map bias (single ∷ double ∷ []) ≡ 127 ∷ 1023 ∷ []
biases = refl

-- The least positive number, the least normal number, 1, 1.5 and the greatest number, each as a multiple of the
-- least positive number
values_of_singles : map (units_of single) (0x00000001 ∷ 0x00800000 ∷ 0x3f800000 ∷ 0x3fc00000 ∷ 0x7f7fffff ∷ [])
    ≡ 1 ∷ 2 ^ 23 ∷ 2 ^ 149 ∷ 3 * 2 ^ 148 ∷ (2 ^ 24 - 1) * 2 ^ 253 ∷ []
unfolding units_of
values_of_singles = refl

values_of_doubles : map (units_of double) (0x0000000000000001 ∷ 0x0010000000000000 ∷ 0x3ff0000000000000 ∷ 0x7fefffffffffffff ∷ [])
    ≡ 1 ∷ 2 ^ 52 ∷ 2 ^ 1074 ∷ (2 ^ 53 - 1) * 2 ^ 2045 ∷ []
unfolding units_of
values_of_doubles = refl

-- ---- calls

styles : float_calls single 0xff800000 ≡ Text (codes "-") ∷ Start Literal ∷ Text (codes "inf ") ∷ Start Comment ∷ Text (codes "(;=-inf;)") ∷ Start Reset ∷ []
unfolding float_calls unsigned_calls
styles = refl

styles_of_nan : float_calls double 0x7ff0000000000001 ≡ Start Literal ∷ Text (codes "nan:0x1 ") ∷ Start Comment ∷ Text (codes "(;=NaN;)") ∷ Start Reset ∷ []
unfolding float_calls unsigned_calls digits
styles_of_nan = refl

styles_of_finite : float_calls single 0x80000000 ≡ Text (codes "-") ∷ Start Literal ∷ Text (codes "0x0p+0") ∷ Start Reset ∷ []
unfolding float_calls unsigned_calls
styles_of_finite = refl
