-- The texts of floating-point numbers as they are printed, from their bits, and the calls for them. They are
-- hexadecimal, so that the text has exactly the value of the bits (section 6.3 of the standard, "Floating-Point").
-- The choice of digits and the comments are the printer's own.
use Rattle.std.specs.Prelude.{ℕ, zero, suc, ◌+◌, ◌*◌, ◌/◌, ◌%◌, ◌^◌, ◌-◌, Bool, true, false, cond, ◌==◌, nat_lt, List, [], ◌∷◌, ◌++◌, codes, decimal, if◌then◌else◌}
use Rattle.std.specs.Fmt.{digits, digit_glyph}
use Rattle.wasmprinter_spec.specs.Call.{Call, Text, Start, Literal, Comment, Reset}
use Rattle.wasmprinter_spec.specs.Float.{Width, bias, greatest_exponent, sign_bit, canonical_payload}

-- ---- The text

-- The hexadecimal digits of n / 16 ^ count, a number below 1, up to the last digit that is not 0.
unfoldable pub digits_after : ℕ → ℕ → List ℕ
digits_after zero n = []
digits_after (suc count) n = cond (n == 0) [] (digit_glyph false (n / 16 ^ count) ∷ digits_after count (n % 16 ^ count))

-- The number of hexadecimal digits that hold a fraction.
abbrev pub digit_count : Width → ℕ
digit_count w = (w.fraction + 3) / 4

-- A fraction with zero bits appended to fill its last digit.
abbrev pub filled_fraction : Width → ℕ → ℕ
filled_fraction w fraction = fraction * 2 ^ (4 * digit_count w - w.fraction)

-- The digits of fraction / 2 ^ w.fraction.
abbrev pub fraction_digits : Width → ℕ → List ℕ
fraction_digits w fraction = digits_after (digit_count w) (filled_fraction w fraction)

-- The exponent up - down, with its sign.
abbrev pub exponent_text : ℕ → ℕ → List ℕ
exponent_text up down = if nat_lt up down then 45 ∷ decimal (down - up) else 43 ∷ decimal (up - down)

-- A point and the digits after it; no point if there are no digits.
abbrev pub after_point : List ℕ → List ℕ
after_point [] = []
after_point (d ∷ ds) = 46 ∷ (d ∷ ds)

-- The text of a normal number, with its leading 1, which the bits do not encode. The numbers are the exponent and the
-- fraction in its bits.
abbrev pub normal_text : Width → ℕ → ℕ → List ℕ
normal_text w exponent fraction = codes "0x1" ++ (after_point (fraction_digits w fraction) ++ (112 ∷ exponent_text exponent (bias w)))

-- How often n is doubled until it reaches the limit, but at most as often as the first argument says.
unfoldable pub doublings : ℕ → ℕ → ℕ → ℕ
doublings zero limit n = 0
doublings (suc most) limit n = cond (nat_lt n limit) (suc (doublings most limit (2 * n))) 0

-- The number of bits by which a fraction is shifted left, until its highest 1 is directly above the bits of the
-- fraction.
abbrev pub shift : Width → ℕ → ℕ
shift w fraction = doublings w.fraction (2 ^ w.fraction) fraction

-- The fraction after this shift, without that 1.
abbrev pub shifted_fraction : Width → ℕ → ℕ
shifted_fraction w fraction = fraction * 2 ^ shift w fraction - 2 ^ w.fraction

-- The text of a subnormal number, by its fraction. It has a point even if no digit follows.
abbrev pub subnormal_text : Width → ℕ → List ℕ
subnormal_text w fraction =
    codes "0x1." ++ (fraction_digits w (shifted_fraction w fraction) ++ (112 ∷ exponent_text 1 (bias w + shift w fraction)))

-- Infinity, a canonical NaN, or any other NaN with its payload, by the fraction.
abbrev pub special_text : Width → ℕ → List ℕ
special_text w fraction =
    if fraction == 0 then codes "inf"
    else (if fraction == canonical_payload w then codes "nan"
    else codes "nan:0x" ++ digits 16 false fraction)

-- The text of a finite number without a sign, by the exponent and the fraction in its bits.
abbrev pub finite_text : Width → ℕ → ℕ → List ℕ
finite_text w exponent fraction =
    if exponent == 0 then (if fraction == 0 then codes "0x0p+0" else subnormal_text w fraction)
    else normal_text w exponent fraction

-- The text of a float without a sign, by the exponent and the fraction in its bits.
unfoldable pub unsigned_text : Width → ℕ → ℕ → List ℕ
unsigned_text w exponent fraction = if exponent == greatest_exponent w then special_text w fraction else finite_text w exponent fraction

-- The text of the float with these bits.
unfoldable pub float_text : Width → ℕ → List ℕ
float_text w bits =
    if nat_lt bits (sign_bit w) then unsigned_text w (bits / 2 ^ w.fraction) (bits % 2 ^ w.fraction)
    else 45 ∷ unsigned_text w ((bits - sign_bit w) / 2 ^ w.fraction) ((bits - sign_bit w) % 2 ^ w.fraction)

-- ---- The calls

-- The comment after infinity and after NaN, by whether the number is negative and by its fraction.
abbrev pub remark : Bool → ℕ → List ℕ
remark negative fraction = if fraction == 0 then (if negative then codes "(;=-inf;)" else codes "(;=inf;)") else codes "(;=NaN;)"

-- The calls for infinity or NaN: a literal, and then the comment. The second argument says whether the number is
-- negative.
abbrev pub special_calls : Width → Bool → ℕ → List Call
special_calls w negative fraction =
    Start Literal ∷ (Text (special_text w fraction ++ codes " ") ∷ (Start Comment ∷ (Text (remark negative fraction) ∷ (Start Reset ∷ []))))

-- The calls for a finite number without a sign: a literal.
abbrev pub finite_calls : Width → ℕ → ℕ → List Call
finite_calls w exponent fraction = Start Literal ∷ (Text (finite_text w exponent fraction) ∷ (Start Reset ∷ []))

-- The calls without the sign, which the comment repeats: `negative` says whether the number has one.
unfoldable pub unsigned_calls : Width → Bool → ℕ → ℕ → List Call
unsigned_calls w negative exponent fraction =
    if exponent == greatest_exponent w then special_calls w negative fraction else finite_calls w exponent fraction

-- The calls for the float with these bits. The sign comes before the style of literals.
unfoldable pub float_calls : Width → ℕ → List Call
float_calls w bits =
    if nat_lt bits (sign_bit w) then unsigned_calls w false (bits / 2 ^ w.fraction) (bits % 2 ^ w.fraction)
    else Text (codes "-") ∷ unsigned_calls w true ((bits - sign_bit w) / 2 ^ w.fraction) ((bits - sign_bit w) % 2 ^ w.fraction)
