-- Floating-point numbers by their bits: their values (section 2.2 of the standard, "Floating-Point"; section 4.3,
-- "Representations") and how their texts are read (section 6.3, "Floating-Point"). All definitions use integers: a
-- value is a multiple of the least positive number of its width, and hexadecimal digits represent an integer times
-- a power of two. A text is read only if its value is that of some bits: nothing is rounded, and of the standard's
-- texts the decimal ones (such as `1.5`, `1e3` and `10`) are not read.
use Rattle.std.specs.Prelude.{◌≡◌, ℕ, zero, suc, ◌+◌, ◌*◌, ◌/◌, ◌%◌, ◌^◌, ◌-◌, ◌<◌, ◌≤◌, Bool, cond, ◌&&◌, ◌||◌, ◌==◌, nat_lt, List, [], ◌∷◌, length, take, drop, codes, bytes_eq, Option, Some, None, option_map, if◌then◌else◌}
use Rattle.std.specs.Str.Parse.{digits_value_after}
use Rattle.wasmprinter_spec.specs.Numeral.{is_numeral, without_underscores, numeral}

-- ---- Widths (section 4.3, "Representations")

-- The number of bits of the exponent, and of the fraction after it. One sign bit comes before them.
pub record Width : Type 0 where
  pub exponent : ℕ
  pub fraction : ℕ

-- The width of f32.
abbrev pub single : Width
single = record { exponent = 8; fraction = 23 }

-- The width of f64.
abbrev pub double : Width
double = record { exponent = 11; fraction = 52 }

-- The bias: the number that is subtracted from the bits of an exponent.
abbrev pub bias : Width → ℕ
bias w = 2 ^ (w.exponent - 1) - 1

-- The exponent of infinity and of NaN.
abbrev pub greatest_exponent : Width → ℕ
greatest_exponent w = 2 ^ w.exponent - 1

-- The sign bit alone.
abbrev pub sign_bit : Width → ℕ
sign_bit w = 2 ^ (w.exponent + w.fraction)

-- The bits with this exponent and fraction, without a sign.
abbrev pub magnitude : Width → ℕ → ℕ → ℕ
magnitude w exponent fraction = exponent * 2 ^ w.fraction + fraction

-- The payload of a canonical NaN: the highest bit of the fraction.
abbrev pub canonical_payload : Width → ℕ
canonical_payload w = 2 ^ (w.fraction - 1)

-- The widths to which the laws apply.
pub record IsWidth (w : Width) : Type 0 where
  pub exponent : (2 ≤ w.exponent) × (w.exponent ≤ 16)
  pub fraction : (1 ≤ w.fraction) × (w.fraction ≤ 64)

-- ---- Values (section 2.2, "Floating-Point")

-- The least positive number of a width is 2 ^ -least_exponent.
abbrev pub least_exponent : Width → ℕ
least_exponent w = bias w + w.fraction - 1

-- The value of the finite number with these bits, as a multiple of the least positive number. If the exponent is
-- 0, it is the fraction itself. Otherwise it is the fraction with a leading 1, doubled for each exponent after the
-- first.
unfoldable pub units_of : Width → ℕ → ℕ
units_of w bits =
    if bits / 2 ^ w.fraction == 0 then bits % 2 ^ w.fraction
    else (2 ^ w.fraction + bits % 2 ^ w.fraction) * 2 ^ (bits / 2 ^ w.fraction - 1)

-- The number significand * 2 ^ up / 2 ^ down.
pub record Scaled : Type 0 where
  pub significand : ℕ
  pub up : ℕ
  pub down : ℕ

-- The number with these bits is finite, and s is exactly this number.
pub record IsValue (w : Width) (bits : ℕ) (s : Scaled) : Type 0 where
  pub finite : bits < magnitude w (greatest_exponent w) 0
  pub value : s.significand * 2 ^ (s.up + least_exponent w) ≡ units_of w bits * 2 ^ s.down

-- ---- Bits of a value

-- A number as a multiple of the least positive number, or None if it is not a multiple.
unfoldable pub units : ℕ → Scaled → Option ℕ
units least s =
    if (s.significand * 2 ^ (s.up + least)) % 2 ^ s.down == 0 then Some (s.significand * 2 ^ (s.up + least) / 2 ^ s.down) else None

-- The bits of the number of n units, for n of at least 2 ^ fraction. If n has fraction + 1 bits, its highest bit
-- is not encoded. Otherwise n must be even, and the bits are those of n / 2 units with the next exponent.
-- `exponents` is the number of exponents that are left.
unfoldable pub bits_by_halving : ℕ → ℕ → ℕ → ℕ → Option ℕ
bits_by_halving fraction zero exponent n = None
bits_by_halving fraction (suc exponents) exponent n =
    if nat_lt n (2 ^ suc fraction) then Some (exponent * 2 ^ fraction + (n - 2 ^ fraction))
    else (if n % 2 == 0 then bits_by_halving fraction exponents (suc exponent) (n / 2) else None)

-- The bits of the finite number of n units, or None if there is no such number.
unfoldable pub bits_of : Width → ℕ → Option ℕ
bits_of w n = if nat_lt n (2 ^ w.fraction) then Some n else bits_by_halving w.fraction (greatest_exponent w - 1) 1 n

-- The bits of the finite number of that many units, or `None` if there is no such number.
abbrev pub bits_with_units : Width → Option ℕ → Option ℕ
bits_with_units w None = None
bits_with_units w (Some n) = bits_of w n

-- The bits of the finite number with this value, or None if there is no such number.
abbrev pub bits_with_value : Width → Option Scaled → Option ℕ
bits_with_value w None = None
bits_with_value w (Some s) = bits_with_units w (units (least_exponent w) s)

-- The bits of the NaN with this payload, which must be between 1 and the greatest fraction.
abbrev pub bits_with_payload : Width → Option ℕ → Option ℕ
bits_with_payload w None = None
bits_with_payload w (Some n) = if nat_lt 0 n && nat_lt n (2 ^ w.fraction) then Some (magnitude w (greatest_exponent w) n) else None

-- ---- Reading (section 6.3, "Floating-Point")

-- A text up to a byte, and the text after that byte, if the byte occurs.
pub record Split : Type 0 where
  pub before : List ℕ
  pub after : Option (List ℕ)

-- The split with the byte b before it.
abbrev pub split_after : ℕ → Split → Split
split_after b s = record { before = b ∷ s.before; after = s.after }

-- The text split at the first byte that passes the test.
abbrev pub split_at : (ℕ → Bool) → List ℕ → Split
split_at p [] = record { before = []; after = None }
split_at p (b ∷ bs) = cond (p b) (record { before = []; after = Some bs }) (split_after b (split_at p bs))

-- The byte is a point.
abbrev pub is_point : ℕ → Bool
is_point b = b == 46

-- The byte `p` or `P`.
abbrev pub is_power : ℕ → Bool
is_power b = (b == 112) || (b == 80)

-- The significand with the digits of n before the point, and the number of digits after the point. The point may
-- be the last byte.
abbrev pub with_digits_after : ℕ → Option (List ℕ) → Option (ℕ × ℕ)
with_digits_after n None = Some (n, 0)
with_digits_after n (Some []) = Some (n, 0)
with_digits_after n (Some (d ∷ ds)) =
    if is_numeral 16 (d ∷ ds)
    then Some (digits_value_after 16 n (without_underscores (d ∷ ds)), length (without_underscores (d ∷ ds))) else None

-- The significand, and the number of digits after the point. A digit must occur before the point.
abbrev pub significand_of : Option ℕ → Option (List ℕ) → Option (ℕ × ℕ)
significand_of None after = None
significand_of (Some n) after = with_digits_after n after

-- An exponent without the sign -, as the number of doublings and the number of halvings, which is 0.
abbrev pub steps_up : Option ℕ → Option (ℕ × ℕ)
steps_up None = None
steps_up (Some n) = Some (n, 0)

-- An exponent after the sign -, as the number of doublings, which is 0, and the number of halvings.
abbrev pub steps_down : Option ℕ → Option (ℕ × ℕ)
steps_down None = None
steps_down (Some n) = Some (0, n)

-- The decimal exponent after the `p`; 0 if there is no `p`.
abbrev pub exponent_of : Option (List ℕ) → Option (ℕ × ℕ)
exponent_of None = Some (0, 0)
exponent_of (Some []) = None
exponent_of (Some (b ∷ bs)) =
    if b == 45 then steps_down (numeral 10 bs)
    else (if b == 43 then steps_up (numeral 10 bs)
    else steps_up (numeral 10 (b ∷ bs)))

-- A significand scaled by an exponent. Each digit after the point divides by 16.
abbrev pub scaled_by : Option (ℕ × ℕ) → Option (ℕ × ℕ) → Option Scaled
scaled_by (Some m) (Some e) = Some (record { significand = m.0; up = e.0; down = e.1 + 4 * m.1 })
scaled_by _ _ = None

-- The number that hexadecimal digits, without the prefix 0x, represent.
abbrev pub hexfloat : List ℕ → Option Scaled
hexfloat bs =
    let c : Split = split_at is_power bs in
    let m : Split = split_at is_point c.before in
    scaled_by (significand_of (numeral 16 m.before) m.after) (exponent_of c.after)

-- The second list begins with the first.
abbrev pub begins_with : List ℕ → List ℕ → Bool
begins_with front bs = bytes_eq (take (length front) bs) front

-- The bits that a word without a sign represents.
unfoldable pub unsigned_float : Width → List ℕ → Option ℕ
unsigned_float w bs =
    if bytes_eq bs (codes "inf") then Some (magnitude w (greatest_exponent w) 0)
    else (if bytes_eq bs (codes "nan") then Some (magnitude w (greatest_exponent w) (canonical_payload w))
    else (if begins_with (codes "nan:0x") bs then bits_with_payload w (numeral 16 (drop 6 bs))
    else (if begins_with (codes "0x") bs then bits_with_value w (hexfloat (drop 2 bs))
    else None)))

-- The bits of the float of this width that a word represents.
unfoldable pub float : Width → List ℕ → Option ℕ
float w [] = None
float w (b ∷ bs) =
    if b == 45 then option_map (λ n. sign_bit w + n) (unsigned_float w bs)
    else (if b == 43 then unsigned_float w bs
    else unsigned_float w (b ∷ bs))
