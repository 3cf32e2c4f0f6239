-- The texts of floats read back.
use Rattle.std.proofs.Common.{◌≡◌, ℕ, zero, suc, ◌+◌, ◌*◌, ◌/◌, ◌%◌, ◌^◌, ◌-◌, ◌<◌, ◌≤◌, Bool, true, false, cond, eqb, ltb, List, [], ◌∷◌, ◌++◌, length, Some, option_map, refl, sym, ap, ◌∙◌, subst, arith, decimal, codes, lit<, lit≤, pow_pos, pow-add, pow-suc, mod-lt, div-add-mod', mul_assoc, mul_right_comm, mul-div_cancel, add-mul, le-mul_of_pos_right, lt-ltb, le-ltb, ltb-false, ltb-true, eqb-true, ⊎_elim}
use Rattle.std.proofs.Math.Nat.{one-le-pow, mul-mod_left, eq_of_mul-eq-mul_right, pow-zero, pow-le-pow_right}
use Rattle.std.proofs.lemmas.Bool.{cases_lt, false_from_ne_true, eqb-false}
use Rattle.std.proofs.lemmas.Nat.{div_below, shr_below}
use Rattle.std.proofs.lemmas.Str.{digit_value-digit_char}
use Rattle.std.specs.Char.{digit_value}
use Rattle.std.specs.Fmt.{digits, digit_glyph}
use Rattle.std.specs.Str.Parse.{digits_value_after, AllDigits}
use Rattle.std.proofs.lemmas.Fmt.{decimal_is_IsNumeral, digits_is_IsNumeral}
use Rattle.wasmprinter_spec.specs.Character.{class}
use Rattle.wasmprinter_spec.specs.Numeral.{numeral}
use Rattle.wasmprinter_spec.specs.Float.{Width, IsWidth, single, double, bias, greatest_exponent, sign_bit, magnitude, Scaled, split_at, is_power, with_digits_after, exponent_of, hexfloat, least_exponent, units, bits_by_halving, bits_of, bits_with_units, unsigned_float, float}
use Rattle.wasmprinter_spec.specs.FloatText.{digits_after, digit_count, fraction_digits, exponent_text, after_point, normal_text, doublings, shift, shifted_fraction, subnormal_text, special_text, finite_text, unsigned_text, float_text}
use Rattle.wasmprinter_spec.proofs.Fractions.{power_16, digits_hold, filled_fraction-below, IsShift, shift-IsShift, shifted_fraction-below}
use Rattle.wasmprinter_spec.specs.Quoted.{all_id_chars}
use Rattle.wasmprinter_spec.proofs.Runs.{all_id_chars-append, all_id_chars-digits}
use Rattle.wasmprinter_laws.proofs.Tokens.Runs.{is_word}
use Rattle.wasmprinter_laws.proofs.Tokens.Numbers.{run_hexadecimal, is_numeral_digits, without_underscores_digits, numeral-decimal, numeral-digits}

-- ---- the digits after a point

record HasDigits (count n before : ℕ) (ds : List ℕ) : Type 0 where
  digits : AllDigits 16 ds
  rest : ℕ
  length_is : length ds + rest ≡ count
  value : digits_value_after 16 before ds * 16 ^ rest ≡ before * 16 ^ count + n

after : (count n before : ℕ) → n < 16 ^ count → HasDigits count n before (digits_after count n)
unfolding digits_after
after zero n before h = record { digits = tt; rest = 0; length_is = refl; value = omega (arith, pow-zero 16) }
after (suc count) n before h =
    let top : 16 ^ suc count ≡ 16 ^ count * 16 = pow-suc 16 count in
    let digit : n / 16 ^ count < 16 = div_below n (16 ^ count) 16 (power count) (omega (arith, top)) in
    by (eqb n 0) refl digit (after count (n % 16 ^ count) (before * 16 + digit_value (digit_glyph false (n / 16 ^ count))) (mod-lt n (power count)))
  where
    power : (k : ℕ) → 0 < 16 ^ k
    power k = one-le-pow k 16 (lit< tt)

    by : (b : Bool) → eqb n 0 ≡ b → n / 16 ^ count < 16
        → HasDigits count (n % 16 ^ count) (before * 16 + digit_value (digit_glyph false (n / 16 ^ count))) (digits_after count (n % 16 ^ count))
        → HasDigits (suc count) n before (cond b [] (digit_glyph false (n / 16 ^ count) ∷ digits_after count (n % 16 ^ count)))
    by true e digit rest = record { digits = tt; rest = suc count; length_is = omega arith; value = omega (arith, eqb-true n 0 e) }
    by false e digit rest =
        let is : digit_value (digit_glyph false (n / 16 ^ count)) ≡ n / 16 ^ count = digit_value-digit_char (n / 16 ^ count) (omega arith) in
        let split : n / 16 ^ count * 16 ^ count + n % 16 ^ count ≡ n = div-add-mod' n (16 ^ count) in
        let top : 16 ^ suc count ≡ 16 ^ count * 16 = pow-suc 16 count in
        let apart : (before * 16 + n / 16 ^ count) * 16 ^ count ≡ before * 16 * 16 ^ count + n / 16 ^ count * 16 ^ count = add-mul (before * 16) (n / 16 ^ count) (16 ^ count) in
        let value : digits_value_after 16 (before * 16 + digit_value (digit_glyph false (n / 16 ^ count))) (digits_after count (n % 16 ^ count)) * 16 ^ rest.rest ≡ (before * 16 + n / 16 ^ count) * 16 ^ count + n % 16 ^ count =
        rest.value ∙ ap (λ d. (before * 16 + d) * 16 ^ count + n % 16 ^ count) is in
        record {
          digits = (omega arith, rest.digits);
          rest = rest.rest;
          length_is = omega (arith, rest.length_is);
          value = value ∙ rw top (omega arith);
        }

-- ---- splitting a text

abbrev Lacks : (ℕ → Bool) → List ℕ → Type 0
Lacks p [] = Unit {0}
Lacks p (b ∷ bs) = (p b ≡ false) × Lacks p bs

cut_found : (p : ℕ → Bool) (ds : List ℕ) (b : ℕ) (bs : List ℕ) → Lacks p ds → p b ≡ true → split_at p (ds ++ (b ∷ bs)) ≡ record { before = ds; after = Some bs }
cut_found p [] b bs h e = rw e
cut_found p (d ∷ ds) b bs h e = rw (h.0, cut_found p ds b bs h.1 e)

-- A hexadecimal digit differs from every byte whose digit value is 16 or more.
not_digit : (c k : ℕ) → digit_value c < 16 → 16 ≤ digit_value k → eqb c k ≡ false
not_digit c k h beyond = false_from_ne_true (eqb c k) (λ e. let same : digit_value k < 16 = rw (eqb-true c k e) at h in absurd (omega arith))

digits_lack_power : (ds : List ℕ) → AllDigits 16 ds → Lacks is_power ds
digits_lack_power [] h = tt
digits_lack_power (d ∷ ds) h = (rw (not_digit d 112 h.0 (lit≤ tt), not_digit d 80 h.0 (lit≤ tt)), digits_lack_power ds h.1)

-- ---- bytes of words

run_pointed : (ds : List ℕ) → all_id_chars ds ≡ true → all_id_chars (after_point ds) ≡ true
unfolding class
run_pointed [] h = refl
run_pointed (d ∷ ds) h = h

-- ---- a significand and an exponent

with_digits_after-digits : (n : ℕ) (ds : List ℕ) → AllDigits 16 ds → with_digits_after n (Some ds) ≡ Some (digits_value_after 16 n ds, length ds)
with_digits_after-digits n [] h = refl
with_digits_after-digits n (d ∷ ds) h =
    rw (is_numeral_digits 16 (d ∷ ds) (omega arith, h), without_underscores_digits 16 (d ∷ ds) (lit≤ tt) h)

-- The number that these digits write after `0x1`, with this exponent
abbrev one_and : List ℕ → ℕ → ℕ → Scaled
one_and ds rises falls = record { significand = digits_value_after 16 1 ds; up = rises; down = falls + 4 * length ds }

hexfloat-after_point : (ds ex : List ℕ) (rises falls : ℕ) → AllDigits 16 ds → exponent_of (Some ex) ≡ Some (rises, falls) →
    hexfloat (49 ∷ (46 ∷ (ds ++ (112 ∷ ex)))) ≡ Some (one_and ds rises falls)
unfolding numeral
hexfloat-after_point ds ex rises falls h e =
    rw (cut_found is_power ds 112 ex (digits_lack_power ds h) refl, with_digits_after-digits 1 ds h, e)

hexfloat-normal : (ds ex : List ℕ) (rises falls : ℕ) → AllDigits 16 ds → exponent_of (Some ex) ≡ Some (rises, falls) →
    hexfloat (49 ∷ (after_point ds ++ (112 ∷ ex))) ≡ Some (one_and ds rises falls)
unfolding numeral
hexfloat-normal [] ex rises falls h e = rw e
hexfloat-normal (d ∷ ds) ex rises falls h e = hexfloat-after_point (d ∷ ds) ex rises falls h e

record HasExponent (up down : ℕ) : Type 0 where
  rises : ℕ
  falls : ℕ
  reads : exponent_of (Some (exponent_text up down)) ≡ Some (rises, falls)
  run : all_id_chars (exponent_text up down) ≡ true
  same : rises + down ≡ up + falls

run_decimal : (n : ℕ) → n < 2 ^ 64 → all_id_chars (decimal n) ≡ true
run_decimal n h =
    let ((some, are_digits), value) = decimal_is_IsNumeral n h in
    all_id_chars-digits (decimal n) are_digits

steps : (up down : ℕ) → up < 2 ^ 64 → down < 2 ^ 64 → HasExponent up down
unfolding class
steps up down a b = ⊎_elim
    (λ l. record {
      rises = 0;
      falls = down - up;
      reads = rw (lt-ltb up down l, numeral-decimal (down - up) (omega arith));
      run = rw (lt-ltb up down l) (run_decimal (down - up) (omega arith));
      same = omega arith;
    })
    (λ l. record {
      rises = up - down;
      falls = 0;
      reads = rw (le-ltb up down l, numeral-decimal (up - down) (omega arith));
      run = rw (le-ltb up down l) (run_decimal (up - down) (omega arith));
      same = omega arith;
    })
    (cases_lt up down)

-- ---- units

pub units-exact : (u : ℕ) (s : Scaled) (n : ℕ) → s.significand * 2 ^ (s.up + u) ≡ n * 2 ^ s.down → units u s ≡ Some n
unfolding units
units-exact u s n e = rw (e, mul-mod_left n (2 ^ s.down), mul-div_cancel n (pow_pos s.down))

raised : (n i j : ℕ) → n * 2 ^ i * 2 ^ j ≡ n * 2 ^ (i + j)
raised n i j = mul_assoc n (2 ^ i) (2 ^ j) ∙ ap (λ t. n * t) (sym (pow-add 2 i j))

raised_alike : (n i j : ℕ) → i ≡ j → n * 2 ^ i ≡ n * 2 ^ j
raised_alike n i j e = ap (λ k. n * 2 ^ k) e

-- If `v` is `n` shifted up by `s` bits, without 4 * r low bits, then the value of `n` gives the value of `v`.
balanced : (v n units s f r len x falls : ℕ) → v * 2 ^ (4 * r) ≡ n * 2 ^ s → 4 * len + 4 * r ≡ f + s → n * 2 ^ x ≡ units * 2 ^ (falls + f) → v * 2 ^ x ≡ units * 2 ^ (falls + 4 * len)
balanced v n units s f r len x falls short all even =
    eq_of_mul-eq-mul_right (2 ^ (4 * r)) (pow_pos (4 * r)) (v * 2 ^ x) (units * 2 ^ (falls + 4 * len))
    (mul_right_comm v (2 ^ x) (2 ^ (4 * r)) ∙ ap (λ t. t * 2 ^ x) short ∙ mul_right_comm n (2 ^ s) (2 ^ x) ∙ ap (λ t. t * 2 ^ s) even
    ∙ raised units (falls + f) s ∙ raised_alike units (falls + f + s) (falls + 4 * len + 4 * r) (omega arith) ∙ sym (raised units (falls + 4 * len) (4 * r)))

-- ---- bits of units

bits_by_halving-finds : (f k x n i : ℕ) → 2 ^ f ≤ n → n < 2 ^ suc f → i < k → bits_by_halving f k x (n * 2 ^ i) ≡ Some ((x + i) * 2 ^ f + (n - 2 ^ f))
unfolding bits_by_halving
bits_by_halving-finds f zero x n i low high h = absurd (omega arith)
bits_by_halving-finds f (suc k) x n zero low high h =
    let one : n * 2 ^ 0 ≡ n = omega arith in
    let same : x + 0 ≡ x = omega arith in
    rw (one, lt-ltb n (2 ^ suc f) high, same)
bits_by_halving-finds f (suc k) x n (suc i) low high h =
    let two : n * 2 ^ suc i ≡ n * 2 ^ i * 2 = ap (λ t. n * t) (pow-suc 2 i) ∙ sym (mul_assoc n (2 ^ i) 2) in
    let top : 2 ^ suc f ≡ 2 ^ f * 2 = pow-suc 2 f in
    let grows : n ≤ n * 2 ^ i = le-mul_of_pos_right n (pow_pos i) in
    let large : 2 ^ suc f ≤ n * 2 ^ i * 2 = omega arith in
    let next : suc x + i ≡ x + suc i = omega arith in
    rw (two, le-ltb (n * 2 ^ i * 2) (2 ^ suc f) large, mul-mod_left (n * 2 ^ i) 2, mul-div_cancel (n * 2 ^ i) (lit< tt), bits_by_halving-finds f k (suc x) n i low high (omega arith), next)

pub bits_of-small : (w : Width) (n : ℕ) → n < 2 ^ w.fraction → bits_of w n ≡ Some n
unfolding bits_of
bits_of-small w n h = rw (lt-ltb n (2 ^ w.fraction) h)

pub bits_of-normal : (w : Width) (x n : ℕ) → 1 ≤ x → x < greatest_exponent w → 2 ^ w.fraction ≤ n → n < 2 ^ suc w.fraction → bits_of w (n * 2 ^ (x - 1)) ≡ Some (x * 2 ^ w.fraction + (n - 2 ^ w.fraction))
unfolding bits_of
bits_of-normal w x n some high low top =
    let grows : n ≤ n * 2 ^ (x - 1) = le-mul_of_pos_right n (pow_pos (x - 1)) in
    let large : 2 ^ w.fraction ≤ n * 2 ^ (x - 1) = omega arith in
    let last : 1 + (x - 1) ≡ x = omega arith in
    rw (le-ltb (n * 2 ^ (x - 1)) (2 ^ w.fraction) large, bits_by_halving-finds w.fraction (greatest_exponent w - 1) 1 n (x - 1) low top (omega arith), last)

-- ---- widths

-- The digits of the fraction of a number that is at least 1 and below 2
record HasFraction (w : Width) (fraction : ℕ) (ds : List ℕ) : Type 0 where
  digits : AllDigits 16 ds
  rest : ℕ
  length_is : 4 * length ds + 4 * rest ≡ w.fraction + (4 * digit_count w - w.fraction)
  value : digits_value_after 16 1 ds * 2 ^ (4 * rest) ≡ (2 ^ w.fraction + fraction) * 2 ^ (4 * digit_count w - w.fraction)

fraction_of : (w : Width) (fraction : ℕ) → fraction < 2 ^ w.fraction → HasFraction w fraction (fraction_digits w fraction)
fraction_of w fraction h =
    let s : ℕ = 4 * digit_count w - w.fraction in
    let b : HasDigits (digit_count w) (fraction * 2 ^ s) 1 (fraction_digits w fraction) = after (digit_count w) (fraction * 2 ^ s) 1 (filled_fraction-below w fraction h) in
    let value : digits_value_after 16 1 (fraction_digits w fraction) * 16 ^ b.rest ≡ 1 * 16 ^ digit_count w + fraction * 2 ^ s = b.value in
    record {
      digits = b.digits;
      rest = b.rest;
      length_is = omega (arith, b.length_is);
      value = ap (λ t. digits_value_after 16 1 (fraction_digits w fraction) * t) (sym (power_16 b.rest)) ∙ value
          ∙ ap (λ t. 1 * t + fraction * 2 ^ s) (digits_hold w) ∙ omega (arith, add-mul (2 ^ w.fraction) fraction (2 ^ s));
    }

-- ---- doublings

doublings_le : (most limit n : ℕ) → doublings most limit n ≤ most
unfolding doublings
doublings_le zero limit n = omega arith
doublings_le (suc most) limit n = by (ltb n limit) (doublings_le most limit (2 * n))
  where
    by : (b : Bool) → doublings most limit (2 * n) ≤ most → cond b (suc (doublings most limit (2 * n))) 0 ≤ suc most
    by true h = omega arith
    by false h = omega arith

-- ---- finite numbers

-- The text has no sign, is a word, and reads as these bits.
record Reads (w : Width) (t : List ℕ) (n : ℕ) : Type 0 where
  unsigned : unsigned_float w t ≡ Some n
  plain : float w t ≡ Some n
  word : is_word t ≡ true
  run : all_id_chars t ≡ true

-- If the digits after `0x` read as a number with these bits, so does the whole text.
after_x : (w : Width) (rest : List ℕ) (s : Scaled) (n : ℕ) → hexfloat rest ≡ Some s → bits_with_units w (units (least_exponent w) s) ≡ Some n → all_id_chars rest ≡ true → Reads w (48 ∷ (120 ∷ rest)) n
unfolding unsigned_float float class
after_x w rest s n e f run = record { unsigned = rw (e, f); plain = rw (e, f); word = run; run = run }

power_64 : (k : ℕ) → k ≤ 16 → 2 ^ k ≤ 2 ^ 16
power_64 k h = pow-le-pow_right (lit< tt) h

normal-reads : (w : Width) → IsWidth w → (x fraction : ℕ) → 1 ≤ x → x < greatest_exponent w → fraction < 2 ^ w.fraction → Reads w (normal_text w x fraction) (magnitude w x fraction)
unfolding class
normal-reads w is x fraction some high h =
    let f : HasFraction w fraction (fraction_digits w fraction) = fraction_of w fraction h in
    let wide : 2 ^ w.exponent ≤ 2 ^ 16 = power_64 w.exponent is.exponent.1 in
    let wide_bias : 2 ^ (w.exponent - 1) ≤ 2 ^ 16 = power_64 (w.exponent - 1) (omega (arith, is.exponent.1)) in
    let s : HasExponent x (bias w) = steps x (bias w) (omega arith) (omega arith) in
    let n : ℕ = 2 ^ w.fraction + fraction in
    let below : n < 2 ^ suc w.fraction = omega (arith, pow-suc 2 w.fraction) in
    let even : n * 2 ^ (s.rises + least_exponent w) ≡ n * 2 ^ (x - 1) * 2 ^ (s.falls + w.fraction) =
    raised_alike n (s.rises + least_exponent w) (x - 1 + (s.falls + w.fraction)) (omega (arith, s.same, is.fraction.0)) ∙ sym (raised n (x - 1) (s.falls + w.fraction)) in
    let exact : units (least_exponent w) (one_and (fraction_digits w fraction) s.rises s.falls) ≡ Some (n * 2 ^ (x - 1)) =
    units-exact (least_exponent w) (one_and (fraction_digits w fraction) s.rises s.falls) (n * 2 ^ (x - 1))
    (balanced (digits_value_after 16 1 (fraction_digits w fraction)) n (n * 2 ^ (x - 1)) (4 * digit_count w - w.fraction) w.fraction f.rest (length (fraction_digits w fraction)) (s.rises + least_exponent w) s.falls f.value f.length_is even) in
    let bits : bits_of w (n * 2 ^ (x - 1)) ≡ Some (x * 2 ^ w.fraction + (n - 2 ^ w.fraction)) = bits_of-normal w x n some high (omega arith) below in
    let same : n - 2 ^ w.fraction ≡ fraction = omega arith in
    after_x w (49 ∷ (after_point (fraction_digits w fraction) ++ (112 ∷ exponent_text x (bias w)))) (one_and (fraction_digits w fraction) s.rises s.falls) (magnitude w x fraction)
    (hexfloat-normal (fraction_digits w fraction) (exponent_text x (bias w)) s.rises s.falls f.digits s.reads)
    (ap (bits_with_units w) exact ∙ bits ∙ ap (λ t. Some (x * 2 ^ w.fraction + t)) same)
    (all_id_chars-append (after_point (fraction_digits w fraction)) (112 ∷ exponent_text x (bias w)) (run_pointed (fraction_digits w fraction) (run_hexadecimal (fraction_digits w fraction) f.digits)) s.run)

subnormal-reads : (w : Width) → IsWidth w → (fraction : ℕ) → 0 < fraction → fraction < 2 ^ w.fraction → Reads w (subnormal_text w fraction) (magnitude w 0 fraction)
unfolding class
subnormal-reads w is fraction some h =
    let k : ℕ = shift w fraction in
    let d : IsShift (2 ^ w.fraction) fraction k = shift-IsShift w fraction some h in
    let short : k ≤ w.fraction = doublings_le w.fraction (2 ^ w.fraction) fraction in
    let n : ℕ = fraction * 2 ^ k in
    let m : ℕ = shifted_fraction w fraction in
    let f : HasFraction w m (fraction_digits w m) = fraction_of w m (shifted_fraction-below w fraction some h) in
    let wide_bias : 2 ^ (w.exponent - 1) ≤ 2 ^ 16 = power_64 (w.exponent - 1) (omega (arith, is.exponent.1)) in
    let s : HasExponent 1 (bias w + k) = steps 1 (bias w + k) (lit< tt) (omega (arith, is.fraction.1)) in
    let whole : 2 ^ w.fraction + m ≡ n = omega (arith, d.low) in
    let value : digits_value_after 16 1 (fraction_digits w m) * 2 ^ (4 * f.rest) ≡ n * 2 ^ (4 * digit_count w - w.fraction) =
    f.value ∙ ap (λ t. t * 2 ^ (4 * digit_count w - w.fraction)) whole in
    let even : n * 2 ^ (s.rises + least_exponent w) ≡ fraction * 2 ^ (s.falls + w.fraction) =
    raised fraction k (s.rises + least_exponent w) ∙ raised_alike fraction (k + (s.rises + least_exponent w)) (s.falls + w.fraction) (omega (arith, s.same, is.fraction.0)) in
    let exact : units (least_exponent w) (one_and (fraction_digits w m) s.rises s.falls) ≡ Some fraction =
    units-exact (least_exponent w) (one_and (fraction_digits w m) s.rises s.falls) fraction
    (balanced (digits_value_after 16 1 (fraction_digits w m)) n fraction (4 * digit_count w - w.fraction) w.fraction f.rest (length (fraction_digits w m)) (s.rises + least_exponent w) s.falls value f.length_is even) in
    after_x w (49 ∷ (46 ∷ (fraction_digits w m ++ (112 ∷ exponent_text 1 (bias w + k))))) (one_and (fraction_digits w m) s.rises s.falls) (magnitude w 0 fraction)
    (hexfloat-after_point (fraction_digits w m) (exponent_text 1 (bias w + k)) s.rises s.falls f.digits s.reads)
    (ap (bits_with_units w) exact ∙ bits_of-small w fraction h ∙ ap Some (omega arith))
    (all_id_chars-append (fraction_digits w m) (112 ∷ exponent_text 1 (bias w + k)) (run_hexadecimal (fraction_digits w m) f.digits) s.run)

zero-reads : (w : Width) → Reads w (codes "0x0p+0") (magnitude w 0 0)
unfolding numeral class
zero-reads w =
    let none : Scaled = record { significand = 0; up = 0; down = 0 } in
    after_x w (codes "0p+0") none (magnitude w 0 0) refl
    (ap (bits_with_units w) (units-exact (least_exponent w) none 0 (omega arith)) ∙ bits_of-small w 0 (pow_pos w.fraction) ∙ ap Some (omega arith))
    refl

finite-reads : (w : Width) → IsWidth w → (x fraction : ℕ) → x < greatest_exponent w → fraction < 2 ^ w.fraction → Reads w (finite_text w x fraction) (magnitude w x fraction)
finite-reads w is x fraction high h = by (eqb x 0) (eqb fraction 0) refl refl
  where
    by : (b c : Bool) → eqb x 0 ≡ b → eqb fraction 0 ≡ c
        → Reads w (cond b (cond c (codes "0x0p+0") (subnormal_text w fraction)) (normal_text w x fraction)) (magnitude w x fraction)
    by true true e f = rw (eqb-true x 0 e, eqb-true fraction 0 f) (zero-reads w)
    by true false e f =
        let some : fraction ≡ 0 → ⊥ = eqb-false fraction 0 f in
        rw (eqb-true x 0 e) (subnormal-reads w is fraction (omega arith) h)
    by false c e f = let some : x ≡ 0 → ⊥ = eqb-false x 0 e in normal-reads w is x fraction (omega arith) high h

-- ---- infinity and NaN

infinity-reads : (w : Width) → Reads w (codes "inf") (magnitude w (greatest_exponent w) 0)
unfolding unsigned_float float class
infinity-reads w = record { unsigned = refl; plain = refl; word = refl; run = refl }

nan-reads : (w : Width) → Reads w (codes "nan") (magnitude w (greatest_exponent w) (2 ^ (w.fraction - 1)))
unfolding unsigned_float float class
nan-reads w = record { unsigned = refl; plain = refl; word = refl; run = refl }

payload-reads : (w : Width) → IsWidth w → (fraction : ℕ) → 0 < fraction → fraction < 2 ^ w.fraction → Reads w (codes "nan:0x" ++ digits 16 false fraction) (magnitude w (greatest_exponent w) fraction)
unfolding unsigned_float float class
payload-reads w is fraction some h =
    let wide : 2 ^ w.fraction ≤ 2 ^ 64 = pow-le-pow_right (lit< tt) is.fraction.1 in
    let read : numeral 16 (digits 16 false fraction) ≡ Some fraction = numeral-digits fraction (omega arith) in
    let ((nonempty, are_digits), value) = digits_is_IsNumeral 16 false (lit≤ tt) (lit≤ tt) fraction (omega arith) in
    let run : all_id_chars (digits 16 false fraction) ≡ true = run_hexadecimal (digits 16 false fraction) are_digits in
    record {
      unsigned = rw (read, lt-ltb 0 fraction some, lt-ltb fraction (2 ^ w.fraction) h);
      plain = rw (read, lt-ltb 0 fraction some, lt-ltb fraction (2 ^ w.fraction) h);
      word = run;
      run = run;
    }

special-reads : (w : Width) → IsWidth w → (fraction : ℕ) → fraction < 2 ^ w.fraction → Reads w (special_text w fraction) (magnitude w (greatest_exponent w) fraction)
special-reads w is fraction h = by (eqb fraction 0) (eqb fraction (2 ^ (w.fraction - 1))) refl refl
  where
    by : (b c : Bool) → eqb fraction 0 ≡ b → eqb fraction (2 ^ (w.fraction - 1)) ≡ c
        → Reads w (cond b (codes "inf") (cond c (codes "nan") (codes "nan:0x" ++ digits 16 false fraction))) (magnitude w (greatest_exponent w) fraction)
    by true c e f = rw (eqb-true fraction 0 e) (infinity-reads w)
    by false true e f = rw (eqb-true fraction (2 ^ (w.fraction - 1)) f) (nan-reads w)
    by false false e f = let some : fraction ≡ 0 → ⊥ = eqb-false fraction 0 e in payload-reads w is fraction (omega arith) h

-- ---- all bits

unsigned-reads : (w : Width) → IsWidth w → (x fraction : ℕ) → x < 2 ^ w.exponent → fraction < 2 ^ w.fraction → Reads w (unsigned_text w x fraction) (magnitude w x fraction)
unfolding unsigned_text
unsigned-reads w is x fraction high h = by (eqb x (greatest_exponent w)) refl
  where
    by : (b : Bool) → eqb x (greatest_exponent w) ≡ b → Reads w (cond b (special_text w fraction) (finite_text w x fraction)) (magnitude w x fraction)
    by true e = rw (eqb-true x (greatest_exponent w) e) (special-reads w is fraction h)
    by false e = let other : x ≡ greatest_exponent w → ⊥ = eqb-false x (greatest_exponent w) e in finite-reads w is x fraction (omega arith) h

magnitude-reads : (w : Width) → IsWidth w → (n : ℕ) → n < sign_bit w → Reads w (unsigned_text w (n / 2 ^ w.fraction) (n % 2 ^ w.fraction)) n
magnitude-reads w is n h =
    let whole : n / 2 ^ w.fraction * 2 ^ w.fraction + n % 2 ^ w.fraction ≡ n = div-add-mod' n (2 ^ w.fraction) in
    subst (Reads w (unsigned_text w (n / 2 ^ w.fraction) (n % 2 ^ w.fraction))) whole
    (unsigned-reads w is (n / 2 ^ w.fraction) (n % 2 ^ w.fraction) (shr_below n w.exponent w.fraction h) (mod-lt n (pow_pos w.fraction)))

-- The text of the bits of a float reads as these bits.
pub float_text-reads : (w : Width) → IsWidth w → (bits : ℕ) → bits < 2 * sign_bit w → float w (float_text w bits) ≡ Some bits
unfolding float_text float
float_text-reads w is bits h = by (ltb bits (sign_bit w)) refl
  where
    by : (b : Bool) → ltb bits (sign_bit w) ≡ b
        → float w (cond b (unsigned_text w (bits / 2 ^ w.fraction) (bits % 2 ^ w.fraction)) (45 ∷ unsigned_text w ((bits - sign_bit w) / 2 ^ w.fraction) ((bits - sign_bit w) % 2 ^ w.fraction))) ≡ Some bits
    by true e = Reads.plain (magnitude-reads w is bits (ltb-true bits (sign_bit w) e))
    by false e =
        let not_less : sign_bit w ≤ bits = ltb-false bits (sign_bit w) e in
        let r : Reads w (unsigned_text w ((bits - sign_bit w) / 2 ^ w.fraction) ((bits - sign_bit w) % 2 ^ w.fraction)) (bits - sign_bit w) = magnitude-reads w is (bits - sign_bit w) (omega arith) in
        ap (option_map (λ n. sign_bit w + n)) r.unsigned ∙ ap Some (omega arith)

pub is_word-float_text : (w : Width) → IsWidth w → (bits : ℕ) → bits < 2 * sign_bit w → is_word (float_text w bits) ≡ true
unfolding float_text class
is_word-float_text w is bits h = by (ltb bits (sign_bit w)) refl
  where
    by : (b : Bool) → ltb bits (sign_bit w) ≡ b
        → is_word (cond b (unsigned_text w (bits / 2 ^ w.fraction) (bits % 2 ^ w.fraction)) (45 ∷ unsigned_text w ((bits - sign_bit w) / 2 ^ w.fraction) ((bits - sign_bit w) % 2 ^ w.fraction))) ≡ true
    by true e = Reads.word (magnitude-reads w is bits (ltb-true bits (sign_bit w) e))
    by false e =
        let not_less : sign_bit w ≤ bits = ltb-false bits (sign_bit w) e in
        Reads.run (magnitude-reads w is (bits - sign_bit w) (omega arith))

pub single-reads : (bits : ℕ) → bits < 2 ^ 32 → float single (float_text single bits) ≡ Some bits
single-reads bits h = float_text-reads single (record { exponent = (lit≤ tt, lit≤ tt); fraction = (lit≤ tt, lit≤ tt) }) bits h

pub double-reads : (bits : ℕ) → bits < 2 ^ 64 → float double (float_text double bits) ≡ Some bits
double-reads bits h = float_text-reads double (record { exponent = (lit≤ tt, lit≤ tt); fraction = (lit≤ tt, lit≤ tt) }) bits h
