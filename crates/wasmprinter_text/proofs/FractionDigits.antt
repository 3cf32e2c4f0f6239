-- The hexadecimal digits of a fraction, one after another.
use Rattle.std.proofs.Common.{◌≡◌, ℕ, zero, suc, ◌+◌, ◌*◌, ◌/◌, ◌%◌, ◌^◌, ◌-◌, ◌<◌, ◌≤◌, [], ◌∷◌, refl, ap, ◌∙◌, arith, pow_pos, pow-add, mod-lt, mul-le-mul_left, ne_eqb, false}
use Rattle.std.proofs.Math.Nat.{pow-zero}
use Rattle.std.proofs.lemmas.Nat.{div_below}
use Rattle.std.specs.Fmt.{digit_glyph}
use Rattle.wasmprinter_spec.specs.Float.{Width}
use Rattle.wasmprinter_spec.specs.FloatText.{digits_after, digit_count, fraction_digits, after_point}
use Rattle.wasmprinter_spec.proofs.Fractions.{power_16, filled_fraction-below}

pub digits_after-none : (count : ℕ) → digits_after count 0 ≡ []
unfolding digits_after
digits_after-none zero = refl
digits_after-none (suc count) = refl

-- If a number below `16 ^ count` is not 0, then `count` is at least 1.
pub count_some : (count n : ℕ) → 0 < n → n < 16 ^ count → 1 ≤ count
count_some zero n some h = absurd (omega (arith, pow-zero 16))
count_some (suc count) n some h = omega arith

-- The digits of a number that is not 0 are its first digit, then those of the remainder.
pub digits_after-more : (count n : ℕ) → 0 < n → n < 16 ^ count →
    digits_after count n ≡ digit_glyph false (n / 2 ^ (4 * (count - 1))) ∷ digits_after (count - 1) (n % 2 ^ (4 * (count - 1)))
unfolding digits_after
digits_after-more zero n some h = absurd (omega (arith, pow-zero 16))
digits_after-more (suc count) n some h =
    let last : suc count - 1 ≡ count = omega arith in
    rw (last, ne_eqb n 0 (λ e. omega arith), power_16 count)

pub digit_below : (count n : ℕ) → 1 ≤ count → n < 16 ^ count → n / 2 ^ (4 * (count - 1)) < 16
digit_below count n some h =
    let next : 4 * count ≡ 4 * (count - 1) + 4 = omega arith in
    let top : 16 ^ count ≡ 2 ^ (4 * (count - 1)) * 16 = power_16 count ∙ ap (λ t. 2 ^ t) next ∙ pow-add 2 (4 * (count - 1)) 4 in
    div_below n (2 ^ (4 * (count - 1))) 16 (pow_pos (4 * (count - 1))) (omega arith)

pub rest_below : (count n : ℕ) → n % 2 ^ (4 * (count - 1)) < 16 ^ (count - 1)
rest_below count n = rw (power_16 (count - 1)) (mod-lt n (pow_pos (4 * (count - 1))))

pub after_point-none : (w : Width) → after_point (fraction_digits w 0) ≡ []
after_point-none w =
    let none : 0 * 2 ^ (4 * digit_count w - w.fraction) ≡ 0 = omega arith in
    rw (none, digits_after-none (digit_count w))

pub after_point-some : (w : Width) (fraction : ℕ) → 0 < fraction → fraction < 2 ^ w.fraction → after_point (fraction_digits w fraction) ≡ 46 ∷ fraction_digits w fraction
after_point-some w fraction some h =
    let up : fraction * 1 ≤ fraction * 2 ^ (4 * digit_count w - w.fraction) = mul-le-mul_left fraction (pow_pos (4 * digit_count w - w.fraction)) in
    let more = digits_after-more (digit_count w) (fraction * 2 ^ (4 * digit_count w - w.fraction)) (omega arith) (filled_fraction-below w fraction h) in
    rw more
