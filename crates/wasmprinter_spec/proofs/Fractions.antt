-- The hexadecimal digits of a fraction, and the shift that gives a fraction a leading 1. The laws of floats and
-- the code that writes floats both use these lemmas.
use Rattle.std.proofs.Common.{◌≡◌, ℕ, zero, suc, ◌+◌, ◌*◌, ◌^◌, ◌-◌, ◌<◌, ◌≤◌, refl, sym, ap, ◌∙◌, subst, arith, pow_pos, pow-add, pow-suc, mul-lt-mul_of_pos_right, mul-le-mul_right, le-mul_of_pos_right, mul_assoc, lit<, ⊎_elim, Bool, true, false, cond, ltb, ltb-true, ltb-false}
use Rattle.std.proofs.Math.Nat.{pow-le-pow_right}
use Rattle.std.proofs.lemmas.Bool.{cases_lt}
use Rattle.wasmprinter_spec.specs.Float.{Width}
use Rattle.wasmprinter_spec.specs.FloatText.{digit_count, filled_fraction, doublings, shift, shifted_fraction}

pub power_16 : (k : ℕ) → 16 ^ k ≡ 2 ^ (4 * k)
power_16 zero = refl
power_16 (suc k) =
    let four : 4 * suc k ≡ 4 * k + 4 = omega arith in
    pow-suc 16 k ∙ ap (λ t. t * 16) (power_16 k) ∙ sym (pow-add 2 (4 * k) 4) ∙ ap (λ t. 2 ^ t) (sym four)

-- All digits of a fraction hold exactly its bits and the bits that fill up the last digit.
pub digits_hold : (w : Width) → 16 ^ digit_count w ≡ 2 ^ w.fraction * 2 ^ (4 * digit_count w - w.fraction)
digits_hold w =
    let room : 4 * digit_count w ≡ w.fraction + (4 * digit_count w - w.fraction) = omega arith in
    power_16 (digit_count w) ∙ ap (λ t. 2 ^ t) room ∙ pow-add 2 w.fraction (4 * digit_count w - w.fraction)

pub filled_fraction-below : (w : Width) (fraction : ℕ) → fraction < 2 ^ w.fraction → filled_fraction w fraction < 16 ^ digit_count w
filled_fraction-below w fraction h =
    subst (λ (t : ℕ). filled_fraction w fraction < t) (sym (digits_hold w)) (mul-lt-mul_of_pos_right h (pow_pos (4 * digit_count w - w.fraction)))

-- If `n` is shifted up by `k`, it is at least the limit and less than twice the limit.
pub record IsShift (limit n k : ℕ) : Type 0 where
  pub low : limit ≤ n * 2 ^ k
  pub high : n * 2 ^ k < 2 * limit

pub doublings-IsShift : (most limit n : ℕ) → limit ≤ n * 2 ^ most → n < 2 * limit → IsShift limit n (doublings most limit n)
unfolding doublings
doublings-IsShift zero limit n low high = record { low = low; high = omega arith }
doublings-IsShift (suc most) limit n low high =
    by (ltb n limit) refl (λ less.
    let two : n * 2 ^ suc most ≡ n * (2 ^ most * 2) = ap (λ t. n * t) (pow-suc 2 most) in
    let turned : 2 * n * 2 ^ most ≡ n * (2 ^ most * 2) = omega arith in
    doublings-IsShift most limit (2 * n) (omega arith) (omega arith))
  where
    by : (b : Bool) → ltb n limit ≡ b → (n < limit → IsShift limit (2 * n) (doublings most limit (2 * n))) → IsShift limit n (cond b (suc (doublings most limit (2 * n))) 0)
    by true e more =
        let d : IsShift limit (2 * n) (doublings most limit (2 * n)) = more (ltb-true n limit e) in
        let turned : 2 * n * 2 ^ doublings most limit (2 * n) ≡ n * 2 ^ suc (doublings most limit (2 * n)) =
        omega (arith, ap (λ t. n * t) (pow-suc 2 (doublings most limit (2 * n)))) in
        record { low = omega (arith, d.low); high = omega (arith, d.high) }
    by false e more = let not_less : limit ≤ n = ltb-false n limit e in record { low = omega arith; high = omega arith }

-- Every fraction other than 0 that fits its bits is shifted so that its leading 1 is just above these bits.
pub shift-IsShift : (w : Width) (fraction : ℕ) → 0 < fraction → fraction < 2 ^ w.fraction → IsShift (2 ^ w.fraction) fraction (shift w fraction)
shift-IsShift w fraction some h =
    let enough : 2 ^ w.fraction ≤ fraction * 2 ^ w.fraction = omega (arith, le-mul_of_pos_right (2 ^ w.fraction) some) in
    doublings-IsShift w.fraction (2 ^ w.fraction) fraction enough (omega arith)

pub shifted_fraction-below : (w : Width) (fraction : ℕ) → 0 < fraction → fraction < 2 ^ w.fraction → shifted_fraction w fraction < 2 ^ w.fraction
shifted_fraction-below w fraction some h =
    let d : IsShift (2 ^ w.fraction) fraction (shift w fraction) = shift-IsShift w fraction some h in omega (arith, d.low, d.high)

-- There is only one such shift.
not_further : (limit n k l : ℕ) → 0 < limit → IsShift limit n k → IsShift limit n l → k < l → ⊥
not_further limit n k l some a b less =
    let apart : n * 2 ^ l ≡ n * 2 ^ (suc k) * 2 ^ (l - suc k) =
    ap (λ t. n * 2 ^ t) (omega arith) ∙ ap (λ t. n * t) (pow-add 2 (suc k) (l - suc k)) ∙ sym (mul_assoc n (2 ^ suc k) (2 ^ (l - suc k))) in
    let two : n * 2 ^ suc k ≡ n * 2 ^ k * 2 = ap (λ t. n * t) (pow-suc 2 k) ∙ sym (mul_assoc n (2 ^ k) 2) in
    let grows : n * 2 ^ suc k ≤ n * 2 ^ suc k * 2 ^ (l - suc k) = le-mul_of_pos_right (n * 2 ^ suc k) (pow_pos (l - suc k)) in
    omega (arith, a.low, b.high)

pub IsShift-unique : (limit n k l : ℕ) → 0 < limit → IsShift limit n k → IsShift limit n l → k ≡ l
IsShift-unique limit n k l some a b = ⊎_elim
    (λ (less : k < l). absurd (not_further limit n k l some a b less))
    (λ (more : l ≤ k). ⊎_elim
    (λ (less : l < k). absurd (not_further limit n l k some b a less))
    (λ (same : k ≤ l). omega arith)
    (cases_lt l k))
    (cases_lt k l)

-- The position of the highest bit determines the shift.
pub shift-highest_bit : (w : Width) (fraction top : ℕ) → 0 < fraction → fraction < 2 ^ w.fraction → 2 ^ top ≤ fraction → fraction < 2 * 2 ^ top →
    top < w.fraction → w.fraction - top ≡ shift w fraction
shift-highest_bit w fraction top some h low high less =
    let k : ℕ = w.fraction - top in
    let whole : 2 ^ w.fraction ≡ 2 ^ top * 2 ^ k = ap (λ t. 2 ^ t) (omega arith) ∙ pow-add 2 top k in
    let from : 2 ^ top * 2 ^ k ≤ fraction * 2 ^ k = mul-le-mul_right (2 ^ k) low in
    let to : fraction * 2 ^ k < 2 * 2 ^ top * 2 ^ k = mul-lt-mul_of_pos_right high (pow_pos k) in
    let turned : 2 * 2 ^ top * 2 ^ k ≡ 2 * (2 ^ top * 2 ^ k) = mul_assoc 2 (2 ^ top) (2 ^ k) in
    let is : IsShift (2 ^ w.fraction) fraction k = record { low = omega arith; high = omega arith } in
    IsShift-unique (2 ^ w.fraction) fraction k (shift w fraction) (pow_pos w.fraction) is (shift-IsShift w fraction some h)

-- The highest bit is within the fraction.
pub highest_bit-within : (bits fraction top : ℕ) → fraction < 2 ^ bits → 2 ^ top ≤ fraction → top < bits
highest_bit-within bits fraction top h low = ⊎_elim
    (λ (l : top < bits). l)
    (λ (l : bits ≤ top). let grows : 2 ^ bits ≤ 2 ^ top = pow-le-pow_right (lit< tt) l in absurd (omega arith))
    (cases_lt top bits)
