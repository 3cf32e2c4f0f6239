-- Floats are read by their values: a number reads as the bits of the finite float that is equal to it, if there is
-- one.
use Rattle.std.proofs.Common.{◌≡◌, ℕ, zero, suc, ◌+◌, ◌*◌, ◌/◌, ◌%◌, ◌^◌, ◌-◌, ◌<◌, ◌≤◌, Bool, true, false, cond, eqb, ltb, Option, Some, None, refl, sym, ap, ◌∙◌, arith, lit<, pow_pos, pow-suc, mod-lt, div-add-mod', mul_assoc, mul-le-mul_right, ltb-false, ltb-true, eqb-true, ne_eqb}
use Rattle.std.proofs.Math.Nat.{pow-le-pow_right, div-eq_of_lt, mod-eq_of_lt}
use Rattle.std.proofs.lemmas.Bool.{eqb-false}
use Rattle.std.proofs.lemmas.Nat.{div-mul-add, mod-mul-add, le-div, div_below}
use Rattle.wasmprinter_spec.specs.Float.{Width, IsWidth, Scaled, greatest_exponent, magnitude, least_exponent, units, bits_by_halving, bits_of, bits_with_units, bits_with_value, units_of, IsValue}
use Rattle.wasmprinter_laws.proofs.Tokens.Floats.{units-exact, bits_of-small, bits_of-normal}

record IsHalved (f k x n bits : ℕ) : Type 0 where
  top : ℕ
  times : ℕ
  low : 2 ^ f ≤ top
  high : top < 2 ^ f * 2
  less : times < k
  number : n ≡ top * 2 ^ times
  are : bits ≡ (x + times) * 2 ^ f + (top - 2 ^ f)

halved_is : (f k x n bits : ℕ) → 2 ^ f ≤ n → bits_by_halving f k x n ≡ Some bits → IsHalved f k x n bits
unfolding bits_by_halving
halved_is f zero x n bits low e = absurd (cc)
halved_is f (suc k) x n bits low e = by (ltb n (2 ^ suc f)) (eqb (n % 2) 0) refl refl e (λ half h. halved_is f k (suc x) (n / 2) bits half h)
  where
    by : (b c : Bool) → ltb n (2 ^ suc f) ≡ b → eqb (n % 2) 0 ≡ c
        → cond b (Some (x * 2 ^ f + (n - 2 ^ f))) (cond c (bits_by_halving f k (suc x) (n / 2)) None) ≡ Some bits
        → (2 ^ f ≤ n / 2 → bits_by_halving f k (suc x) (n / 2) ≡ Some bits → IsHalved f k (suc x) (n / 2) bits)
        → IsHalved f (suc k) x n bits
    by true c p q h more =
        let same : x * 2 ^ f + (n - 2 ^ f) ≡ bits = cc in
        let none : x + 0 ≡ x = omega arith in
        record {
          top = n;
          times = 0;
          low = low;
          high = omega (arith, ltb-true n (2 ^ suc f) p, pow-suc 2 f);
          less = omega arith;
          number = omega arith;
          are = sym same ∙ ap (λ t. t * 2 ^ f + (n - 2 ^ f)) (sym none);
        }
    by false true p q h more =
        let large : 2 ^ f * 2 ≤ n = omega (arith, ltb-false n (2 ^ suc f) p, pow-suc 2 f) in
        let r : IsHalved f k (suc x) (n / 2) bits = more (le-div (2 ^ f) n 2 (lit< tt) large) h in
        let even : n ≡ n / 2 * 2 = omega (arith, eqb-true (n % 2) 0 q) in
        let next : suc x + r.times ≡ x + suc r.times = omega arith in
        record {
          top = r.top;
          times = suc r.times;
          low = r.low;
          high = r.high;
          less = omega (arith, r.less);
          number = even ∙ ap (λ t. t * 2) r.number ∙ mul_assoc r.top (2 ^ r.times) 2 ∙ ap (λ t. r.top * t) (sym (pow-suc 2 r.times));
          are = r.are ∙ ap (λ t. t * 2 ^ f + (r.top - 2 ^ f)) next;
        }
    by false false p q h more = absurd (cc)

record HasUnits (w : Width) (n bits : ℕ) : Type 0 where
  finite : bits < magnitude w (greatest_exponent w) 0
  units : units_of w bits ≡ n

greatest_some : (w : Width) → IsWidth w → 1 ≤ greatest_exponent w
greatest_some w is = let wide : 2 ^ 2 ≤ 2 ^ w.exponent = pow-le-pow_right (lit< tt) is.exponent.0 in omega arith

equal_small : (w : Width) → IsWidth w → (n : ℕ) → n < 2 ^ w.fraction → HasUnits w n n
unfolding units_of
equal_small w is n h = record {
  finite = omega (arith, mul-le-mul_right (2 ^ w.fraction) (greatest_some w is));
  units = rw (div-eq_of_lt h, mod-eq_of_lt h);
}

equal_found : (w : Width) → (n bits : ℕ) → IsHalved w.fraction (greatest_exponent w - 1) 1 n bits → HasUnits w n bits
unfolding units_of
equal_found w n bits r =
    let m : ℕ = r.top - 2 ^ w.fraction in
    let below : m < 2 ^ w.fraction = omega (arith, r.low, r.high) in
    let quotient : bits / 2 ^ w.fraction ≡ 1 + r.times = ap (λ t. t / 2 ^ w.fraction) r.are ∙ div-mul-add (1 + r.times) (2 ^ w.fraction) m below in
    let rest : bits % 2 ^ w.fraction ≡ m = ap (λ t. t % 2 ^ w.fraction) r.are ∙ mod-mul-add (1 + r.times) (2 ^ w.fraction) m below in
    let some : eqb (1 + r.times) 0 ≡ false = ne_eqb (1 + r.times) 0 (λ e. omega arith) in
    let back : 1 + r.times - 1 ≡ r.times = omega arith in
    let top : 2 ^ w.fraction + m ≡ r.top = omega (arith, r.low) in
    let room : 2 + r.times ≤ greatest_exponent w = omega (arith, r.less) in
    record {
      finite = omega (arith, r.are, r.less, mul-le-mul_right (2 ^ w.fraction) room);
      units = rw (quotient, rest, some, back, top) (sym r.number);
    }

bits_of_is : (w : Width) → IsWidth w → (n bits : ℕ) → bits_of w n ≡ Some bits → HasUnits w n bits
unfolding bits_of
bits_of_is w is n bits e = by (ltb n (2 ^ w.fraction)) refl e
  where
    by : (b : Bool) → ltb n (2 ^ w.fraction) ≡ b → cond b (Some n) (bits_by_halving w.fraction (greatest_exponent w - 1) 1 n) ≡ Some bits → HasUnits w n bits
    by true p h =
        let same : n ≡ bits = cc in
        rw (← same) (equal_small w is n (ltb-true n (2 ^ w.fraction) p))
    by false p h = equal_found w n bits (halved_is w.fraction (greatest_exponent w - 1) 1 n bits (ltb-false n (2 ^ w.fraction) p) h)

-- The value of each finite float gives back its bits.
bits_of-units_of : (w : Width) → (bits : ℕ) → bits < magnitude w (greatest_exponent w) 0 → bits_of w (units_of w bits) ≡ Some bits
unfolding units_of
bits_of-units_of w bits h = by (eqb (bits / 2 ^ w.fraction) 0) refl
  where
    by : (b : Bool) → eqb (bits / 2 ^ w.fraction) 0 ≡ b
        → bits_of w (cond b (bits % 2 ^ w.fraction) ((2 ^ w.fraction + bits % 2 ^ w.fraction) * 2 ^ (bits / 2 ^ w.fraction - 1))) ≡ Some bits
    by true e =
        let none : bits / 2 ^ w.fraction ≡ 0 = eqb-true (bits / 2 ^ w.fraction) 0 e in
        let whole : bits / 2 ^ w.fraction * 2 ^ w.fraction + bits % 2 ^ w.fraction ≡ bits = div-add-mod' bits (2 ^ w.fraction) in
        let same : bits % 2 ^ w.fraction ≡ bits = omega arith ∙ ap (λ t. t * 2 ^ w.fraction + bits % 2 ^ w.fraction) (sym none) ∙ whole in
        bits_of-small w (bits % 2 ^ w.fraction) (mod-lt bits (pow_pos w.fraction)) ∙ ap Some same
    by false e =
        let some : bits / 2 ^ w.fraction ≡ 0 → ⊥ = eqb-false (bits / 2 ^ w.fraction) 0 e in
        let below : bits % 2 ^ w.fraction < 2 ^ w.fraction = mod-lt bits (pow_pos w.fraction) in
        let whole : bits / 2 ^ w.fraction * 2 ^ w.fraction + bits % 2 ^ w.fraction ≡ bits = div-add-mod' bits (2 ^ w.fraction) in
        let high : bits / 2 ^ w.fraction < greatest_exponent w = div_below bits (2 ^ w.fraction) (greatest_exponent w) (pow_pos w.fraction) (omega arith) in
        let m : 2 ^ w.fraction + bits % 2 ^ w.fraction - 2 ^ w.fraction ≡ bits % 2 ^ w.fraction = omega arith in
        bits_of-normal w (bits / 2 ^ w.fraction) (2 ^ w.fraction + bits % 2 ^ w.fraction) (omega arith) high (omega arith) (omega (arith, pow-suc 2 w.fraction))
        ∙ ap (λ t. Some (bits / 2 ^ w.fraction * 2 ^ w.fraction + t)) m ∙ ap Some whole

units_is : (u : ℕ) (s : Scaled) (n : ℕ) → units u s ≡ Some n → s.significand * 2 ^ (s.up + u) ≡ n * 2 ^ s.down
unfolding units
units_is u s n e = by (eqb ((s.significand * 2 ^ (s.up + u)) % 2 ^ s.down) 0) refl e
  where
    by : (b : Bool) → eqb ((s.significand * 2 ^ (s.up + u)) % 2 ^ s.down) 0 ≡ b → cond b (Some (s.significand * 2 ^ (s.up + u) / 2 ^ s.down)) None ≡ Some n → s.significand * 2 ^ (s.up + u) ≡ n * 2 ^ s.down
    by true p h =
        let same : s.significand * 2 ^ (s.up + u) / 2 ^ s.down ≡ n = cc in
        let whole : s.significand * 2 ^ (s.up + u) / 2 ^ s.down * 2 ^ s.down + (s.significand * 2 ^ (s.up + u)) % 2 ^ s.down ≡ s.significand * 2 ^ (s.up + u) = div-add-mod' (s.significand * 2 ^ (s.up + u)) (2 ^ s.down) in
        let none : (s.significand * 2 ^ (s.up + u)) % 2 ^ s.down ≡ 0 = eqb-true ((s.significand * 2 ^ (s.up + u)) % 2 ^ s.down) 0 p in
        sym whole ∙ ap (λ t. s.significand * 2 ^ (s.up + u) / 2 ^ s.down * 2 ^ s.down + t) none ∙ omega arith ∙ ap (λ t. t * 2 ^ s.down) same
    by false p h = absurd (cc)

-- If a number reads as some bits, it is the value of these bits.
pub with_value_is : (w : Width) → IsWidth w → (s : Scaled) (bits : ℕ) → bits_with_value w (Some s) ≡ Some bits → IsValue w bits s
with_value_is w is s bits e = by (units (least_exponent w) s) refl e
  where
    by : (o : Option ℕ) → units (least_exponent w) s ≡ o → bits_with_units w o ≡ Some bits → IsValue w bits s
    by None p h = absurd (cc)
    by (Some n) p h =
        let r : HasUnits w n bits = bits_of_is w is n bits h in
        record { finite = r.finite; value = units_is (least_exponent w) s n p ∙ ap (λ t. t * 2 ^ s.down) (sym r.units) }

pub value_reads : (w : Width) → (s : Scaled) (bits : ℕ) → IsValue w bits s → bits_with_value w (Some s) ≡ Some bits
value_reads w s bits v = ap (bits_with_units w) (units-exact (least_exponent w) s (units_of w bits) v.value) ∙ bits_of-units_of w bits v.finite
