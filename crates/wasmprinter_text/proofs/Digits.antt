-- The digits of a number, one after another.
use Rattle.std.specs.Prelude.{◌≡◌, ℕ, zero, suc, ◌*◌, ◌/◌, ◌%◌, ◌^◌, ◌<◌, ◌≤◌, ◌+◌, ◌==◌, Bool, true, false, cond, List, [], ◌∷◌, ◌++◌, length}
use Rattle.std.specs.Fmt.{digits, digits_onto, digit_glyph}
use Rattle.std.proofs.Common.{refl, sym, ap, subst, ◌∙◌, append_assoc, arith}
use Rattle.std.proofs.lemmas.Bool.{cases_lt, ne_eqb}
use Rattle.std.proofs.lemmas.Nat.{div_below, le-div}
use Rattle.std.proofs.Math.Logic.{⊎_elim}
use Rattle.std.proofs.Math.Nat.{div-eq_of_lt, mod-eq_of_lt, pow-suc, pow-zero}

-- Digits before other digits are the digits alone, then the others.
onto-append : (k base n : ℕ) (acc : List ℕ) → digits_onto k base false n acc ≡ digits_onto k base false n [] ++ acc
onto-append zero base n acc = refl
onto-append (suc k) base n acc =
    by (n / base == 0) (onto-append k base (n / base) (digit_glyph false (n % base) ∷ acc)) (onto-append k base (n / base) (digit_glyph false (n % base) ∷ []))
  where
    by : (b : Bool) → digits_onto k base false (n / base) (digit_glyph false (n % base) ∷ acc) ≡ digits_onto k base false (n / base) [] ++ (digit_glyph false (n % base) ∷ acc)
        → digits_onto k base false (n / base) (digit_glyph false (n % base) ∷ []) ≡ digits_onto k base false (n / base) [] ++ (digit_glyph false (n % base) ∷ [])
        → cond b (digit_glyph false (n % base) ∷ acc) (digits_onto k base false (n / base) (digit_glyph false (n % base) ∷ acc)) ≡ cond b (digit_glyph false (n % base) ∷ []) (digits_onto k base false (n / base) (digit_glyph false (n % base) ∷ [])) ++ acc
    by true e f = refl
    by false e f =
        e ∙ sym (append_assoc (digits_onto k base false (n / base) []) (digit_glyph false (n % base) ∷ []) acc) ∙ ap (λ x. x ++ acc) (sym f)

-- A number below the base has one digit.
onto-one : (k base n : ℕ) (acc : List ℕ) → n < base → digits_onto (suc k) base false n acc ≡ digit_glyph false n ∷ acc
onto-one k base n acc h = rw (div-eq_of_lt h, mod-eq_of_lt h) refl

-- The digits of a number that is not below the base are those of its quotient by the base, then its last digit.
onto-more : (k base n : ℕ) (acc : List ℕ) → 0 < base → base ≤ n →
    digits_onto (suc k) base false n acc ≡ digits_onto k base false (n / base) (digit_glyph false (n % base) ∷ acc)
onto-more k base n acc p h =
    let some : 1 ≤ n / base = le-div 1 n base p (omega arith) in
    rw (ne_eqb (n / base) 0 (λ e. omega arith)) refl

pow_one : (base : ℕ) → base ^ 1 ≡ base
pow_one base = pow-suc base 0 ∙ ap (λ x. x * base) (pow-zero base) ∙ omega arith

-- If there are places for all digits, then one more place changes nothing.
onto-enough : (k base n : ℕ) (acc : List ℕ) → 0 < base → n < base ^ suc k → digits_onto (suc (suc k)) base false n acc ≡ digits_onto (suc k) base false n acc
onto-enough zero base n acc p h =
    let one : n < base = subst (λ (b : ℕ). n < b) (pow_one base) h in onto-one 1 base n acc one ∙ sym (onto-one 0 base n acc one)
onto-enough (suc k) base n acc p h = ⊎_elim
    (λ l. onto-one (suc (suc k)) base n acc l ∙ sym (onto-one (suc k) base n acc l))
    (λ l. onto-more (suc (suc k)) base n acc p l ∙ onto-enough k base (n / base) _ p (div_below n base (base ^ suc k) p (rw (pow-suc base (suc k)) at h)) ∙ sym (onto-more (suc k) base n acc p l))
    (cases_lt n base)

-- A number below the base has one digit.
pub digits-one : (base n : ℕ) → n < base → digits base false n ≡ digit_glyph false n ∷ []
unfolding digits
digits-one base n h = onto-one 63 base n [] h

-- The digits of a number that is not below the base are those of its quotient by the base, then its last digit.
pub digits-more : (base n : ℕ) → 0 < base → base ≤ n → n < base ^ 64 → digits base false n ≡ digits base false (n / base) ++ (digit_glyph false (n % base) ∷ [])
unfolding digits
digits-more base n p h small =
    onto-more 63 base n [] p h ∙ sym (onto-enough 62 base (n / base) _ p (div_below n base (base ^ 63) p (rw (pow-suc base 63) at small))) ∙ onto-append 64 base (n / base) _

onto-length : (k base n : ℕ) (acc : List ℕ) → length (digits_onto k base false n acc) ≤ k + length acc
onto-length zero base n acc = omega arith
onto-length (suc k) base n acc = by (n / base == 0) (onto-length k base (n / base) (digit_glyph false (n % base) ∷ acc))
  where
    by : (b : Bool) → length (digits_onto k base false (n / base) (digit_glyph false (n % base) ∷ acc)) ≤ k + suc (length acc) → length (cond b (digit_glyph false (n % base) ∷ acc) (digits_onto k base false (n / base) (digit_glyph false (n % base) ∷ acc))) ≤ suc k + length acc
    by true h = omega arith
    by false h = omega arith

-- A number has at most 64 digits.
pub digits-length : (base n : ℕ) → length (digits base false n) ≤ 64
unfolding digits
digits-length base n = onto-length 64 base n []
