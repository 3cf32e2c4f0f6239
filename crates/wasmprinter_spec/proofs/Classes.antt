-- The classes of bytes beyond ASCII, and of digits.
use Rattle.std.proofs.Common.{◌≡◌, ℕ, ◌<◌, ◌≤◌, Bool, true, false, ◌||◌, not, leb, [], ◌∷◌, refl, sym, arith, true≢false, lit<}
use Rattle.std.proofs.lemmas.Bool.{agree_below, agree_below_at, le-ltb, le-leb, ne_eqb}
use Rattle.std.proofs.lemmas.Str.Parse.{digit_at}
use Rattle.std.specs.Char.{digit_value}
use Rattle.wasmprinter_spec.specs.Character.{Class, Plain, Foreign, class}

-- Every byte from 128 on has the class `Foreign`.
pub foreign : (b : ℕ) → 128 ≤ b → class b ≡ Foreign
unfolding class
foreign b h =
    rw (
      ne_eqb b 32 (λ e. omega arith),
      ne_eqb b 9 (λ e. omega arith),
      ne_eqb b 10 (λ e. omega arith),
      ne_eqb b 13 (λ e. omega arith),
      ne_eqb b 40 (λ e. omega arith),
      ne_eqb b 41 (λ e. omega arith),
      ne_eqb b 59 (λ e. omega arith),
      ne_eqb b 34 (λ e. omega arith),
      ne_eqb b 92 (λ e. omega arith),
      ne_eqb b 36 (λ e. omega arith),
      ne_eqb b 64 (λ e. omega arith),
      ne_eqb b 44 (λ e. omega arith),
      ne_eqb b 91 (λ e. omega arith),
      ne_eqb b 93 (λ e. omega arith),
      ne_eqb b 123 (λ e. omega arith),
      ne_eqb b 125 (λ e. omega arith),
      le-ltb b 32 (omega arith),
      ne_eqb b 127 (λ e. omega arith),
      le-leb 128 b h,
    )

is_plain : Class → Bool
is_plain Plain = true
is_plain _ = false

plain : (c : Class) → is_plain c ≡ true → c ≡ Plain
unfolding is_plain
plain Plain h = refl
plain _ h = absurd (true≢false (sym h))

plain_below : ℕ → Bool
plain_below c = not (leb 48 c) || is_plain (class c)

digits_are_plain : agree_below plain_below (λ c. true) 58 ≡ true
unfolding plain_below is_plain class
digits_are_plain = refl

-- Every digit has the class `Plain`: it is an identifier character that has no meaning of its own.
pub digit_class : (c : ℕ) → digit_value c < 10 → class c ≡ Plain
unfolding plain_below
digit_class c h =
    let within : (48 ≤ c) × (c ≤ 57) = digit_at (c ∷ []) 0 (h, tt) (lit< tt) in
    let low : leb 48 c ≡ true = le-leb 48 c within.0 in
    let e : (not (leb 48 c) || is_plain (class c)) ≡ true = agree_below_at plain_below (λ x. true) 58 c digits_are_plain (omega arith) in
    plain (class c) (rw low at e)
