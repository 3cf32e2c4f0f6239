-- The digits of a number in base 128, from the lowest on.
use Rattle.std.proofs.Common.{◌≡◌, ℕ, zero, suc, ◌+◌, ◌*◌, ◌/◌, ◌^◌, ◌<◌, ◌≤◌, if◌then◌else◌, refl, ap, arith}
use Rattle.std.proofs.lemmas.Bool.{lt-ltb, le-ltb}
use Rattle.std.proofs.lemmas.Nat.{div_below}
use Rattle.std.proofs.Math.Nat.{pow-suc}
use Rattle.wasmprinter_hidden.specs.Lengths.{digits}

-- `len - 1` of `total` digits were counted, and `rest` has the others, at most `most + 1`.
pub record HasDigitsLeft (total len rest : ℕ) : Type 0 where
  pub most : ℕ
  pub count : len + most ≡ 10
  pub small : rest < 2 * 128 ^ most
  pub same : len + digits most rest ≡ 1 + total

-- At least two digits are left in a number of at least 128.
digits-more : (most rest : ℕ) → 128 ≤ rest → digits (suc most) rest ≡ suc (digits most (rest / 128))
digits-more most rest big = ap (λ b. if b then 1 else suc (digits most (rest / 128))) (le-ltb rest 128 big)

-- One digit is left in a number below 128.
digits-last : (most rest : ℕ) → rest < 128 → digits most rest ≡ 1
digits-last zero rest small = refl
digits-last (suc most) rest small = ap (λ b. if b then 1 else suc (digits most (rest / 128))) (lt-ltb rest 128 small)

-- One digit more was counted.
fewer : (total len most rest : ℕ) → len + most ≡ 10 → rest < 2 * 128 ^ most → len + digits most rest ≡ 1 + total → 128 ≤ rest
    → HasDigitsLeft total (len + 1) (rest / 128)
fewer total len zero rest count small same big = absurd (omega arith)
fewer total len (suc most) rest count small same big = record {
  most = most;
  count = omega arith;
  small = div_below rest 128 (2 * 128 ^ most) (omega arith) (omega (arith, pow-suc 128 most));
  same = omega (arith, digits-more most rest big);
}

pub fewer_left : (total len rest : ℕ) → HasDigitsLeft total len rest → 128 ≤ rest → HasDigitsLeft total (len + 1) (rest / 128)
fewer_left total len rest h big = fewer total len h.most rest h.count h.small h.same big

-- The last digit was counted.
pub last_left : (total len rest : ℕ) → HasDigitsLeft total len rest → rest < 128 → len ≡ total
last_left total len rest h small = omega (arith, digits-last h.most rest small)
