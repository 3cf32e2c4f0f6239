-- Powers of two.
use Rattle.std.proofs.Common.{◌≡◌, ℕ, ◌+◌, ◌-◌, ◌*◌, ◌^◌, ◌≤◌, arith, ap, ◌∙◌}
use Rattle.std.proofs.lemmas.Nat.{pow-add}

-- If `bits` is at least 7, then 2 ^ bits is 128 times 2 ^ (bits - 7).
pub pow_seven : (bits : ℕ) → 7 ≤ bits → 2 ^ bits ≡ 128 * 2 ^ (bits - 7)
pow_seven bits le =
    let e : bits ≡ 7 + (bits - 7) = omega arith in
    ap (λ (n : ℕ). 2 ^ n) e ∙ pow-add 2 7 (bits - 7)
