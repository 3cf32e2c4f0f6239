-- Items that are iterated together with a range of numbers.
use Rattle.std.specs.Prelude.{◌≡◌, ℕ, ◌+◌, ◌-◌, List, [], ◌∷◌, length, refl}
use Rattle.std.proofs.Common.{arith}

-- If there are as many items as numbers and no number is left, then no item is left.
pub none-left : {A : Type 0} (start end : ℕ) (xs : List A) → start + length xs ≡ end → end - start ≡ 0 → xs ≡ []
none-left start end [] e h = refl
none-left start end (x ∷ xs) e h = absurd (omega arith)
