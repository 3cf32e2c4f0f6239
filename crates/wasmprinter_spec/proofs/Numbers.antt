-- The numbers of those lists in a list that can be read.
use Rattle.std.specs.Prelude.{ℕ, ◌+◌, List, [], ◌∷◌, ◌++◌, Option, Some, None}

-- The number `n`, if there is a value
abbrev pub number_if : {A : Type 0} → Option A → ℕ → List ℕ
number_if None n = []
number_if (Some x) n = n ∷ []

-- The numbers, from `n`, of the lists that can be read
abbrev pub numbers_from : {A : Type 0} → (List ℕ → Option A) → ℕ → List (List ℕ) → List ℕ
numbers_from read n [] = []
numbers_from read n (t ∷ ts) = number_if (read t) n ++ numbers_from read (n + 1) ts
