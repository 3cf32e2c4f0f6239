-- Lemmas that conclude the result of a test from the value that it selected. They are facts of logic, not of the
-- standard.
use Rattle.std.specs.Prelude.{◌≡◌, ◌⊎◌, Bool, true, false, Option, Some, None, refl}
use Rattle.std.proofs.Common.{cond, inl, inr}

pub tested : {A : Type 0} (b : Bool) (x : Option A) (y : A) → cond b x None ≡ Some y → (b ≡ true) × (x ≡ Some y)
tested true x y e = (refl, e)
tested false x y e = absurd cc

pub untested : {A : Type 0} (b : Bool) (x : Option A) (y : A) → cond b None x ≡ Some y → (b ≡ false) × (x ≡ Some y)
untested true x y e = absurd cc
untested false x y e = (refl, e)

pub cond_cases : {A : Type 0} (b : Bool) (x y z : A) → cond b x y ≡ z → ((b ≡ true) × (x ≡ z)) ⊎ ((b ≡ false) × (y ≡ z))
cond_cases true x y z e = inl (refl, e)
cond_cases false x y z e = inr (refl, e)
