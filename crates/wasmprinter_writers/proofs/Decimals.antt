-- The decimal digits of the numbers of colors.
use Rattle.std.specs.Prelude.{◌≡◌, [], ◌∷◌, decimal, refl}
use Rattle.std.specs.Fmt.{digits}

pub decimal_1 : decimal 1 ≡ 49 ∷ []
unfolding digits
decimal_1 = refl

pub decimal_2 : decimal 2 ≡ 50 ∷ []
unfolding digits
decimal_2 = refl

pub decimal_3 : decimal 3 ≡ 51 ∷ []
unfolding digits
decimal_3 = refl

pub decimal_5 : decimal 5 ≡ 53 ∷ []
unfolding digits
decimal_5 = refl

pub decimal_6 : decimal 6 ≡ 54 ∷ []
unfolding digits
decimal_6 = refl

pub decimal_9 : decimal 9 ≡ 57 ∷ []
unfolding digits
decimal_9 = refl

pub decimal_10 : decimal 10 ≡ 49 ∷ 48 ∷ []
unfolding digits
decimal_10 = refl

pub decimal_11 : decimal 11 ≡ 49 ∷ 49 ∷ []
unfolding digits
decimal_11 = refl

pub decimal_13 : decimal 13 ≡ 49 ∷ 51 ∷ []
unfolding digits
decimal_13 = refl

pub decimal_14 : decimal 14 ≡ 49 ∷ 52 ∷ []
unfolding digits
decimal_14 = refl

pub ruleset decimals = (decimal_1, decimal_2, decimal_3, decimal_5, decimal_6, decimal_9, decimal_10, decimal_11, decimal_13, decimal_14)
