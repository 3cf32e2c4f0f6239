-- Plain text: the bytes that occur in a printed module. The standard allows more in a text (section 6.2,
-- "Characters").
use Rattle.std.specs.Prelude.{◌≡◌, ℕ, ◌≤◌, List, ◌⊎◌}
use Rattle.std.specs.List.{AllByRecursion}

-- A tab, a line feed, or a character from the space to the tilde.
abbrev pub IsPlainByte : ℕ → Type 0
IsPlainByte b = (b ≡ 9) ⊎ ((b ≡ 10) ⊎ ((32 ≤ b) × (b ≤ 126)))

-- Every byte of the text is plain.
abbrev pub IsPlainText : List ℕ → Type 0
IsPlainText text = AllByRecursion IsPlainByte text
