-- The line that shows a byte. The places of lines are given as a list, one for each line, with `None` for a line that shows
-- nothing of the module.
use Rattle.std.specs.Prelude.{◌≡◌, ℕ, ◌<◌, ◌≤◌, List, Option, Some, slice_get}

-- The line at this index exists and has this place.
abbrev pub HasPlace : List (Option ℕ) → ℕ → ℕ → Type 0
HasPlace places i place = slice_get places i ≡ Some (Some place)

-- The line at this index shows the byte at this offset.
pub record ShowsByte (places : List (Option ℕ)) (offset index : ℕ) : Type 0 where
  -- The place of the line.
  pub place : ℕ
  -- The line has the place.
  pub placed : HasPlace places index place
  -- The place is not after the byte.
  pub before : place ≤ offset
  -- No line has a greater place that is not after the byte.
  pub greatest : (i q : ℕ) → HasPlace places i q → q ≤ offset → q ≤ place
  -- No later line has the place.
  pub last : (i : ℕ) → HasPlace places i place → i ≤ index

-- Each place is after the byte.
abbrev pub IsAfterByte : List (Option ℕ) → ℕ → Type 0
IsAfterByte places offset = (i q : ℕ) → HasPlace places i q → offset < q
