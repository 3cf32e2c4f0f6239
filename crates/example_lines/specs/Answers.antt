-- The line that a query asks for, in a module with `len` bytes whose lines have these places.
use Rattle.std.specs.Prelude.{◌≡◌, ◌⊎◌, ℕ, ◌+◌, ◌<◌, ◌≤◌, List, Option, length}
use Rattle.example_lines.specs.Places.{ShowsByte, IsAfterByte}
use Rattle.example_lines.specs.declared.query.Query.{Query}
use Rattle.example_lines.specs.declared.query.Query.TheVariants.{Byte, Line}

-- The line at this index is the one that the query asks for. Lines are numbered from 1.
abbrev pub IsIndexFor : List (Option ℕ) → ℕ → Query → ℕ → Type 0
IsIndexFor places len (Byte offset) index = (offset < len) × ShowsByte places offset index
IsIndexFor places len (Line number) index = (index + 1 ≡ number) × (index < length places)

-- The module has no such byte, no line shows it, or the text has no such line.
abbrev pub IsOutside : List (Option ℕ) → ℕ → Query → Type 0
IsOutside places len (Byte offset) = (len ≤ offset) ⊎ IsAfterByte places offset
IsOutside places len (Line number) = (number ≡ 0) ⊎ (length places < number)
