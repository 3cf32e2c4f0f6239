-- The names of custom sections that are left out: the list of them in bytes, and the answers to claims that they give.
use Rattle.std.specs.Prelude.{◌≡◌, ◌+◌, ℕ, List, [], ◌∷◌, ◌++◌, Bool, false, ◌||◌, not, bytes_eq, Option, Some, None, length, slice_get}
use Rattle.std.specs.List.{filter}
use Rattle.wasmprinter_spec.specs.Call.{Call, Text, Newline, Line, Start, Claim}
use Rattle.wasmprinter_spec.specs.Instructions.{little_endian}
use Rattle.wasmprinter_spec.specs.Placed.{CustomEntry, PlacedModule}
use Rattle.wasmprinter_spec.specs.Options.{Answers}

-- ---- The list in bytes

-- The bytes start with this name: with its length as four bytes, the lowest first, and then with the name itself. `rest`
-- follows.
pub record StartsWithName (name bytes rest : List ℕ) : Type 0 where
  pub size : List ℕ
  pub four : length size ≡ 4
  pub sized : little_endian size ≡ length name
  pub is : bytes ≡ size ++ (name ++ rest)

-- The bytes start with these names, one after another. `rest` follows.
abbrev pub StartsWithNames : List (List ℕ) → List ℕ → List ℕ → Type 0
StartsWithNames [] bytes rest = bytes ≡ rest
StartsWithNames (name ∷ names) bytes rest = (more : List ℕ) × StartsWithName name bytes more × StartsWithNames names more rest

-- The bytes are a list of these names: nothing follows the last one.
abbrev pub IsListOf : List (List ℕ) → List ℕ → Type 0
IsListOf names bytes = StartsWithNames names bytes []

-- The bytes are not empty, and start with no complete name.
abbrev pub IsCut : List ℕ → Type 0
IsCut bytes = (¬ (bytes ≡ [])) × ((name rest : List ℕ) → ¬ StartsWithName name bytes rest)

-- The bytes are cut off: they start with complete names, and after the first `place` bytes no complete name follows.
pub record IsCutAt (place : ℕ) (bytes : List ℕ) : Type 0 where
  pub names : List (List ℕ)
  pub rest : List ℕ
  pub whole : StartsWithNames names bytes rest
  pub cut : IsCut rest
  pub at : place + length rest ≡ length bytes

-- The bytes are a list that is cut off at some place.
abbrev pub IsCutOff : List ℕ → Type 0
IsCutOff bytes = (place : ℕ) × IsCutAt place bytes

-- ---- The sections that are left out

-- The name is one of these, byte by byte.
abbrev pub has_name : List (List ℕ) → List ℕ → Bool
has_name [] name = false
has_name (x ∷ xs) name = bytes_eq x name || has_name xs name

-- The custom section, if there is one, has one of these names.
abbrev pub is_named : List (List ℕ) → Option CustomEntry → Bool
is_named names (Some c) = has_name names c.section.value.name
is_named names None = false

-- The answers of a printer that claims exactly the custom sections with these names.
abbrev pub answers_for : List (List ℕ) → PlacedModule → Answers
answers_for names m = λ n. is_named names (slice_get m.customs n)

-- The custom sections without those of these names.
abbrev pub kept_customs : List (List ℕ) → List CustomEntry → List CustomEntry
kept_customs names cs = filter (λ c. not (has_name names c.section.value.name)) cs

-- If the call asks for a claim, the answer is whether the section has one of these names.
abbrev pub IsAnsweredFor : List (List ℕ) → Call → Type 0
IsAnsweredFor names (Text s) = Unit {0}
IsAnsweredFor names Newline = Unit {0}
IsAnsweredFor names (Line place) = Unit {0}
IsAnsweredFor names (Start style) = Unit {0}
IsAnsweredFor names (Claim name place bytes answer) = answer ≡ has_name names name
