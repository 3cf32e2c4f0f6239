-- What the second argument asks for.
use Rattle.std.specs.Prelude.{◌≡◌, ℕ, ◌++◌, ◌<◌, ◌^◌, ◌⊎◌, List, codes}
use Rattle.std.specs.Str.Parse.{IsNumeral, digits_value, without_leading_plus}
use Rattle.example_lines.specs.declared.query.Query.{Query}
use Rattle.example_lines.specs.declared.query.Query.TheVariants.{Byte, Line}

-- These bytes are the number `n` in this radix.
pub record IsNumber (radix : ℕ) (bytes : List ℕ) (n : ℕ) : Type 0 where
  -- The bytes are digits, possibly after a plus sign.
  pub numeral : IsNumeral radix (without_leading_plus bytes)
  -- The number that the digits write.
  pub value : digits_value radix (without_leading_plus bytes) ≡ n
  -- The number has at most 64 bits.
  pub fits : n < 2 ^ 64

-- The word asks for this: `line:12` for that line, `12` and `0xc` for the byte at that offset.
abbrev pub AsksFor : List ℕ → Query → Type 0
AsksFor word (Line number) = (digits : List ℕ) × (word ≡ codes "line:" ++ digits) × IsNumber 10 digits number
AsksFor word (Byte offset) = IsNumber 10 word offset ⊎ ((digits : List ℕ) × (word ≡ codes "0x" ++ digits) × IsNumber 16 digits offset)

-- The word has another form, or its number has more than 64 bits.
abbrev pub AsksForNothing : List ℕ → Type 0
AsksForNothing word = (query : Query) → ¬ (AsksFor word query)
