-- How text looks on a terminal, and the ANSI escape sequences for this (Select Graphic Rendition of ECMA-48).
use Rattle.std.specs.Prelude.{ℕ, ◌+◌, Bool, true, false, List, [], ◌∷◌, ◌++◌, Option, Some, None, codes, decimal}
use Rattle.wasmprinter_spec.specs.Color.{introducer}

-- A look: the number of the color, if there is one; whether text is bold; whether the color is intense.
pub record Look : Type 0 where
  pub color : Option ℕ
  pub bold : Bool
  pub intense : Bool

-- The look of text without a color, neither bold nor intense.
abbrev pub bare_look : Look
bare_look = record { color = None; bold = false; intense = false }

-- The sequence that resets to text without colors.
abbrev pub reset_sequence : List ℕ
reset_sequence = introducer ++ codes "0m"

-- The sequence for bold text.
abbrev pub bold_sequence : List ℕ
bold_sequence = introducer ++ codes "1m"

-- The sequence of a color: one of the first eight or, if it is intense, the color that is eight further in the
-- palette of 256 colors.
abbrev pub foreground : ℕ → Bool → List ℕ
foreground c false = introducer ++ (codes "3" ++ (decimal c ++ codes "m"))
foreground c true = introducer ++ (codes "38;5;" ++ (decimal (8 + c) ++ codes "m"))

-- The sequence for bold text, if the text is bold.
abbrev pub bold_sequences : Bool → List (List ℕ)
bold_sequences true = bold_sequence ∷ []
bold_sequences false = []

-- The sequence of the color, if there is one. The second argument says whether the color is intense.
abbrev pub color_sequences : Option ℕ → Bool → List (List ℕ)
color_sequences (Some c) intense = foreground c intense ∷ []
color_sequences None intense = []

-- The sequences of a look, in order: reset, then bold, then the color. Without a look: reset alone.
abbrev pub sequences_of : Option Look → List (List ℕ)
sequences_of None = reset_sequence ∷ []
sequences_of (Some look) = reset_sequence ∷ (bold_sequences look.bold ++ color_sequences look.color look.intense)
