-- The calls that worked rows contain.
use Rattle.std.specs.Prelude.{ℕ, List, [], ◌∷◌}
use Rattle.wasmprinter_spec.specs.Call.{Call, Style, Text, Start, Reset}

-- A text without a style
abbrev pub plain : List ℕ → List Call
plain s = Text s ∷ []

-- A text in a style
abbrev pub in_style : Style → List ℕ → List Call
in_style style s = Start style ∷ Text s ∷ Start Reset ∷ []
