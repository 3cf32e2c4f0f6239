-- A text split where its lines start. Of a `LineStart`, `at` is a byte offset from the start of the
-- text, and `place` a byte offset from the start of the module.
use Rattle.std.specs.Prelude.{ℕ, List, [], ◌∷◌, take, drop, length, ◌-◌, ◌≤◌, ⊤}
use Rattle.std.specs.Str.{IsCharBoundary}
use Rattle.wasmprinter_spec.specs.Lines.{TextLine}
use Rattle.wasmprinter_writers.specs.declared.line_iterator.LineStart.{LineStart}

-- The start of the first line, or the end of the text if there is no line.
abbrev pub first_at : List LineStart → List ℕ → ℕ
first_at [] text = length text
first_at (s ∷ starts) text = s.at

-- The lines of a text that start at these offsets: the place of each line, and its text.
abbrev pub lines_at_starts : List LineStart → List ℕ → List TextLine
lines_at_starts [] text = []
lines_at_starts (s ∷ starts) text = (s.place, take (first_at starts text - s.at) (drop s.at text)) ∷ lines_at_starts starts text

-- The starts do not decrease, the last is not after the end of the text, and each is at a character boundary.
abbrev pub AreLineStarts : List LineStart → List ℕ → Type 0
AreLineStarts [] text = ⊤
AreLineStarts (s ∷ starts) text = IsCharBoundary text s.at × (s.at ≤ first_at starts text) × AreLineStarts starts text
