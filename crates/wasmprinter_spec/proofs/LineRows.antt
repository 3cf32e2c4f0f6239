-- Worked rows of lines: text before the first line belongs to no line, styles and claims do not occur in lines,
-- and a line ends where the next one begins.
use Rattle.std.specs.Prelude.{◌≡◌, List, [], ◌∷◌, ◌++◌, codes, true, false, Some, None, refl}
use Rattle.wasmprinter_spec.specs.Call.{Call, Text, Newline, Line, Start, Claim, Keyword, Reset, text_of}
use Rattle.wasmprinter_spec.specs.Lines.{text_before_line, lines_of, joined_lines}

calls : List Call
calls =
    Text (codes "a") ∷ Newline ∷ Line (Some 0) ∷ Start Keyword ∷ Text (codes "(mod") ∷ Text (codes "ule") ∷ Start Reset ∷ Newline
    ∷ Claim (codes "x") 9 (1 ∷ []) false ∷ Line None ∷ Line (Some 12) ∷ Text (codes ")\n") ∷ Newline ∷ []

first : text_before_line calls ≡ codes "a\n"
unfolding calls
first = refl

split : lines_of calls ≡ (Some 0, codes "(module\n") ∷ (None, []) ∷ (Some 12, codes ")\n\n") ∷ []
unfolding calls
split = refl

whole : text_before_line calls ++ joined_lines (lines_of calls) ≡ text_of calls
unfolding calls
whole = refl

claimed : lines_of (Line None ∷ Claim (codes "x") 9 (1 ∷ []) true ∷ Newline ∷ []) ≡ (None, 10 ∷ []) ∷ []
claimed = refl

none : lines_of (Text (codes "a") ∷ Start Reset ∷ Newline ∷ []) ≡ []
none = refl
