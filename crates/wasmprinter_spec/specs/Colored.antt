-- How the styles of a layout look on a terminal, and the text of calls with the ANSI escape sequences of their
-- styles. The standard does not define colors.
use Rattle.std.specs.Prelude.{ℕ, List, [], ◌∷◌, ◌++◌, true, false, Option, Some, None}
use Rattle.std.specs.List.{concat}
use Rattle.wasmprinter_spec.specs.Call.{Call, Text, Newline, Line, Start, Claim, Style, Literal, Name, Keyword, TypeName, Comment, Reset}
use Rattle.wasmprinter_spec.specs.Color.{uncolor}
use Rattle.wasmprinter_spec.specs.Looks.{Look, sequences_of}

-- Text in a color.
abbrev pub color_look : ℕ → Look
color_look c = record { color = Some c; bold = false; intense = false }

-- Bold text in the intense shade of a color.
abbrev pub strong_look : ℕ → Look
strong_look c = record { color = Some c; bold = true; intense = true }

-- Literals are red, names magenta, keywords bold in intense yellow, types bold in intense green, comments cyan.
abbrev pub look_of : Style → Option Look
look_of Literal = Some (color_look 1)
look_of Name = Some (color_look 5)
look_of Keyword = Some (strong_look 3)
look_of TypeName = Some (strong_look 2)
look_of Comment = Some (color_look 6)
look_of Reset = None

-- The bytes of one call: those of a text, a line feed, or the sequences of a style: a reset and then, if the style has
-- them, those for bold and for its color.
abbrev pub colored_bytes : Call → List ℕ
colored_bytes (Text bytes) = bytes
colored_bytes Newline = 10 ∷ []
colored_bytes (Line place) = []
colored_bytes (Start style) = concat (sequences_of (look_of style))
colored_bytes (Claim name place bytes claimed) = []

-- The bytes of a list of calls.
abbrev pub colored_text : List Call → List ℕ
colored_text [] = []
colored_text (c ∷ cs) = colored_bytes c ++ colored_text cs

-- A call without the ANSI escape sequences in its text.
abbrev pub bare_call : Call → Call
bare_call (Text bytes) = Text (uncolor bytes)
bare_call c = c
