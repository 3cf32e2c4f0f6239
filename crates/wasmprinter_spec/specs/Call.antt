-- Calls on a printer, and the text that a list of calls passes to it. Calls are the printer's own: the standard
-- defines only the text.
use Rattle.std.specs.Prelude.{◌≡◌, ℕ, List, [], ◌∷◌, ◌++◌, Bool, false, Option, map}

-- The style that a style call selects.
pub data Style : Type 0 where
  Literal : Style
  Name : Style
  Keyword : Style
  TypeName : Style
  Comment : Style
  Reset : Style

-- A call on a printer: a piece of text; a line feed; the start of a line with its place, if it has one; a style;
-- or the question whether the printer claims a custom section (its name, the place of its data, the data), with
-- the answer.
pub data Call : Type 0 where
  Text : List ℕ → Call
  Newline : Call
  Line : Option ℕ → Call
  Start : Style → Call
  Claim : List ℕ → ℕ → List ℕ → Bool → Call

-- The printer did not claim a custom section.
abbrev pub IsUnclaimed : Call → Type 0
IsUnclaimed (Text s) = Unit {0}
IsUnclaimed Newline = Unit {0}
IsUnclaimed (Line place) = Unit {0}
IsUnclaimed (Start style) = Unit {0}
IsUnclaimed (Claim name place bytes answer) = answer ≡ false

-- The call passes text, which may be empty.
abbrev pub IsText : Call → Type 0
IsText (Text s) = Unit {0}
IsText Newline = Unit {0}
IsText _ = ⊥

-- The call passes text or selects a style.
abbrev pub IsTextOrStyle : Call → Type 0
IsTextOrStyle (Start style) = Unit {0}
IsTextOrStyle c = IsText c

-- The text that one call passes.
abbrev pub call_text : Call → List ℕ
call_text (Text s) = s
call_text Newline = 10 ∷ []
call_text (Line place) = []
call_text (Start style) = []
call_text (Claim name place bytes answer) = []

-- The text of a list of calls.
abbrev pub text_of : List Call → List ℕ
text_of [] = []
text_of (c ∷ cs) = call_text c ++ text_of cs

-- A call, with its text split into single bytes.
abbrev pub calls_of_bytes : Call → List Call
calls_of_bytes (Text s) = map (λ b. Text (b ∷ [])) s
calls_of_bytes c = c ∷ []

-- The calls with each text split into single bytes. Two lists of calls are alike if their atoms are equal: they
-- differ only in how text is split into pieces.
abbrev pub atoms : List Call → List Call
atoms [] = []
atoms (c ∷ cs) = calls_of_bytes c ++ atoms cs
