-- Pieces: the smallest parts of a layout that read by themselves. Each has its calls on the printer and its tokens.
-- With folding, a keyword with its immediates is one `OpenPlain`, and a hint is one `Word`. The tokens of these two are
-- not those of `piece_tokens`, but those of the pieces that they were joined from.
use Rattle.std.specs.Prelude.{ℕ, ℤ, zero, suc, ◌-◌, min, List, [], ◌∷◌, ◌++◌, Bool, true, false, codes, decimal, Option, Some, None, replicate, length, flat_map, encode_utf8_all, map}
use Rattle.std.specs.Fmt.{signed_decimal, digits}
use Rattle.wasmprinter_spec.specs.Call.{Call, Text, Newline, Line, Start, Claim, Style, Literal, Name, Keyword, TypeName, Comment, Reset, text_of}
use Rattle.wasmprinter_spec.specs.Options.{Options}
use Rattle.wasmprinter_spec.specs.Float.{Width}
use Rattle.wasmprinter_spec.specs.FloatText.{float_text, float_calls}
use Rattle.wasmprinter_spec.specs.Quoted.{char_text, quoted_text, quoted_bytes, identifier_text}
use Rattle.wasmprinter_spec.specs.Token as token
use Rattle.wasmprinter_spec.specs.Token.{Token}

-- A piece of a layout. The text of a comment is that between its delimiters `(;` and `;)`, or after `;;` and a space. A
-- block comment with `true` has the style of comments, with `false` none.
pub data Piece : Type 0 where
  Begin : ℕ → Piece  -- the first line begins, at this place
  EndLine : Piece  -- the last line ends
  Break : Option ℕ → ℕ → Piece  -- a new line: its place, if it has one, and its nesting depth
  OneSpace : Piece  -- a space
  Open : List ℕ → Piece  -- a parenthesis and a keyword
  OpenSpace : List ℕ → Piece  -- the same, and a space
  OpenPlain : List ℕ → Piece  -- a parenthesis and a keyword without a style
  OpenUnnamed : Piece  -- a parenthesis without a keyword
  OpenTypeSpace : List ℕ → Piece  -- a parenthesis, the word of a type and a space
  OpenAnnotation : List ℕ → Piece  -- a parenthesis, the sign @ and the name of an annotation
  OpenAnnotationSpace : List ℕ → Piece  -- the same, and a space
  OpenAnnotationWord : List ℕ → Piece  -- in an annotation: a parenthesis and any run of identifier characters
  CloseParen : Piece  -- a closing parenthesis
  Word : List ℕ → Piece  -- a word without a style
  TypeWord : List ℕ → Piece  -- the word of a type
  TypeWordSpace : List ℕ → Piece  -- the same, and a space
  SpaceTypeWord : List ℕ → Piece  -- a space and the word of a type
  Number : ℕ → Piece  -- an index
  Constant : ℤ → Piece  -- a space and a number with its sign
  Literals : List ℕ → List (List ℕ) → Piece  -- words with spaces between them
  SpaceLiterals : List (List ℕ) → Piece  -- words, a space before each
  Float : Width → ℕ → Piece  -- a floating-point number, by its bits
  IndexComment : ℕ → Piece  -- (;i;), the index of a declaration
  BeginName : Piece  -- text after this has the style of names
  EndStyle : Piece  -- text after this has no style
  Quoted : List ℕ → Piece  -- a quoted string, by its characters
  QuotedBytes : List ℕ → Piece  -- quoted bytes
  Identifier : List ℕ → Piece  -- an identifier, by the characters after the dollar sign
  NameAnnotation : List ℕ → Piece  -- the annotation `(@name "..")`, by the characters of the name
  BlockComment : Bool → List ℕ → Piece  -- a space and a block comment, with a style or without
  LineComment : List ℕ → Piece  -- a line comment
  PlainLineComment : List ℕ → Piece  -- the same without a style
  HintAnnotation : Bool → Piece  -- the annotation of a branch hint
  Claimed : List ℕ → ℕ → List ℕ → Bool → Piece  -- the claim of a custom section, with the answer

-- The greatest number of levels by which a line is indented.
abbrev pub most_indents : ℕ
most_indents = 50

-- The text, n times.
unfoldable pub repetition_of : ℕ → List ℕ → List ℕ
repetition_of zero text = []
repetition_of (suc n) text = text ++ repetition_of n text

-- The text, filled with spaces to a width.
unfoldable pub left_in : ℕ → List ℕ → List ℕ
left_in width text = text ++ replicate (width - length text) 32

-- The width of a place at the start of a line, in hexadecimal digits.
abbrev pub place_width : ℕ
place_width = 6

-- The comment with a place in hexadecimal, filled with spaces to that width; the same number of spaces if there is no
-- place.
unfoldable pub place_text : Option ℕ → List ℕ
place_text (Some p) = codes "(;@" ++ (left_in place_width (digits 16 false p) ++ codes ";)")
place_text None = replicate 11 32

-- The calls for the place with which a line begins. The first argument says whether lines begin with their places.
abbrev pub place_calls : Bool → Option ℕ → List Call
place_calls false place = []
place_calls true (Some p) = Start Comment ∷ (Text (place_text (Some p)) ∷ (Start Reset ∷ []))
place_calls true None = Text (place_text None) ∷ []

-- The calls for a text in a style.
abbrev pub calls_in_style : Style → List ℕ → List Call
calls_in_style style s = Start style ∷ (Text s ∷ (Start Reset ∷ []))

-- Words, with a space before each.
abbrev pub after_spaces : List (List ℕ) → List ℕ
after_spaces [] = []
after_spaces (w ∷ ws) = 32 ∷ (w ++ after_spaces ws)

-- A token for each word.
abbrev pub word_tokens : List (List ℕ) → List Token
word_tokens ws = map token.word ws

-- The byte of a branch hint: 1 if the branch is likely, otherwise 0.
abbrev pub flag_byte : Bool → ℕ
flag_byte true = 1
flag_byte false = 0

-- The calls of a piece on the printer.
abbrev pub calls : Options → Piece → List Call
calls o (Begin place) = Line (Some place) ∷ []
calls o EndLine = Newline ∷ []
calls o (Break place nesting) =
    Newline ∷ (Line place ∷ (place_calls o.offsets place ++ (Text (repetition_of (min nesting most_indents) o.indent) ∷ [])))
calls o OneSpace = Text (codes " ") ∷ []
calls o (Open w) = Text (codes "(") ∷ calls_in_style Keyword w
calls o (OpenSpace w) = Text (codes "(") ∷ calls_in_style Keyword (w ++ codes " ")
calls o (OpenPlain w) = Text (codes "(" ++ w) ∷ []
calls o OpenUnnamed = Text (codes "(") ∷ calls_in_style Keyword []
calls o (OpenTypeSpace w) = Text (codes "(") ∷ calls_in_style TypeName (w ++ codes " ")
calls o (OpenAnnotation w) = Text (codes "(") ∷ calls_in_style Keyword (64 ∷ w)
calls o (OpenAnnotationSpace w) = Text (codes "(") ∷ calls_in_style Keyword (64 ∷ (w ++ codes " "))
calls o (OpenAnnotationWord w) = Text (codes "(") ∷ calls_in_style Keyword w
calls o CloseParen = Text (codes ")") ∷ []
calls o (Word w) = Text w ∷ []
calls o (TypeWord w) = calls_in_style TypeName w
calls o (TypeWordSpace w) = calls_in_style TypeName (w ++ codes " ")
calls o (SpaceTypeWord w) = calls_in_style TypeName (32 ∷ w)
calls o (Number n) = calls_in_style Name (decimal n)
calls o (Constant z) = calls_in_style Literal (32 ∷ signed_decimal z)
calls o (Literals w ws) = calls_in_style Literal (w ++ after_spaces ws)
calls o (SpaceLiterals ws) = calls_in_style Literal (after_spaces ws)
calls o (Float w bits) = float_calls w bits
calls o (IndexComment n) = Text (codes "(;" ++ (decimal n ++ codes ";)")) ∷ []
calls o BeginName = Start Name ∷ []
calls o EndStyle = Start Reset ∷ []
calls o (Quoted cs) = calls_in_style Literal (quoted_text cs)
calls o (QuotedBytes bs) = calls_in_style Literal (quoted_bytes bs)
calls o (Identifier cs) = Text (identifier_text cs) ∷ []
calls o (NameAnnotation cs) =
    Text (codes "(") ∷ (calls_in_style Keyword (codes "@name \"") ++ (Text (flat_map char_text cs) ∷ (Text (codes "\")") ∷ [])))
calls o (BlockComment true s) = calls_in_style Comment (codes " (;" ++ (s ++ codes ";)"))
calls o (BlockComment false s) = Text (codes " (;" ++ (s ++ codes ";)")) ∷ []
calls o (LineComment s) = calls_in_style Comment (codes ";; " ++ s)
calls o (PlainLineComment s) = Text (codes ";; " ++ s) ∷ []
calls o (HintAnnotation taken) =
    calls_in_style Comment (codes "(@metadata.code.branch_hint " ++ (quoted_bytes (flag_byte taken ∷ []) ++ codes ")"))
calls o (Claimed name place bytes answer) = Claim name place bytes answer ∷ []

-- The tokens of a piece.
abbrev pub piece_tokens : Piece → List Token
piece_tokens (Open w) = token.open_paren ∷ (token.word w ∷ [])
piece_tokens (OpenSpace w) = token.open_paren ∷ (token.word w ∷ [])
piece_tokens (OpenPlain w) = token.open_paren ∷ (token.word w ∷ [])
piece_tokens OpenUnnamed = token.open_paren ∷ []
piece_tokens (OpenTypeSpace w) = token.open_paren ∷ (token.word w ∷ [])
piece_tokens (OpenAnnotation w) = token.open_annotation w ∷ []
piece_tokens (OpenAnnotationSpace w) = token.open_annotation w ∷ []
piece_tokens (OpenAnnotationWord w) = token.tokens (40 ∷ w)
piece_tokens CloseParen = token.close_paren ∷ []
piece_tokens (Word w) = token.word w ∷ []
piece_tokens (TypeWord w) = token.word w ∷ []
piece_tokens (TypeWordSpace w) = token.word w ∷ []
piece_tokens (SpaceTypeWord w) = token.word w ∷ []
piece_tokens (Number n) = token.word (decimal n) ∷ []
piece_tokens (Constant z) = token.word (signed_decimal z) ∷ []
piece_tokens (Literals w ws) = word_tokens (w ∷ ws)
piece_tokens (SpaceLiterals ws) = word_tokens ws
piece_tokens (Float w bits) = token.word (float_text w bits) ∷ []
piece_tokens (Quoted cs) = token.string (encode_utf8_all cs) ∷ []
piece_tokens (QuotedBytes bs) = token.string bs ∷ []
piece_tokens (Identifier cs) = token.name (encode_utf8_all cs) ∷ []
piece_tokens (NameAnnotation cs) = token.open_annotation (codes "name") ∷ (token.string (encode_utf8_all cs) ∷ (token.close_paren ∷ []))
piece_tokens (HintAnnotation taken) =
    token.open_annotation (codes "metadata.code.branch_hint") ∷ (token.string (flag_byte taken ∷ []) ∷ (token.close_paren ∷ []))
piece_tokens _ = []

-- The text of a piece.
abbrev pub text : Options → Piece → List ℕ
text o p = text_of (calls o p)

-- The calls of pieces, in order.
abbrev pub all_calls : Options → List Piece → List Call
all_calls o [] = []
all_calls o (p ∷ ps) = calls o p ++ all_calls o ps

-- The tokens of pieces, in order.
abbrev pub all_tokens : List Piece → List Token
all_tokens [] = []
all_tokens (p ∷ ps) = piece_tokens p ++ all_tokens ps
