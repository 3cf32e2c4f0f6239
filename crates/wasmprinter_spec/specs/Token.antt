-- From the bytes of a text to its tokens (sections 6.2 and 6.3 of the standard). `lex` goes over the bytes once;
-- its mode says what is open. In the standard, two tokens that touch are one reserved token: here a `reserved`
-- token is inserted between them. A reserved token may occur only in an annotation, and `bad` nowhere.
use Rattle.std.specs.Prelude.{ℕ, zero, suc, ◌+◌, ◌*◌, ◌==◌, Bool, true, false, ◌||◌, nat_lt, List, [], ◌∷◌, ◌++◌, Option, Some, None, encode_utf8, if◌then◌else◌}
use Rattle.std.specs.Char.{digit_value}
use Rattle.std.specs.Str.{is_utf8}
use Rattle.std.proofs.Math.Utf8.{scalar}
use Rattle.wasmprinter_spec.specs.Character.{Class, Space, Tab, Feed, OpenParen, CloseParen, Semicolon, Quote, Backslash, Dollar, At, Plain, Reserved, Control, Foreign, class}
use Rattle.wasmprinter_spec.specs.Numeral.{numeral}

-- A token of a text.
pub data Token : Type 0 where
  open_paren : Token
  open_annotation : List ℕ → Token  -- the start of an annotation: `(@`, and its name
  close_paren : Token
  word : List ℕ → Token  -- a keyword, a number, or any other run of identifier characters
  name : List ℕ → Token  -- an identifier, by its content: $a and $"a" are equal
  string : List ℕ → Token
  reserved : Token
  bad : Token

-- The kind of token that a run of identifier characters or a quoted string becomes.
pub data RunKind : Type 0 where
  AsWord : RunKind
  AsName : RunKind
  AsNote : RunKind
  AsString : RunKind

-- The state between two bytes of a text: which token or comment is open.
pub data Mode : Type 0 where
  Clear : Mode  -- a token may begin here
  Tight : Mode  -- after a quoted string, which a token must not touch
  InRun : RunKind → List ℕ → Mode
  AfterDollar : Mode
  AfterOpenParen : Mode
  AfterOpenParenAt : Mode
  AfterSemicolon : Mode
  InLine : Mode  -- in a line comment
  InBlock : ℕ → Mode  -- in a block comment, inside this number of others
  InBlockOpenParen : ℕ → Mode
  InBlockSemicolon : ℕ → Mode
  InQuoted : RunKind → List ℕ → Mode
  InEscape : RunKind → List ℕ → Mode
  InHex : RunKind → List ℕ → ℕ → Mode
  BeforeBrace : RunKind → List ℕ → Mode
  InBrace : RunKind → List ℕ → List ℕ → Mode

-- The tokens of the bytes that follow, by the mode in which these bytes begin.
abbrev pub Next : Type 0
Next = Mode → List Token

-- The token of a run of identifier characters.
abbrev pub run_token : RunKind → List ℕ → Token
run_token AsWord s = word s
run_token AsName s = name s
run_token AsNote s = open_annotation s
run_token AsString s = bad

-- The quoted content of an identifier or of an annotation's name: UTF-8, not empty.
abbrev pub is_name : List ℕ → Bool
is_name [] = false
is_name (b ∷ bs) = is_utf8 (b ∷ bs)

-- The tokens of a quoted string with the content s, by the kind of token that it becomes, and then the tokens ts.
abbrev pub quoted_tokens : RunKind → List ℕ → List Token → List Token
quoted_tokens AsWord s ts = bad ∷ ts
quoted_tokens AsName s ts = (if is_name s then name s else reserved) ∷ ts
quoted_tokens AsNote s ts = if is_name s then open_annotation s ∷ ts else open_paren ∷ (reserved ∷ ts)
quoted_tokens AsString s ts = string s ∷ ts

-- ---- Between tokens

-- The tokens from a byte on if no token is open. The arguments here and below are the class of the byte, the byte,
-- and the tokens of the bytes after it.
abbrev pub clear : Class → ℕ → Next → List Token
clear Space b k = k Clear
clear Tab b k = k Clear
clear Feed b k = k Clear
clear OpenParen b k = k AfterOpenParen
clear CloseParen b k = close_paren ∷ k Clear
clear Semicolon b k = k AfterSemicolon
clear Quote b k = k (InQuoted AsString [])
clear Dollar b k = k AfterDollar
clear Backslash b k = k (InRun AsWord (b ∷ []))
clear At b k = k (InRun AsWord (b ∷ []))
clear Plain b k = k (InRun AsWord (b ∷ []))
clear Reserved b k = reserved ∷ k Tight
clear Control b k = bad ∷ k Clear
clear Foreign b k = bad ∷ k Clear

-- A token may end before a byte of this class.
abbrev pub delimits : Class → Bool
delimits Space = true
delimits Tab = true
delimits Feed = true
delimits OpenParen = true
delimits CloseParen = true
delimits Semicolon = true
delimits _ = false

-- A byte directly after another token; `reserved` comes first unless the byte delimits the token, as the first
-- argument says.
abbrev pub touch : Bool → Class → ℕ → Next → List Token
touch true c b k = clear c b k
touch false c b k = reserved ∷ clear c b k

-- A byte after the run s of identifier characters, which becomes a token of the kind p.
abbrev pub in_run : RunKind → List ℕ → Class → ℕ → Next → List Token
in_run p s Backslash b k = k (InRun p (s ++ (b ∷ [])))
in_run p s Dollar b k = k (InRun p (s ++ (b ∷ [])))
in_run p s At b k = k (InRun p (s ++ (b ∷ [])))
in_run p s Plain b k = k (InRun p (s ++ (b ∷ [])))
in_run p s c b k = run_token p s ∷ touch (delimits c) c b k

-- After a dollar sign, which is a reserved token if no identifier follows.
abbrev pub after_dollar : Class → ℕ → Next → List Token
after_dollar Quote b k = k (InQuoted AsName [])
after_dollar Backslash b k = k (InRun AsName (b ∷ []))
after_dollar Dollar b k = k (InRun AsName (b ∷ []))
after_dollar At b k = k (InRun AsName (b ∷ []))
after_dollar Plain b k = k (InRun AsName (b ∷ []))
after_dollar c b k = reserved ∷ clear c b k

-- A byte after a left parenthesis.
abbrev pub after_open_paren : Class → ℕ → Next → List Token
after_open_paren Semicolon b k = k (InBlock 0)
after_open_paren At b k = k AfterOpenParenAt
after_open_paren c b k = open_paren ∷ clear c b k

-- After `(@`, which is a parenthesis and a reserved token if no name follows.
abbrev pub after_open_paren_at : Class → ℕ → Next → List Token
after_open_paren_at Quote b k = k (InQuoted AsNote [])
after_open_paren_at Backslash b k = k (InRun AsNote (b ∷ []))
after_open_paren_at Dollar b k = k (InRun AsNote (b ∷ []))
after_open_paren_at At b k = k (InRun AsNote (b ∷ []))
after_open_paren_at Plain b k = k (InRun AsNote (b ∷ []))
after_open_paren_at c b k = open_paren ∷ (reserved ∷ clear c b k)

-- ---- Comments

-- A byte after a semicolon, which is a reserved token if no second semicolon follows.
abbrev pub after_semicolon : Class → ℕ → Next → List Token
after_semicolon Semicolon b k = k InLine
after_semicolon c b k = reserved ∷ clear c b k

-- A byte in a line comment (section 6.2 of the standard, "Comments").
abbrev pub in_line : Class → Next → List Token
in_line Feed k = k Clear
in_line _ k = k InLine

-- The tokens after the end of a block comment that is inside this number of others.
abbrev pub close_block : ℕ → Next → List Token
close_block zero k = k Clear
close_block (suc n) k = k (InBlock n)

-- A byte in a block comment that is inside n others (section 6.2, "Comments").
abbrev pub in_block : ℕ → Class → Next → List Token
in_block n OpenParen k = k (InBlockOpenParen n)
in_block n Semicolon k = k (InBlockSemicolon n)
in_block n _ k = k (InBlock n)

-- A byte after a left parenthesis in a block comment, where a semicolon begins a nested comment.
abbrev pub in_block_open_paren : ℕ → Class → Next → List Token
in_block_open_paren n Semicolon k = k (InBlock (suc n))
in_block_open_paren n OpenParen k = k (InBlockOpenParen n)
in_block_open_paren n _ k = k (InBlock n)

-- A byte after a semicolon in a block comment, where a right parenthesis ends the comment.
abbrev pub in_block_semicolon : ℕ → Class → Next → List Token
in_block_semicolon n CloseParen k = close_block n k
in_block_semicolon n Semicolon k = k (InBlockSemicolon n)
in_block_semicolon n OpenParen k = k (InBlockOpenParen n)
in_block_semicolon n _ k = k (InBlock n)

-- ---- Quoted strings

-- A byte in a quoted string after the content s (section 6.3 of the standard, "Strings"). p is the kind of token that
-- the string becomes.
abbrev pub in_quoted : RunKind → List ℕ → Class → ℕ → Next → List Token
in_quoted p s Quote b k = quoted_tokens p s (k Tight)
in_quoted p s Backslash b k = k (InEscape p s)
in_quoted p s Feed b k = bad ∷ k Clear
in_quoted p s Control b k = bad ∷ k Clear
in_quoted p s Tab b k = bad ∷ k Clear
in_quoted p s _ b k = k (InQuoted p (s ++ (b ∷ [])))

-- The forms of an escape in a quoted string (section 6.3, "Strings"), by the byte after the backslash.
pub data Escape : Type 0 where
  Char : ℕ → Escape  -- a letter or a sign that represents a character
  Digit : ℕ → Escape  -- a hexadecimal digit
  Braced : Escape  -- a number in braces follows
  Wrong : Escape

-- The meaning of the byte after a backslash.
unfoldable pub escape : ℕ → Escape
escape b =
    if b == 117 then Braced else
    (if b == 116 then Char 9 else (if b == 110 then Char 10 else (if b == 114 then Char 13 else
    (if (b == 34) || (b == 39) || (b == 92) then Char b else
    (if nat_lt (digit_value b) 16 then Digit (digit_value b) else Wrong)))))

-- The byte after a backslash, by its meaning. p and s are as for `in_quoted`, here and below.
abbrev pub in_escape : RunKind → List ℕ → Escape → Next → List Token
in_escape p s (Char c) k = k (InQuoted p (s ++ (c ∷ [])))
in_escape p s (Digit h) k = k (InHex p s h)
in_escape p s Braced k = k (BeforeBrace p s)
in_escape p s Wrong k = bad ∷ k Clear

-- The byte after h, the first hexadecimal digit of an escape. The fourth argument says whether the byte is the second
-- digit.
abbrev pub in_hex : RunKind → List ℕ → ℕ → Bool → ℕ → Next → List Token
in_hex p s h true b k = k (InQuoted p (s ++ ((h * 16 + digit_value b) ∷ [])))
in_hex p s h false b k = bad ∷ k Clear

-- The byte after `\u`, which must be a left brace, as the third argument says.
abbrev pub before_brace : RunKind → List ℕ → Bool → Next → List Token
before_brace p s true k = k (InBrace p s [])
before_brace p s false k = bad ∷ k Clear

-- The end of an escape `\u{..}` for the character n, whose UTF-8 continues the content. The third argument says
-- whether n is a Unicode scalar value.
abbrev pub with_char : RunKind → List ℕ → Bool → ℕ → Next → List Token
with_char p s true n k = k (InQuoted p (s ++ encode_utf8 n))
with_char p s false n k = bad ∷ k Clear

-- The end of an escape `\u{..}`. The third argument is the number that its digits represent, or `None` if they are
-- not a numeral.
abbrev pub end_brace : RunKind → List ℕ → Option ℕ → Next → List Token
end_brace p s (Some n) k = with_char p s (scalar n) n k
end_brace p s None k = bad ∷ k Clear

-- A byte after the digits d of an escape `\u{..}`. The fourth argument says whether it is the right brace.
abbrev pub in_brace : RunKind → List ℕ → List ℕ → Bool → ℕ → Next → List Token
in_brace p s d true b k = end_brace p s (numeral 16 d) k
in_brace p s d false b k = k (InBrace p s (d ++ (b ∷ [])))

-- ---- All modes

-- The tokens from a byte on in this mode.
abbrev pub step : Mode → ℕ → Next → List Token
step Clear b k = clear (class b) b k
step Tight b k = touch (delimits (class b)) (class b) b k
step (InRun p s) b k = in_run p s (class b) b k
step AfterDollar b k = after_dollar (class b) b k
step AfterOpenParen b k = after_open_paren (class b) b k
step AfterOpenParenAt b k = after_open_paren_at (class b) b k
step AfterSemicolon b k = after_semicolon (class b) b k
step InLine b k = in_line (class b) k
step (InBlock n) b k = in_block n (class b) k
step (InBlockOpenParen n) b k = in_block_open_paren n (class b) k
step (InBlockSemicolon n) b k = in_block_semicolon n (class b) k
step (InQuoted p s) b k = in_quoted p s (class b) b k
step (InEscape p s) b k = in_escape p s (escape b) k
step (InHex p s h) b k = in_hex p s h (nat_lt (digit_value b) 16) b k
step (BeforeBrace p s) b k = before_brace p s (b == 123) k
step (InBrace p s d) b k = in_brace p s d (b == 125) b k

-- The last tokens of a text, by the mode at its end.
abbrev pub finish : Mode → List Token
finish Clear = []
finish Tight = []
finish (InRun p s) = run_token p s ∷ []
finish AfterDollar = reserved ∷ []
finish AfterOpenParen = open_paren ∷ []
finish AfterOpenParenAt = open_paren ∷ (reserved ∷ [])
finish AfterSemicolon = reserved ∷ []
finish InLine = []
finish _ = bad ∷ []

-- The tokens of the bytes, which begin in this mode.
unfoldable pub lex : Mode → List ℕ → List Token
lex m [] = finish m
lex m (b ∷ bs) = step m b (λ next. lex next bs)

-- The tokens of a text.
abbrev pub tokens : List ℕ → List Token
tokens text = lex Clear text
