-- The encoding of text in the data of the page.
--
-- The data consists of elements `<script type="text/plain">`, which a browser neither shows nor runs. One has the name
-- of the module's file. Each function has one, and each run of other fields has one. In these, each line consists of
-- its byte offset from the start of the module in hexadecimal (or nothing), a space, the encoded text of the line, and
-- a line feed. Between parts of the encoded text, a control character starts a style: 1 for literals, 2 for names, 3
-- for keywords, 4 for types, 5 for comments, and 6 for text without a style.
use Rattle.std.specs.Prelude.{ℕ, ◌+◌, ◌-◌, ◌≤◌, ◌≢◌, List, [], ◌∷◌, ◌==◌, nat_lt, codes, flat_map, if◌then◌else◌}
use Rattle.std.specs.List.{All}

-- Control characters, `%`, `&` and `<` are represented by a percent sign and the character 64 places after them. For
-- `%` it is `e`, for `&` it is `f`, and for `<` it is `|`. Other bytes represent themselves.
abbrev pub escape_byte : ℕ → List ℕ
escape_byte b =
    if nat_lt b 32 then 37 ∷ ((b + 64) ∷ [])
    else (if b == 37 then codes "%e"
    else (if b == 38 then codes "%f"
    else (if b == 60 then codes "%|"
    else b ∷ [])))

-- The text with each byte escaped.
abbrev pub escaped : List ℕ → List ℕ
escaped text = flat_map escape_byte text

-- The text that an encoded text represents, as the script of the page reads it.
abbrev pub unescaped : List ℕ → List ℕ
unescaped [] = []
unescaped (b ∷ []) = b ∷ []
unescaped (b ∷ c ∷ rest) = if b == 37 then (c - 64) ∷ unescaped rest else b ∷ unescaped (c ∷ rest)

-- The byte is no control character, no `&` and no `<`.
abbrev pub IsInertByte : ℕ → Type 0
IsInertByte b = (32 ≤ b) × (b ≢ 38) × (b ≢ 60)

-- Each byte is inert. So the bytes can neither end an element nor be read as markup, and they contain no line feed and
-- no change of style.
abbrev pub IsInert : List ℕ → Type 0
IsInert = All IsInertByte
