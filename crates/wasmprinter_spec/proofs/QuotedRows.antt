-- Worked rows of quoted strings and quoted bytes (section 6.3 of the standard, "Strings"): their printed texts.
use Rattle.std.specs.Prelude.{◌≡◌, [], ◌∷◌, map, codes, refl}
use Rattle.std.specs.Fmt.{digits}
use Rattle.wasmprinter_spec.specs.Quoted.{char_text, byte_text, quoted_text, quoted_bytes}

-- An escape character and an é, as characters and as the bytes of their UTF-8
characters : quoted_text (0x1b ∷ 0xe9 ∷ []) ≡ codes "\"\\u{1b}\\u{e9}\""
unfolding quoted_text char_text digits
characters = refl

bytes : quoted_bytes (0x1b ∷ 0xc3 ∷ 0xa9 ∷ []) ≡ codes "\"\\1b\\c3\\a9\""
unfolding quoted_bytes byte_text
bytes = refl

quote_and_zero : quoted_bytes (0x41 ∷ 0x22 ∷ 0x00 ∷ []) ≡ codes "\"A\\22\\00\""
unfolding quoted_bytes byte_text
quote_and_zero = refl

-- The boundaries of the bytes that are not escaped, and the backslash
edges : map byte_text (0x1f ∷ 0x20 ∷ 0x5c ∷ 0x7e ∷ 0x7f ∷ 0xff ∷ []) ≡ codes "\\1f" ∷ codes " " ∷ codes "\\5c" ∷ codes "~" ∷ codes "\\7f" ∷ codes "\\ff" ∷ []
unfolding byte_text
edges = refl

nothing : quoted_bytes [] ≡ codes "\"\""
unfolding quoted_bytes
nothing = refl
