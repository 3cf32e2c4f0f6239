-- Worked rows of the lexical format (sections 6.2 and 6.3 of the standard): the tokens of single texts.
use Rattle.std.specs.Prelude.{◌≡◌, [], ◌∷◌, ◌++◌, codes, refl}
use Rattle.std.specs.Char.{encode_utf8}
use Rattle.std.specs.Str.{is_utf8, chars}
use Rattle.wasmprinter_spec.specs.Character.{class}
use Rattle.wasmprinter_spec.specs.Numeral.{numeral}
use Rattle.wasmprinter_spec.specs.Token.{open_paren, open_annotation, close_paren, word, name, string, reserved, bad, escape, lex, tokens}

-- ---- words, names and parentheses

group_tokens : tokens (codes "(module $m\t(func\r\n0))\n") ≡ open_paren ∷ word (codes "module") ∷ name (codes "m") ∷ open_paren ∷ word (codes "func") ∷ word (codes "0") ∷ close_paren ∷ close_paren ∷ []
unfolding lex class
group_tokens = refl

-- All identifier characters that are neither digits nor letters, after a letter
sign_characters : tokens (codes "a!#$%&'*+-./:<=>?@\\^_`|~") ≡ word (codes "a!#$%&'*+-./:<=>?@\\^_`|~") ∷ []
unfolding lex class
sign_characters = refl

-- A sign that begins an identifier or an annotation may occur within a word.
one_word : tokens (codes "i32$x @a") ≡ word (codes "i32$x") ∷ word (codes "@a") ∷ []
unfolding lex class
one_word = refl

-- Except for the dollar sign, these signs may also begin a word.
first_signs : tokens (codes "\\a $\\a (@\\a @ @@ # $# (@#")
    ≡ word (codes "\\a") ∷ name (codes "\\a") ∷ open_annotation (codes "\\a") ∷ word (codes "@") ∷ word (codes "@@") ∷ word (codes "#") ∷ name (codes "#") ∷ open_annotation (codes "#") ∷ []
unfolding lex class
first_signs = refl

same_name : tokens (codes "$f $\"f\" $\"\\66\" $\"\\u{66}\"") ≡ name (codes "f") ∷ name (codes "f") ∷ name (codes "f") ∷ name (codes "f") ∷ []
unfolding lex class escape numeral encode_utf8 is_utf8 chars
same_name = refl

name_with_space : tokens (codes "$\"a b\" $$ $@") ≡ name (codes "a b") ∷ name (codes "$") ∷ name (codes "@") ∷ []
unfolding lex class encode_utf8 is_utf8 chars
name_with_space = refl

-- An identifier is neither empty nor invalid UTF-8. A dollar sign alone is no identifier.
no_names : tokens (codes "$ $\"\" $\"\\ff\" ($)") ≡ reserved ∷ reserved ∷ reserved ∷ open_paren ∷ reserved ∷ close_paren ∷ []
unfolding lex class escape encode_utf8 is_utf8 chars
no_names = refl

-- Each of these signs is a token by itself, which is allowed only in annotations.
reserved_signs : tokens (codes ", ; [ ] { }") ≡ reserved ∷ reserved ∷ reserved ∷ reserved ∷ reserved ∷ reserved ∷ []
unfolding lex class
reserved_signs = refl

-- Tokens at the end of the text
cut_tokens : tokens (codes "a") ++ tokens (codes "$a") ++ tokens (codes "$") ++ tokens (codes ";") ++ tokens (codes "(") ++ tokens (codes "(@") ++ tokens (codes "(@a") ++ tokens (codes "\"a\"")
    ≡ word (codes "a") ∷ name (codes "a") ∷ reserved ∷ reserved ∷ open_paren ∷ open_paren ∷ reserved ∷ open_annotation (codes "a") ∷ string (codes "a") ∷ []
unfolding lex class
cut_tokens = refl

-- ---- tokens that touch

touching_strings : tokens (codes "\"a\"\"b\"") ≡ string (codes "a") ∷ reserved ∷ string (codes "b") ∷ []
unfolding lex class
touching_strings = refl

touching_word : tokens (codes "a\"b\" \"a\"b $a\"b\" \"a\"$b")
    ≡ word (codes "a") ∷ reserved ∷ string (codes "b") ∷ string (codes "a") ∷ reserved ∷ word (codes "b")
    ∷ name (codes "a") ∷ reserved ∷ string (codes "b") ∷ string (codes "a") ∷ reserved ∷ name (codes "b") ∷ []
unfolding lex class
touching_word = refl

-- A parenthesis or a comment may touch the tokens before and after it.
parted : tokens (codes "(\"a\"(b)\"c\"d;;\ne(;;)f)") ≡ open_paren ∷ string (codes "a") ∷ open_paren ∷ word (codes "b") ∷ close_paren ∷ string (codes "c") ∷ reserved ∷ word (codes "d") ∷ word (codes "e") ∷ word (codes "f") ∷ close_paren ∷ []
unfolding lex class
parted = refl

-- ---- comments

line_comments : tokens (codes "a;;b)\nc;; d\re ;; (f\r\ng ;;h") ≡ word (codes "a") ∷ word (codes "c") ∷ word (codes "e") ∷ word (codes "g") ∷ []
unfolding lex class
line_comments = refl

block_comments : tokens (codes "a(; b (; c ;) d ;)e (;;) (;(;;);) (;;;) (;();) (; ;; ;) f") ≡ word (codes "a") ∷ word (codes "e") ∷ word (codes "f") ∷ []
unfolding lex class
block_comments = refl

-- A comment may open directly after a parenthesis, a semicolon or another opening.
nested_comments : tokens (codes "(; ((; ;) ;) a (; ;(; ;) ;) b (; (;) ;) ;) c (;(;;)(;;);) d") ≡ word (codes "a") ∷ word (codes "b") ∷ word (codes "c") ∷ word (codes "d") ∷ []
unfolding lex class
nested_comments = refl

-- Comments may contain characters that no token may contain.
in_comments : tokens (codes "(; " ++ 0x00 ∷ 0x7f ∷ 0xc3 ∷ 0xa9 ∷ codes " \" ;) ;; " ++ 0x01 ∷ 0xc3 ∷ 0xa9 ∷ codes "\" (;") ≡ []
unfolding lex class
in_comments = refl

open_comment : tokens (codes "a (; b (; c ;)") ≡ word (codes "a") ∷ bad ∷ []
unfolding lex class
open_comment = refl

-- A semicolon belongs to only one of `(;` and `;)`.
shared_parenthesis : tokens (codes "(;)") ≡ bad ∷ []
unfolding lex class
shared_parenthesis = refl

-- The end of a comment where no comment is open
end_alone : tokens (codes "a ;) b") ≡ word (codes "a") ∷ reserved ∷ close_paren ∷ word (codes "b") ∷ []
unfolding lex class
end_alone = refl

-- ---- strings

simple_escapes : tokens (codes "\"\\t\\n\\r\\\"\\'\\\\\"") ≡ string (9 ∷ 10 ∷ 13 ∷ 34 ∷ 39 ∷ 92 ∷ []) ∷ []
unfolding lex class escape
simple_escapes = refl

byte_escapes : tokens (codes "\"\\00\\66\\C3\\a9\\fF\"") ≡ string (0x00 ∷ 0x66 ∷ 0xc3 ∷ 0xa9 ∷ 0xff ∷ []) ∷ []
unfolding lex class escape
byte_escapes = refl

character_escapes : tokens (codes "\"\\u{0}\\u{e9}\\u{1F600}\\u{10_ffff}\\u{D7FF}\\u{000000e000}\"")
    ≡ string (0x00 ∷ 0xc3 ∷ 0xa9 ∷ 0xf0 ∷ 0x9f ∷ 0x98 ∷ 0x80 ∷ 0xf4 ∷ 0x8f ∷ 0xbf ∷ 0xbf ∷ 0xed ∷ 0x9f ∷ 0xbf ∷ 0xee ∷ 0x80 ∷ 0x80 ∷ []) ∷ []
unfolding lex class escape numeral encode_utf8
character_escapes = refl

-- Characters beyond ASCII, parentheses and comment delimiters have no special meaning in strings.
plain_string : tokens (34 ∷ 0xc3 ∷ 0xa9 ∷ codes " (; ;; )'\"") ≡ string (0xc3 ∷ 0xa9 ∷ codes " (; ;; )'") ∷ []
unfolding lex class
plain_string = refl
