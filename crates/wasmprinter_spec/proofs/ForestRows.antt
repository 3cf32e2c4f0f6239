-- Worked rows of annotations and groups (section 6.2 of the standard, "Annotations"), and of texts that have no
-- groups.
use Rattle.std.specs.Prelude.{◌≡◌, ℕ, List, [], ◌∷◌, ◌++◌, codes, Option, Some, None, option_map, refl}
use Rattle.std.specs.Char.{encode_utf8}
use Rattle.std.specs.Str.{is_utf8, chars}
use Rattle.wasmprinter_spec.specs.Character.{class}
use Rattle.wasmprinter_spec.specs.Numeral.{numeral}
use Rattle.wasmprinter_spec.specs.Token.{escape, lex}
use Rattle.wasmprinter_spec.specs.Forest.{Forest, End, Word, Name, String, Reserved, Group, Note, forest, without_annotations, customs}

-- The groups of a text without its annotations
abbrev without_notes : List ℕ → Option Forest
without_notes text = option_map without_annotations (forest text)

abbrev customs_of : List ℕ → Option (List Forest)
customs_of text = option_map customs (forest text)

-- ---- groups

some_groups : forest (codes "(a ($b)() \"c\")") ≡ Some (Group (Word (codes "a") (Group (Name (codes "b") End) (Group End (String (codes "c") End)))) End)
unfolding lex class
some_groups = refl

no_text : forest (codes " ;; \n") ≡ Some End
unfolding lex class
no_text = refl

never_closed : forest (codes "(a (b)") ≡ None
unfolding lex class
never_closed = refl

never_opened : forest (codes "(a) b)") ≡ None
unfolding lex class
never_opened = refl

closed_before : forest (codes ")(") ≡ None
unfolding lex class
closed_before = refl

never_closed_note : forest (codes "(@a (b)") ≡ None
unfolding lex class
never_closed_note = refl

-- ---- annotations

a_note : forest (codes "a (@name \"x\" (y)) b") ≡ Some (Word (codes "a") (Note (codes "name") (String (codes "x") (Group (Word (codes "y") End) End)) (Word (codes "b") End)))
unfolding lex class
a_note = refl

quoted_note : forest (codes "(@\"a b\" c)") ≡ Some (Note (codes "a b") (Word (codes "c") End) End)
unfolding lex class is_utf8 chars encode_utf8
quoted_note = refl

sign_notes : without_notes (codes "(@a) (@aas-3!@$d-@#4) (@@) (@$) (@+) (@0) (@.) (@!$@#$23414@#$)") ≡ Some End
unfolding lex class
sign_notes = refl

-- Annotations may contain any tokens, even reserved ones.
reserved_in_note : without_notes (codes "(@a , ; ] [ }} }x{ ({) ,{{};}] ;)") ≡ Some End
unfolding lex class
reserved_in_note = refl

touching_in_note : without_notes (codes "(@a x-y$yz\"aa\"-2 0x 8q #4g0-.@4#0 00__ _nan & \"b\"\"c\" \")\" \"(\" x\")\"y)") ≡ Some End
unfolding lex class
touching_in_note = refl

notes_in_note : without_notes (codes "(@a @ @x (@x) (@x y) (@) (@ x) (@(@(@(@)))))") ≡ Some End
unfolding lex class
notes_in_note = refl

comments_in_note : without_notes (codes "(@a (; ) ;) b ;; )\n c) d") ≡ Some (Word (codes "d") End)
unfolding lex class
comments_in_note = refl

-- Fields of a `producers` section with the names $ and @
odd_names_in_note : without_notes (codes "(@producers ($ \"x\" \"1\") (@ \"x\" \"1\"))") ≡ Some End
unfolding lex class
odd_names_in_note = refl

-- ---- texts that are no annotations

-- A space after the sign, and an empty name
unnamed_notes : without_notes (codes "(@ a) (@) (@\"\")") ≡ Some (Group (Reserved (Word (codes "a") End)) (Group (Reserved End) (Group (Reserved End) End)))
unfolding lex class is_utf8 chars encode_utf8
unnamed_notes = refl

-- A space before the sign
parted_note : forest (codes "( @a)") ≡ Some (Group (Word (codes "@a") End) End)
unfolding lex class
parted_note = refl

-- ---- custom sections

outer_customs : customs_of (codes "(module (@custom \"a\" \"b\") (type (func)) (@custom \"c\"))") ≡ Some (String (codes "a") (String (codes "b") End) ∷ String (codes "c") End ∷ [])
unfolding lex class
outer_customs = refl

quoted_custom : customs_of (codes "(module (@\"custom\" \"a\"))") ≡ Some (String (codes "a") End ∷ [])
unfolding lex class is_utf8 chars encode_utf8
quoted_custom = refl

-- In another annotation, in another group, outside the module, and with another name
inner_customs : customs_of (codes "(module (@producers (@custom \"a\" \"b\")) (func (type 0) (@custom \"a\")) (@custom2 \"a\") (@ custom \"a\")) (@custom \"a\")") ≡ Some []
unfolding lex class
inner_customs = refl

-- ---- texts without tokens

open_string : forest (codes "\"abc") ≡ None
unfolding lex class
open_string = refl

open_escape : forest (codes "\"abc\\\"") ≡ None
unfolding lex class escape
open_escape = refl

line_in_string : forest (codes "\"a\nb\"") ≡ None
unfolding lex class
line_in_string = refl

return_in_string : forest (codes "\"a\rb\"") ≡ None
unfolding lex class
return_in_string = refl

tab_in_string : forest (codes "\"a\tb\"") ≡ None
unfolding lex class
tab_in_string = refl

delete_in_string : forest (34 ∷ 0x7f ∷ 34 ∷ []) ≡ None
unfolding lex class
delete_in_string = refl

wrong_escape : forest (codes "\"\\x\"") ≡ None
unfolding lex class escape
wrong_escape = refl

letter_after_hexadecimal : forest (codes "\"\\g0\"") ≡ None
unfolding lex class escape
letter_after_hexadecimal = refl

half_byte : forest (codes "\"\\6\"") ≡ None
unfolding lex class escape
half_byte = refl

wrong_digit : forest (codes "\"\\6g\"") ≡ None
unfolding lex class escape
wrong_digit = refl

no_brace : forest (codes "\"\\u66\"") ≡ None
unfolding lex class escape
no_brace = refl

empty_braces : forest (codes "\"\\u{}\"") ≡ None
unfolding lex class escape numeral
empty_braces = refl

no_hexadecimal : forest (codes "\"\\u{6g}\"") ≡ None
unfolding lex class escape numeral
no_hexadecimal = refl

surrogate_in_braces : forest (codes "\"\\u{dfff}\"") ≡ None
unfolding lex class escape numeral
surrogate_in_braces = refl

beyond_in_braces : forest (codes "\"\\u{110000}\"") ≡ None
unfolding lex class escape numeral
beyond_in_braces = refl

-- The same inside an annotation
wrong_in_note : forest (codes "(@a \"\\x\")") ≡ None
unfolding lex class escape
wrong_in_note = refl

control_outside : forest (codes "a" ++ 0x0c ∷ codes "b") ≡ None
unfolding lex class
control_outside = refl

foreign_outside : forest (codes "(@a " ++ 0xc3 ∷ 0xa9 ∷ codes ")") ≡ None
unfolding lex class
foreign_outside = refl
