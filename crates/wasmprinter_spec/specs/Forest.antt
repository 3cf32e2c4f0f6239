-- From tokens to nested groups, with annotations cut out of them (section 6.2 of the standard, "Annotations").
use Rattle.std.specs.Prelude.{List, [], ◌∷◌, ◌++◌, ℕ, Option, Some, None, bytes_eq, codes, cond}
use Rattle.wasmprinter_spec.specs.Token as token
use Rattle.wasmprinter_spec.specs.Token.{Token, tokens}

-- A row of items: each constructor is the first item, and its last field holds the items after it.
pub data Forest : Type 0 where
  End : Forest
  Word : List ℕ → Forest → Forest
  Name : List ℕ → Forest → Forest
  String : List ℕ → Forest → Forest
  Reserved : Forest → Forest
  Group : Forest → Forest → Forest
  Note : List ℕ → Forest → Forest → Forest  -- an annotation: its name and its content

-- The open rows, the innermost first. They are built from the right: a right parenthesis opens a row (`close_group`),
-- and the left parenthesis or the start of an annotation to the left of this row makes it a group (`open_group`) or
-- an annotation (`open_note`). If parentheses do not match, there is no row.
abbrev pub open_group : List Forest → List Forest
open_group [] = []
open_group (f ∷ []) = []
open_group (f ∷ g ∷ rest) = Group f g ∷ rest

-- The open rows after the start of an annotation with this name.
abbrev pub open_note : List ℕ → List Forest → List Forest
open_note id [] = []
open_note id (f ∷ []) = []
open_note id (f ∷ g ∷ rest) = Note id f g ∷ rest

-- The open rows after a right parenthesis.
abbrev pub close_group : List Forest → List Forest
close_group [] = []
close_group (f ∷ rest) = End ∷ (f ∷ rest)

-- The open rows with one more item at the start of the innermost row.
abbrev pub with_item : (Forest → Forest) → List Forest → List Forest
with_item item [] = []
with_item item (f ∷ rest) = item f ∷ rest

-- The open rows after one more token, which is to the left of those so far.
abbrev pub add_token : Token → List Forest → List Forest
add_token token.open_paren rows = open_group rows
add_token (token.open_annotation id) rows = open_note id rows
add_token token.close_paren rows = close_group rows
add_token (token.word s) rows = with_item (Word s) rows
add_token (token.name s) rows = with_item (Name s) rows
add_token (token.string s) rows = with_item (String s) rows
add_token token.reserved rows = with_item Reserved rows
add_token token.bad rows = []

-- The open rows of the tokens.
abbrev pub grow : List Token → List Forest
grow [] = End ∷ []
grow (t ∷ ts) = add_token t (grow ts)

-- The row, if exactly one is left.
abbrev pub the_one : List Forest → Option Forest
the_one [] = None
the_one (f ∷ []) = Some f
the_one (f ∷ g ∷ rest) = None

-- The nested groups of a text, or None if it has a bad token or parentheses do not match.
abbrev pub forest : List ℕ → Option Forest
forest text = the_one (grow (tokens text))

-- The items without annotations.
abbrev pub without_annotations : Forest → Forest
without_annotations End = End
without_annotations (Word s f) = Word s (without_annotations f)
without_annotations (Name s f) = Name s (without_annotations f)
without_annotations (String s f) = String s (without_annotations f)
without_annotations (Reserved f) = Reserved (without_annotations f)
without_annotations (Group g f) = Group (without_annotations g) (without_annotations f)
without_annotations (Note id g f) = without_annotations f

-- The content of each annotation `custom` that occurs directly in this row.
abbrev pub row_customs : Forest → List Forest
row_customs End = []
row_customs (Word s f) = row_customs f
row_customs (Name s f) = row_customs f
row_customs (String s f) = row_customs f
row_customs (Reserved f) = row_customs f
row_customs (Group g f) = row_customs f
row_customs (Note id g f) = cond (bytes_eq id (codes "custom")) (g ∷ row_customs f) (row_customs f)

-- The custom sections of a text: the content of each annotation `custom` among the fields of its module, but not
-- in another group or annotation.
abbrev pub customs : Forest → List Forest
customs End = []
customs (Word s f) = customs f
customs (Name s f) = customs f
customs (String s f) = customs f
customs (Reserved f) = customs f
customs (Group g f) = row_customs g ++ customs f
customs (Note id g f) = customs f

-- The items of a row, and then those of another.
abbrev pub onto : Forest → Forest → Forest
onto End f = f
onto (Word s g) f = Word s (onto g f)
onto (Name s g) f = Name s (onto g f)
onto (String s g) f = String s (onto g f)
onto (Reserved g) f = Reserved (onto g f)
onto (Group h g) f = Group h (onto g f)
onto (Note id h g) f = Note id h (onto g f)

-- The tokens of a row.
abbrev pub flat : Forest → List Token
flat End = []
flat (Word s f) = token.word s ∷ flat f
flat (Name s f) = token.name s ∷ flat f
flat (String s f) = token.string s ∷ flat f
flat (Reserved f) = token.reserved ∷ flat f
flat (Group g f) = token.open_paren ∷ (flat g ++ (token.close_paren ∷ flat f))
flat (Note id g f) = token.open_annotation id ∷ (flat g ++ (token.close_paren ∷ flat f))
