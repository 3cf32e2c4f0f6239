-- Worked rows of name sections: the entries of their data, and the identifiers of the text.
use Rattle.std.specs.Prelude.{◌≡◌, ℕ, List, [], ◌∷◌, ◌++◌, length, true, false, codes, Option, Some, None, refl}
use Rattle.std.specs.Fmt.{digits}
use Rattle.std.specs.Char.{encode_utf8}
use Rattle.std.specs.Str.{is_utf8, chars}
use Rattle.wasmprinter_spec.specs.Grammar.{Input, input}
use Rattle.wasmprinter_spec.specs.Row.{Types, Func, Table, Memory, Tag, Global, Elem, Data, Local, Label}
use Rattle.wasmprinter_spec.specs.Labels.{Named}
use Rattle.wasmprinter_spec.specs.Names.Section.{Entry, subsections, label_subsection}
use Rattle.wasmprinter_spec.specs.Names.Content.{name_of}
use Rattle.wasmprinter_spec.specs.Names.{Names, names_of, identifiers}

-- The entries that the data gives, and the position at which reading stops, if it had no error
abbrev read : List ℕ → List Entry × Option Input
read bytes = (subsections (length bytes)).read (input 0 bytes)

-- The identifiers of a module with one name section
abbrev names : List ℕ → Names
names bytes = names_of false (read bytes).0

-- The same, with identifiers synthesized for all other items
abbrev names_for_all : List ℕ → Names
names_for_all bytes = names_of true (read bytes).0

abbrev entry : ℕ → ℕ → ℕ → List ℕ → Entry
entry s outer index name = record { subsection = s; outer = outer; index = index; name = name }

abbrev named : List ℕ → List ℕ → Option Named
named given content = Some (record { given = Some given; content = content })

-- ---- names of functions

-- Function names: 0 `a`, 1 `a`, 2 empty, 3 `#x`, 0 again, now `b`, 4 `a`; and an unused byte
abbrev functions : List ℕ
functions = codes "\u{1}\u{14}\u{6}\0\u{1}a\u{1}\u{1}a\u{2}\0\u{3}\u{2}#x\0\u{1}b\u{4}\u{1}a\u{7}"

functions_read : read functions ≡ (
  entry 1 0 0 (codes "a") ∷ entry 1 0 1 (codes "a") ∷ entry 1 0 2 [] ∷ entry 1 0 3 (codes "#x") ∷ entry 1 0 0 (codes "b") ∷ entry 1 0 4 (codes "a") ∷ [],
  Some (input 22 []),
)
unfolding is_utf8 chars encode_utf8
functions_read = refl

functions_named : identifiers ((names functions).items Func) 6 ≡
    Some (codes "b") ∷ Some (codes "#func1 a") ∷ Some (codes "#func2 ") ∷ Some (codes "#func3 #x") ∷ Some (codes "#func4 a") ∷ None ∷ []
unfolding is_utf8 chars encode_utf8 digits
functions_named = refl

functions_all_named : identifiers ((names_for_all functions).items Func) 6 ≡
    Some (codes "b") ∷ Some (codes "#func1 a") ∷ Some (codes "#func2 ") ∷ Some (codes "#func3 #x") ∷ Some (codes "#func4 a") ∷ Some (codes "#func5") ∷ []
unfolding is_utf8 chars encode_utf8 digits
functions_all_named = refl

-- The given name is kept beside the identifier.
given_name_stays : (names functions).items Func 1 ≡ named (codes "a") (codes "#func1 a")
unfolding is_utf8 chars encode_utf8 digits
given_name_stays = refl

-- Names of functions do not name items of other spaces.
tables_unnamed : identifiers ((names functions).items Table) 2 ≡ None ∷ None ∷ []
unfolding is_utf8 chars encode_utf8
tables_unnamed = refl

-- The same name for one index twice
given_again : (names (codes "\u{1}\u{7}\u{2}\0\u{1}a\0\u{1}a")).items Func 0 ≡ named (codes "a") (codes "#func0 a")
unfolding is_utf8 chars encode_utf8 digits
given_again = refl

-- A name that was replaced still counts as given.
replaced : identifiers ((names (codes "\u{1}\n\u{3}\0\u{1}a\0\u{1}b\u{1}\u{1}a")).items Func) 2 ≡ Some (codes "b") ∷ Some (codes "#func1 a") ∷ []
unfolding is_utf8 chars encode_utf8 digits
replaced = refl

-- A name that looks like a synthesized identifier
like_synthesized : (names_for_all (codes "\u{1}\t\u{1}\u{1}\u{6}#func0")).items Func 1 ≡ named (codes "#func0") (codes "#func1 #func0")
unfolding is_utf8 chars encode_utf8 digits
like_synthesized = refl

two_subsections : identifiers ((names (codes "\u{1}\u{4}\u{1}\0\u{1}a\u{1}\u{4}\u{1}\u{1}\u{1}a")).items Func) 2 ≡ Some (codes "a") ∷ Some (codes "#func1 a") ∷ []
unfolding is_utf8 chars encode_utf8 digits
two_subsections = refl

-- Function 0 is `a`. In a second section, 0 is `b` and 1 is `a`.
two_sections : identifiers ((names_of false ((read (codes "\u{1}\u{4}\u{1}\0\u{1}a")).0 ++ (read (codes "\u{1}\u{7}\u{2}\0\u{1}b\u{1}\u{1}a")).0)).items Func) 2
    ≡ Some (codes "b") ∷ Some (codes "#func1 a") ∷ []
unfolding is_utf8 chars encode_utf8 digits
two_sections = refl

-- ---- names of other items

-- Locals 0 and 1 of function 1 and local 0 of function 4, with the same name
abbrev locals : List ℕ
locals = codes "\u{2}\u{e}\u{2}\u{1}\u{2}\0\u{1}x\u{1}\u{1}x\u{4}\u{1}\0\u{1}x"

locals_of_one : identifiers ((names locals).locals 1) 3 ≡ Some (codes "x") ∷ Some (codes "#local1 x") ∷ None ∷ []
unfolding is_utf8 chars encode_utf8 digits
locals_of_one = refl

locals_of_another : identifiers ((names locals).locals 4) 1 ≡ Some (codes "x") ∷ []
unfolding is_utf8 chars encode_utf8 digits
locals_of_another = refl

locals_of_none : (names locals).locals 0 0 ≡ None
unfolding is_utf8 chars encode_utf8
locals_of_none = refl

-- Field 0 of type 0 and field 0 of type 3
abbrev fields : List ℕ
fields = codes "\n\u{b}\u{2}\0\u{1}\0\u{1}f\u{3}\u{1}\0\u{1}f"

fields_of_one : (names fields).fields 0 0 ≡ named (codes "f") (codes "f")
unfolding is_utf8 chars encode_utf8
fields_of_one = refl

fields_of_another : identifiers ((names_for_all fields).fields 3) 2 ≡ Some (codes "f") ∷ Some (codes "#field1") ∷ []
unfolding is_utf8 chars encode_utf8 digits
fields_of_another = refl

-- Labels 0 and 1 of function 0 have the same name. Label 2 has an empty name.
abbrev labels : List ℕ
labels = codes "\u{3}\u{b}\u{1}\0\u{3}\0\u{1}a\u{1}\u{1}a\u{2}\0"

label : (names labels).labels 0 1 5 ≡ named (codes "a") (codes "a")
unfolding is_utf8 chars encode_utf8
label = refl

label_of_no_bytes : (names labels).labels 0 2 5 ≡ named [] (codes "#label2 ")
unfolding is_utf8 chars encode_utf8 digits
label_of_no_bytes = refl

-- A synthesized label contains the number of enclosing blocks.
label_synthesized : (names_for_all labels).labels 0 3 5 ≡ Some (record { given = None; content = codes "#label5" })
unfolding is_utf8 chars encode_utf8 digits
label_synthesized = refl

-- The name that the entries give a label is the name that the text uses for it.
label_by_entries : name_of (read labels).0 label_subsection 0 2 ≡ (names labels).labels 0 2 5
unfolding is_utf8 chars encode_utf8 digits
label_by_entries = refl

-- The module is given the same name twice, and keeps it.
module_twice : (names (codes "\0\u{2}\u{1}m\0\u{2}\u{1}m")).module_name ≡ named (codes "m") (codes "m")
unfolding is_utf8 chars encode_utf8
module_twice = refl

module_without_letters : (names (codes "\0\u{1}\0")).module_name ≡ named [] (codes "#module0 ")
unfolding is_utf8 chars encode_utf8 digits
module_without_letters = refl

-- An item of each space
abbrev spaces : List ℕ
spaces = codes "\u{4}\u{4}\u{1}\0\u{1}t\u{5}\u{4}\u{1}\0\u{1}t\u{6}\u{4}\u{1}\0\u{1}t\u{7}\u{4}\u{1}\0\u{1}t\u{8}\u{4}\u{1}\0\u{1}t\t\u{4}\u{1}\0\u{1}t\u{b}\u{4}\u{1}\0\u{1}t"

spaces_named : identifiers ((names spaces).items Types) 1 ++ identifiers ((names spaces).items Table) 1 ++ identifiers ((names spaces).items Memory) 1
    ++ identifiers ((names spaces).items Global) 1 ++ identifiers ((names spaces).items Elem) 1 ++ identifiers ((names spaces).items Data) 1
    ++ identifiers ((names spaces).items Tag) 1 ++ identifiers ((names spaces).items Func) 1 ++ identifiers ((names spaces).items Local) 1
    ≡ Some (codes "t") ∷ Some (codes "t") ∷ Some (codes "t") ∷ Some (codes "t") ∷ Some (codes "t") ∷ Some (codes "t") ∷ Some (codes "t") ∷ None ∷ None ∷ []
unfolding is_utf8 chars encode_utf8
spaces_named = refl

-- Identifiers are synthesized for all items without a name, except the module.
all_synthesized : (names_for_all []).module_name ≡ None
all_synthesized = refl

items_synthesized : identifiers ((names_for_all []).items Types) 2 ++ identifiers ((names_for_all []).items Func) 1 ++ identifiers ((names_for_all []).items Table) 1
    ++ identifiers ((names_for_all []).items Memory) 1 ++ identifiers ((names_for_all []).items Global) 1 ++ identifiers ((names_for_all []).items Elem) 1
    ++ identifiers ((names_for_all []).items Data) 1 ++ identifiers ((names_for_all []).items Tag) 1 ++ identifiers ((names_for_all []).items Label) 1
    ≡ Some (codes "#type0") ∷ Some (codes "#type1") ∷ Some (codes "#func0") ∷ Some (codes "#table0") ∷ Some (codes "#memory0") ∷ Some (codes "#global0")
    ∷ Some (codes "#elem0") ∷ Some (codes "#data0") ∷ Some (codes "#tag0") ∷ None ∷ []
unfolding digits encode_utf8
items_synthesized = refl

parts_synthesized : identifiers ((names_for_all []).fields 7) 1 ++ identifiers ((names_for_all []).locals 7) 2
    ≡ Some (codes "#field0") ∷ Some (codes "#local0") ∷ Some (codes "#local1") ∷ []
unfolding digits encode_utf8
parts_synthesized = refl

-- ---- malformed data

-- The module is `m`; a subsection with an unknown id; locals of function 1: 0 is `x`, then a truncated name;
-- functions, which are not reached
cut_name : read (codes "\0\u{2}\u{1}m\u{c}\u{1}\u{7}\u{2}\t\u{1}\u{1}\u{2}\0\u{1}x\u{1}\u{5}y\u{1}\u{4}\u{1}\0\u{1}z")
    ≡ (entry 0 0 0 (codes "m") ∷ entry 2 1 0 (codes "x") ∷ [], None)
unfolding is_utf8 chars encode_utf8
cut_name = refl

first_name_cut : read (codes "\u{1}\u{4}\u{1}\0\u{5}a") ≡ ([], None)
unfolding is_utf8 chars encode_utf8
first_name_cut = refl

-- The count is one too great.
entry_missing : read (codes "\u{1}\u{4}\u{2}\0\u{1}a") ≡ (entry 1 0 0 (codes "a") ∷ [], None)
unfolding is_utf8 chars encode_utf8
entry_missing = refl

-- A subsection without bytes has no count.
no_count : read (codes "\u{1}\0\u{1}\u{4}\u{1}\0\u{1}a") ≡ ([], None)
unfolding is_utf8 chars encode_utf8
no_count = refl

-- A truncated subsection gives no entries.
size_too_great : read (codes "\u{1}\u{5}\u{1}\0\u{1}a") ≡ ([], None)
unfolding is_utf8 chars encode_utf8
size_too_great = refl

not_utf8 : read (0x01 ∷ 0x04 ∷ 0x01 ∷ 0x00 ∷ 0x01 ∷ 0xff ∷ []) ≡ ([], None)
unfolding is_utf8 chars encode_utf8
not_utf8 = refl

-- An id is one byte with any value.
great_id : read (0x80 ∷ 0x01 ∷ 0x07 ∷ codes "\u{1}\u{4}\u{1}\0\u{1}a") ≡ (entry 1 0 0 (codes "a") ∷ [], Some (input 9 []))
unfolding is_utf8 chars encode_utf8
great_id = refl

unknown_id_without_bytes : read (codes "\u{c}\0\0\u{2}\u{1}m") ≡ (entry 0 0 0 (codes "m") ∷ [], Some (input 6 []))
unfolding is_utf8 chars encode_utf8
unknown_id_without_bytes = refl

size_missing : read (0x0c ∷ []) ≡ ([], None)
size_missing = refl

no_data : read [] ≡ ([], Some (input 0 []))
no_data = refl
