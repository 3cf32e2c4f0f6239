-- The laws of nested operators: their text reads as exactly these operators.
use Rattle.std.specs.Prelude.{◌≡◌, ℕ, ◌<◌, ◌≤◌, ◌^◌, List, length, Bool, Option, Some}
use Rattle.std.specs.List.{AllByRecursion}
use Rattle.wasmprinter_spec.specs.Grammar.{Placed, ◌>>=◌}
use Rattle.wasmprinter_spec.specs.Types.{FieldType, FuncType}
use Rattle.wasmprinter_spec.specs.Row.{Space, Types, Func, Table, Memory, Tag, Global, Elem, Data, Local, Label}
use Rattle.wasmprinter_spec.specs.Operator.{Operator}
use Rattle.wasmprinter_spec.specs.Nesting.{Nests, Sequence}
use Rattle.wasmprinter_spec.specs.Instructions.{roles}
use Rattle.wasmprinter_spec.specs.Module.{without_places}
use Rattle.wasmprinter_spec.specs.Indexed.{Counts, IsDeclaredFunc, IsIndexedOperator}
use Rattle.wasmprinter_spec.specs.Call.{text_of}
use Rattle.wasmprinter_spec.specs.Options.{Options, IsBlank}
use Rattle.wasmprinter_spec.specs.Names.Section.{Entry}
use Rattle.wasmprinter_spec.specs.Names.{AreApart, AreNamed, in_function, identifiers, names_of}
use Rattle.wasmprinter_spec.specs.Piece.{all_calls}
use Rattle.wasmprinter_spec.specs.Customs.Hints.{Hint}
use Rattle.wasmprinter_spec.specs.Layout.Operators.{Setting, list_pieces}
use Rattle.wasmprinter_spec.specs.Forest.{forest, without_annotations}
use Rattle.wasmprinter_spec.specs.Code.{chunks_of_forest}
use Rattle.wasmprinter_spec.specs.IndexSpaces.{Context, space_in}
use Rattle.wasmprinter_spec.specs.Text.Operators.{read_operators}
use Rattle.wasmprinter_laws.specs.Listed.{IsListed, AreSignaturesInRange}
use Rattle.wasmprinter_laws.specs.NameLaws.{AreEntries}

-- The number of items in an index space (labels are found by another rule)
abbrev pub count_in : Counts → Space → ℕ
count_in c Types = c.types
count_in c Func = c.functions
count_in c Table = c.tables
count_in c Memory = c.memories
count_in c Tag = c.tags
count_in c Global = c.globals
count_in c Elem = c.elems
count_in c Data = c.data_segments
count_in c Local = c.locals
count_in c Label = 0

-- The setting of the layout, the context of the reader and the counts have the same types, whose type indices are
-- numbers of 32 bits.
pub record HaveSameTypes (s : Setting) (c : Context) (n : Counts) : Type 0 where
  pub read : (i : ℕ) → c.signature i ≡ s.signature i
  pub counted : (i : ℕ) → n.signature i ≡ s.signature i
  pub in_range : AreSignaturesInRange s.signature

-- They also have the same identifiers: those of all counted items, in the function of the setting. No space has more
-- than 2 ^ 64 items, and no type more than 2 ^ 64 fields. A type with a signature or fields is a counted type, and so
-- are the types that a signature names.
pub record HaveSameNames (s : Setting) (c : Context) (n : Counts) : Type 0 where
  pub spaces : (space : Space) → space_in c.spaces space ≡ identifiers (in_function s.names s.function space) (count_in n space)
  pub fields : (t : ℕ) (fs : List FieldType) → n.fields t ≡ Some fs → c.fields t ≡ identifiers (s.names.fields t) (length fs)
  pub few : (space : Space) → count_in n space ≤ 2 ^ 64
  pub few_fields : (t : ℕ) (fs : List FieldType) → n.fields t ≡ Some fs → length fs ≤ 2 ^ 64
  pub functions : (t : ℕ) (f : FuncType) → n.signature t ≡ Some f → t < n.types
  pub signatures : (t : ℕ) (f : FuncType) → n.signature t ≡ Some f → IsDeclaredFunc n.types f
  pub structures : (t : ℕ) (fs : List FieldType) → n.fields t ≡ Some fs → t < n.types

-- The operators of an expression are listed and well nested, there are at most 2 ^ 64 of them, and every index that
-- they use is declared.
pub record AreOperators (n : Counts) (os : List (Placed Operator)) : Type 0 where
  pub listed : AllByRecursion IsListed (without_places os)
  pub nested : Nests Sequence (roles os)
  pub count : length (without_places os) ≤ 2 ^ 64
  pub indexed : AllByRecursion (IsIndexedOperator n) (without_places os)

-- The operators in a text that contains nothing else
abbrev pub read_alone : Context → List ℕ → Option (List Operator)
read_alone c text = forest text >>= λ f. chunks_of_forest (without_annotations f) >>= read_operators c

-- The text that is laid out for operators, over several lines or in one, with or without hints before them, reads as
-- exactly these operators, for any names of items and labels that are apart.
abbrev pub OperatorsReadBack : Type 0
OperatorsReadBack =
    (s : Setting) → AreApart s.names → AreNamed s.names →
    (c : Context) (n : Counts) → HaveSameTypes s c n → HaveSameNames s c n →
    (hs : List (Placed Hint)) (os : List (Placed Operator)) → AreOperators n os →
    (o : Options) → IsBlank o.indent →
    read_alone c (text_of (all_calls o (list_pieces s hs os))) ≡ Some (without_places os)

-- The same holds if items and labels have the names that name sections give, and the others synthesized identifiers
-- or none.
abbrev pub NamedOperatorsReadBack : Type 0
NamedOperatorsReadBack =
    (synthesizes : Bool) (entries : List Entry) → AreEntries entries →
    (s : Setting) → s.names ≡ names_of synthesizes entries →
    (c : Context) (n : Counts) → HaveSameTypes s c n → HaveSameNames s c n →
    (hs : List (Placed Hint)) (os : List (Placed Operator)) → AreOperators n os →
    (o : Options) → IsBlank o.indent →
    read_alone c (text_of (all_calls o (list_pieces s hs os))) ≡ Some (without_places os)
