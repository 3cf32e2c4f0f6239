-- Laws of name sections and of the identifiers that they give
use Rattle.std.specs.Prelude.{◌≡◌, ◌⊎◌, ℕ, List, map, length, ◌<◌, ◌≤◌, ◌^◌, Bool, true, Option, Some, None, IsUtf8}
use Rattle.std.specs.List.{AllByRecursion}
use Rattle.wasmprinter_spec.specs.Grammar.{Input, input, Placed, Spans, Grammar}
use Rattle.wasmprinter_spec.specs.Repeated.{AreItems}
use Rattle.wasmprinter_spec.specs.Lenient.{Lacks, repeat}
use Rattle.wasmprinter_spec.specs.Binary.{AreBytes, Spells}
use Rattle.wasmprinter_spec.specs.Placed.{PlacedModule}
use Rattle.wasmprinter_spec.specs.ModuleNames.{entries_given, module_names}
use Rattle.wasmprinter_spec.specs.Names.Section.{Entry, entry, entry_of, association, GivesNames}
use Rattle.wasmprinter_spec.specs.Labels.{Named}
use Rattle.wasmprinter_spec.specs.IndexSpaces.{are_distinct, resolve}
use Rattle.wasmprinter_spec.specs.Names.{names_of, identifiers, AreDistinct, AreApart, AreNamed}
use Rattle.wasmprinter_laws.specs.Listed.{IsU32}

-- ---- name sections

-- Each data of a name section gives exactly one list of entries.
abbrev pub NamesAreOneList : Type 0
NamesAreOneList = (at : Input) → (xs : List Entry) × GivesNames at xs × ((ys : List Entry) → GivesNames at ys → ys ≡ xs)

-- The list of entries that a name section gives is the one from which the items of a module have their names.
abbrev pub EntriesAreGiven : Type 0
EntriesAreGiven = (d : Placed (List ℕ)) → GivesNames (input d.place d.value) (entries_given d)

-- The items of a counted list that is read up to the first error: they are encoded one after the other. Either the
-- count is reached, and `end` is the input after them, or the bytes after them encode no further item, and `end` is
-- `None`: an error.
abbrev pub IsReadToFirstError : {A : Type 0} → Grammar A → ℕ → Input → List A → Option Input → Type 0
IsReadToFirstError g n at xs end = (after : Input) × Spans (AreItems g) at (xs, after)
    × (((length xs ≡ n) × (end ≡ Some after)) ⊎ ((length xs < n) × Lacks g after × (end ≡ None)))

-- The entries of a name map are those of a counted list that is read up to the first error. (`repeat (entry s outer) n`
-- is a name map after its count n, in the subsection with the id s; `outer` is that of `Entry`.)
abbrev pub NameMapsEndAtFirstError : Type 0
NameMapsEndAtFirstError =
    (s outer n : ℕ) (at : Input) (entries : List Entry) (end : Option Input) → (repeat (entry s outer) n).gives at entries end
    → (xs : List (ℕ × List ℕ)) × IsReadToFirstError association n at xs end × (entries ≡ map (λ x. entry_of s outer x) xs)

-- An entry has an index of 32 bits and a name in UTF-8. Of a local, a label or a field, this is the index within its
-- function or type; nothing is said of `outer`.
pub record IsEntry (e : Entry) : Type 0 where
  pub index : IsU32 e.index
  pub name : IsUtf8 e.name

-- Each entry has an index of 32 bits and a name in UTF-8.
abbrev pub AreEntries : List Entry → Type 0
AreEntries entries = AllByRecursion IsEntry entries

-- The entries that the bytes of a name section give have indices of 32 bits and names in UTF-8.
abbrev pub BytesGiveEntries : Type 0
BytesGiveEntries = (at : Input) (entries : List Entry) → AreBytes at.bytes → GivesNames at entries → AreEntries entries

-- ---- identifiers

-- No identifier means two items of one space, whether identifiers are synthesized for items without names or not. Two
-- labels of which one may be nested in the other share an identifier only if they were given the same name.
abbrev pub IdentifiersAreApart : Type 0
IdentifiersAreApart = (synthesizes : Bool) (entries : List Entry) → AreEntries entries → AreApart (names_of synthesizes entries)

-- If entries have indices of 32 bits and names in UTF-8, each identifier is UTF-8 and not empty, and each name is
-- UTF-8.
abbrev pub IdentifiersAreNamed : Type 0
IdentifiersAreNamed = (synthesizes : Bool) (entries : List Entry) → AreEntries entries → AreNamed (names_of synthesizes entries)

-- The identifiers of each module that bytes encode are UTF-8 and not empty, and none means two items of one space, of
-- one function or of one type. Labels are as in `IdentifiersAreApart`.
abbrev pub ModulesHaveIdentifiers : Type 0
ModulesHaveIdentifiers = (bytes : List ℕ) (m : PlacedModule) (synthesizes : Bool) → Spells bytes m →
    AreApart (module_names synthesizes m) × AreNamed (module_names synthesizes m)

-- If no two items of a space have the same identifier, the identifiers are distinct as declarations, and each is
-- resolved to its item.
abbrev pub IdentifiersResolve : Type 0
IdentifiersResolve = (named : ℕ → Option Named) (count : ℕ) → AreDistinct named → count ≤ 2 ^ 64 →
    (are_distinct (identifiers named count) ≡ true)
    × ((i : ℕ) (n : Named) → i < count → named i ≡ Some n → resolve n.content (identifiers named count) ≡ Some i)
