-- The identifiers that the text of a module has (section 6.3 of the standard, "Identifiers"): for the module
-- itself, for the items of its index spaces, for the fields of each type, and for the locals and labels of each
-- function.
use Rattle.std.specs.Prelude.{◌≡◌, ℕ, zero, suc, ◌+◌, ◌<◌, ◌^◌, List, [], ◌∷◌, Bool, true, false, Option, Some, None, option_map, IsUtf8, length}
use Rattle.wasmprinter_spec.specs.Grammar.{◌>>=◌}
use Rattle.wasmprinter_spec.specs.Row.{Space, Types, Func, Table, Memory, Tag, Global, Elem, Data, Local, Label}
use Rattle.wasmprinter_spec.specs.IndexSpaces.{Identifiers}
use Rattle.wasmprinter_spec.specs.Labels as labels
use Rattle.wasmprinter_spec.specs.Labels.{Named}
use Rattle.wasmprinter_spec.specs.LabelNames.{label_naming, no_label_names}
use Rattle.wasmprinter_spec.specs.Names.Section.{Entry, module_subsection, function_subsection, local_subsection, label_subsection, type_subsection, table_subsection, memory_subsection, global_subsection, elem_subsection, data_subsection, field_subsection, tag_subsection}
use Rattle.wasmprinter_spec.specs.Names.Content.{group_of, index_content, name_of}
pub mod Section
pub mod Content

-- The identifiers of a module. Labels follow another rule than all others: two labels of a function may have the
-- same name, and the inner one shadows the outer.
pub record Names : Type 0 where
  pub module_name : Option Named
  pub items : Space → ℕ → Option Named
  -- By the index of the type and of the field.
  pub fields : ℕ → ℕ → Option Named
  -- By the index of the function and of the local. Parameters come first.
  pub locals : ℕ → ℕ → Option Named
  pub labels : ℕ → labels.LabelNaming

-- The identifiers that the operators of function f may use.
abbrev pub in_function : Names → ℕ → Space → ℕ → Option Named
in_function n f Local i = n.locals f i
in_function n f space i = n.items space i

-- Nothing has an identifier.
abbrev pub no_names : Names
no_names = record {
  module_name = None;
  items = λ space i. None;
  fields = λ t i. None;
  locals = λ f i. None;
  labels = λ f. no_label_names;
}

-- ---- The identifiers by names

-- The name of an item. If identifiers are synthesized, an item without a name has the sign #, the word for its
-- kind and its index.
abbrev pub or_synthesized : Bool → List ℕ → ℕ → Option Named → Option Named
or_synthesized synthesizes group index (Some n) = Some n
or_synthesized true group index None = Some (record { given = None; content = index_content group index })
or_synthesized false group index None = None

-- The name of each item, by the id of the subsection, the function or type (0 for items of neither), and the index.
abbrev pub Naming : Type 0
Naming = ℕ → ℕ → ℕ → Option Named

-- The identifier of an item, which is found as in `Naming`: that of its name in `named` or, if it has none, a
-- synthesized one if `synthesizes` is true, and otherwise `None`.
abbrev pub name_in : Bool → Naming → Naming
name_in synthesizes named s outer index = or_synthesized synthesizes (group_of s) index (named s outer index)

-- The subsection that names the items of a space of the module.
abbrev pub subsection_of : Space → Option ℕ
subsection_of Types = Some type_subsection
subsection_of Func = Some function_subsection
subsection_of Table = Some table_subsection
subsection_of Memory = Some memory_subsection
subsection_of Tag = Some tag_subsection
subsection_of Global = Some global_subsection
subsection_of Elem = Some elem_subsection
subsection_of Data = Some data_subsection
subsection_of Local = None
subsection_of Label = None

-- The identifiers by these names. For items without a name they are synthesized or absent; the module's identifier
-- is never synthesized.
abbrev pub names_by : Bool → Naming → Names
names_by synthesizes named = record {
  module_name = named module_subsection 0 0;
  items = λ space i. subsection_of space >>= λ s. name_in synthesizes named s 0 i;
  fields = λ t i. name_in synthesizes named field_subsection t i;
  locals = λ f i. name_in synthesizes named local_subsection f i;
  labels = λ f. label_naming synthesizes (λ i. named label_subsection f i >>= λ n. n.given);
}

-- The identifiers by all entries of a module.
abbrev pub names_of : Bool → List Entry → Names
names_of synthesizes entries = names_by synthesizes (name_of entries)

-- ---- The identifiers of declarations

-- The identifiers of n items from item k on.
abbrev pub identifiers_at : (ℕ → Option Named) → ℕ → ℕ → Identifiers
identifiers_at named k zero = []
identifiers_at named k (suc n) = option_map (λ n. n.content) (named k) ∷ identifiers_at named (k + 1) n

-- The identifiers of the first `count` items.
abbrev pub identifiers : (ℕ → Option Named) → ℕ → Identifiers
identifiers named count = identifiers_at named 0 count

-- ---- Laws

-- No two indices below 2^64 have the same identifier.
abbrev pub AreDistinct : (ℕ → Option Named) → Type 0
AreDistinct named = (i j : ℕ) (a b : Named) → i < 2 ^ 64 → j < 2 ^ 64 → named i ≡ Some a → named j ≡ Some b → a.content ≡ b.content → i ≡ j

-- An identifier means only one item of its space. If two labels have the same identifier and one may be nested in
-- the other, they were given the same name.
pub record AreApart (n : Names) : Type 0 where
  pub items : (space : Space) → AreDistinct (n.items space)
  pub fields : (t : ℕ) → AreDistinct (n.fields t)
  pub locals : (f : ℕ) → AreDistinct (n.locals f)
  pub labels : (f : ℕ) → labels.AreLabelsApart (n.labels f)

-- The name is UTF-8, if there is one.
abbrev pub IsGiven : Option (List ℕ) → Type 0
IsGiven None = Unit {0}
IsGiven (Some s) = IsUtf8 s

-- The name and the identifier are UTF-8, and the identifier is not empty.
pub record IsNamed (n : Named) : Type 0 where
  pub given : IsGiven n.given
  pub content : IsUtf8 n.content
  pub some : 0 < length n.content

-- An item has no identifier, or one with `IsNamed`.
abbrev pub IsNamedIfAny : Option Named → Type 0
IsNamedIfAny None = Unit {0}
IsNamedIfAny (Some n) = IsNamed n

-- Each identifier is `IsNamed`.
pub record AreNamed (n : Names) : Type 0 where
  pub module_name : IsNamedIfAny n.module_name
  pub items : (space : Space) (i : ℕ) → IsNamedIfAny (n.items space i)
  pub fields : (t i : ℕ) → IsNamedIfAny (n.fields t i)
  pub locals : (f i : ℕ) → IsNamedIfAny (n.locals f i)
  pub labels : (f i d : ℕ) → IsNamedIfAny (n.labels f i d)
