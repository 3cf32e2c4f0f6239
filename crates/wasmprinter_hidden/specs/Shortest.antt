-- What it means that a length is that of the shortest encoding.
use Rattle.std.specs.Prelude.{◌≡◌, ℕ, ◌≤◌, Bool, List, length, map}
use Rattle.wasmprinter_spec.specs.Grammar.{Grammar}
use Rattle.wasmprinter_spec.specs.Binary.{AreBytes}
use Rattle.wasmprinter_spec.specs.Binary.Types.{group}
use Rattle.wasmprinter_spec.specs.Binary.Memories.{memory_type}
use Rattle.wasmprinter_spec.specs.Binary.Tags.{tag}
use Rattle.wasmprinter_spec.specs.Binary.Imports.{import}
use Rattle.wasmprinter_spec.specs.Binary.Exports.{export}
use Rattle.wasmprinter_spec.specs.Binary.Tables.{table}
use Rattle.wasmprinter_spec.specs.Binary.Globals.{global}
use Rattle.wasmprinter_spec.specs.Binary.Elements.{element}
use Rattle.wasmprinter_spec.specs.Binary.DataSegments.{segment}
use Rattle.wasmprinter_spec.specs.Binary.Code.{local_entry}
use Rattle.wasmprinter_spec.specs.Instructions.{operator}
use Rattle.wasmprinter_spec.specs.Name.{u32, name, vec}
use Rattle.wasmprinter_spec.specs.Names.Section.{association}
use Rattle.wasmprinter_spec.specs.Customs.Producers.{Value, Field, field}
use Rattle.wasmprinter_spec.specs.Customs.Dylink.{subsection}
use Rattle.wasmprinter_spec.specs.Customs.Hints.{Hint, FunctionHints, function_hints}
use Rattle.wasmprinter_spec.specs.Operator.{Operator}
use Rattle.wasmprinter_spec.specs.Placed.{ElementEntry, Element}
use Rattle.wasmprinter_spec.specs.Module.{table_without_places, global_without_places, element_without_places, data_without_places}
use Rattle.wasmprinter_hidden.specs.Lengths.{unsigned_len, list_len, bytes_len, group_len, memory_type_len, tag_len, import_len, export_len, table_len, global_len, element_len, data_len, local_entry_len, operator_len, association_len, field_len, dylink_subsection_len, function_hints_len}

-- Every encoding of a value has at least as many bytes as `len` says.
abbrev pub AreAtLeast : {A : Type 0} → Grammar A → (A → ℕ) → Type 0
AreAtLeast {A} g len = (p : ℕ) (bytes : List ℕ) (a : A) → AreBytes bytes → g.spells p bytes a → len a ≤ length bytes

-- A value that has an encoding has one with as many bytes as `len` says.
abbrev pub OneHas : {A : Type 0} → Grammar A → (A → ℕ) → Type 0
OneHas {A} g len =
    (p q : ℕ) (bytes : List ℕ) (a : A) → AreBytes bytes → g.spells p bytes a
    → (short : List ℕ) × AreBytes short × g.spells q short a × (length short ≡ len a)

-- `len` is the number of bytes of the shortest encoding of each value.
pub record IsShortest {A : Type 0} (g : Grammar A) (len : A → ℕ) : Type 0 where
  pub at_least : AreAtLeast g len
  pub one_has : OneHas g len

-- The same for values with places inside: the shortest encoding is that of a value that differs only by its places.
pub record IsShortestBut {A B : Type 0} (without_places : A → B) (g : Grammar A) (len : A → ℕ) : Type 0 where
  pub at_least : AreAtLeast g len
  pub one_has : (p q : ℕ) (bytes : List ℕ) (a : A) → AreBytes bytes → g.spells p bytes a
      → (short : List ℕ) × (b : A) × AreBytes short × g.spells q short b × (without_places b ≡ without_places a) × (length short ≡ len a)

-- An element segment without the places of its operators, and whether the bytes have its table index.
abbrev pub entry_without_places : ElementEntry → Bool × Element Operator
entry_without_places e = (e.has_table_index, element_without_places e)

-- The fields of `producers` without the places of their values: names, and values.
abbrev pub fields_without_places : List Field → List (List ℕ × List Value)
fields_without_places fs = map (λ f. (f.name, map (λ v. v.value) f.values)) fs

-- The branch hints of functions without their places: the indices of the functions, and the hints.
abbrev pub hints_without_places : List FunctionHints → List (ℕ × List Hint)
hints_without_places es = map (λ e. (e.function, map (λ h. h.value) e.hints)) es

-- The lengths of this crate are those of the shortest encodings.
pub record AreShortest : Type 0 where
  pub numbers : IsShortest u32 unsigned_len
  pub names : IsShortest name bytes_len
  pub type_indices : IsShortest (vec u32) (list_len unsigned_len)
  pub groups : IsShortest group group_len
  pub memory_types : IsShortest memory_type memory_type_len
  pub tags : IsShortest tag tag_len
  pub imports : IsShortest import import_len
  pub exports : IsShortest export export_len
  pub local_entries : IsShortest local_entry local_entry_len
  pub operators : IsShortest operator operator_len
  pub tables : IsShortestBut table_without_places table table_len
  pub globals : IsShortestBut global_without_places global global_len
  pub elements : IsShortestBut entry_without_places element element_len
  pub data_segments : IsShortestBut data_without_places segment data_len
  pub associations : IsShortest association association_len
  pub fields : IsShortestBut fields_without_places (vec field) (list_len field_len)
  pub subsections : IsShortestBut (λ s. s.value) subsection (λ s. dylink_subsection_len s.value)
  pub hints : IsShortestBut hints_without_places (vec function_hints) (list_len function_hints_len)
