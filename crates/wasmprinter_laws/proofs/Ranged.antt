-- Ranges in a module that some bytes encode: counts and indices are numbers of 32 bits, names are UTF-8, and the
-- table lists each operator with its immediates.
use Rattle.std.proofs.Common.{◌≡◌, ℕ, ◌<◌, ◌≤◌, ◌^◌, suc, Bool, true, false, length, List, [], ◌∷◌, Option, Some, None}
use Rattle.std.specs.Prelude.{IsUtf8}
use Rattle.std.specs.List.{AllByRecursion}
use Rattle.wasmprinter_spec.specs.Grammar.{Placed}
use Rattle.wasmprinter_spec.specs.Types.{MemoryType, TableType, ExternType, FuncExtern, TableExtern, MemoryExtern, GlobalExtern, TagExtern}
use Rattle.wasmprinter_spec.specs.Operator.{Operator}
use Rattle.wasmprinter_spec.specs.Nesting.{Nests, Sequence}
use Rattle.wasmprinter_spec.specs.Instructions.{roles}
use Rattle.wasmprinter_spec.specs.Module.{without_places}
use Rattle.wasmprinter_spec.specs.Placed.{LocalEntry, Body, Export, Import, Custom, Table, Global, ElementMode, Passive, Declared, Active, Items, Functions, Expressions, ElementEntry, DataMode, PassiveData, ActiveData, Data, PlacedFunction, PlacedModule}
use Rattle.wasmprinter_laws.specs.Listed.{IsListed}
use Rattle.wasmprinter_spec.specs.Binary.{AreBytes}
use Rattle.wasmprinter_laws.proofs.Customs.Ordered.{AreInOrder}
use Rattle.wasmprinter_laws.proofs.Types.Ranged.{IsRangedHeap, IsRangedVal, IsRangedGroup}

abbrev pub IsRangedMax : Option ℕ → Type 0
IsRangedMax None = Unit {0}
IsRangedMax (Some n) = n < 2 ^ 64

-- The exponent of the size of a page
abbrev pub IsRangedPage : Option ℕ → Type 0
IsRangedPage None = Unit {0}
IsRangedPage (Some e) = e < 64

pub record IsRangedMemory (m : MemoryType) : Type 0 where
  pub min : m.limits.min < 2 ^ 64
  pub max : IsRangedMax m.limits.max
  pub page : IsRangedPage m.page

-- Operators that the table lists, well nested, at most 2 ^ 64
pub record IsRangedExpression (os : List (Placed Operator)) : Type 0 where
  pub listed : AllByRecursion IsListed (without_places os)
  pub nested : Nests Sequence (roles os)
  pub count : length (without_places os) ≤ 2 ^ 64

pub record IsRangedTableType (t : TableType) : Type 0 where
  pub min : t.limits.min < 2 ^ 64
  pub max : IsRangedMax t.limits.max
  pub element : IsRangedHeap t.element.heap

abbrev pub IsRangedInit : Option (List (Placed Operator)) → Type 0
IsRangedInit None = Unit {0}
IsRangedInit (Some os) = IsRangedExpression os

pub record IsRangedTable (t : Table (Placed Operator)) : Type 0 where
  pub type : IsRangedTableType t.type
  pub init : IsRangedInit t.init

pub record IsRangedGlobal (g : Global (Placed Operator)) : Type 0 where
  pub type : IsRangedVal g.type.type
  pub init : IsRangedExpression g.init

abbrev pub IsRangedExtern : ExternType → Type 0
IsRangedExtern (FuncExtern i) = i < 2 ^ 32
IsRangedExtern (TableExtern t) = IsRangedTableType t
IsRangedExtern (MemoryExtern t) = IsRangedMemory t
IsRangedExtern (GlobalExtern t) = IsRangedVal t.type
IsRangedExtern (TagExtern i) = i < 2 ^ 32

pub record IsRangedImport (i : Import) : Type 0 where
  pub source : IsUtf8 i.source
  pub name : IsUtf8 i.name
  pub type : IsRangedExtern i.type

-- A table that the bytes do not name is table 0.
abbrev pub IsNamedTable : Bool → ℕ → Type 0
IsNamedTable true t = t < 2 ^ 32
IsNamedTable false t = t ≡ 0

abbrev pub IsRangedMode : Bool → ElementMode (Placed Operator) → Type 0
IsRangedMode names Passive = Unit {0}
IsRangedMode names Declared = Unit {0}
IsRangedMode names (Active t offset) = IsNamedTable names t × IsRangedExpression offset

abbrev pub AreRangedItems : Items (Placed Operator) → Type 0
AreRangedItems (Functions is) = AllByRecursion (λ i. i < 2 ^ 32) is
AreRangedItems (Expressions t es) = IsRangedHeap t.heap × AllByRecursion IsRangedExpression es

pub record IsRangedElement (e : ElementEntry) : Type 0 where
  pub mode : IsRangedMode e.has_table_index e.element.mode
  pub items : AreRangedItems e.element.items

abbrev pub IsRangedDataMode : DataMode (Placed Operator) → Type 0
IsRangedDataMode PassiveData = Unit {0}
IsRangedDataMode (ActiveData m offset) = (m < 2 ^ 32) × IsRangedExpression offset

pub record IsRangedData (d : Data (Placed Operator)) : Type 0 where
  pub mode : IsRangedDataMode d.mode
  pub bytes : AreBytes d.bytes

pub record IsRangedExport (e : Export) : Type 0 where
  pub name : IsUtf8 e.name
  pub index : e.index < 2 ^ 32

abbrev pub IsRangedStart : Option (Placed ℕ) → Type 0
IsRangedStart None = Unit {0}
IsRangedStart (Some i) = i.value < 2 ^ 32

-- The name of a custom section is UTF-8, and its content consists of bytes.
pub record IsRangedCustom (c : Custom) : Type 0 where
  pub name : IsUtf8 c.name
  pub bytes : AreBytes c.bytes.value

-- A group of fewer than 2 ^ 32 locals with a type in range
pub record IsRangedLocal (e : LocalEntry) : Type 0 where
  pub count : e.count < 2 ^ 32
  pub type : IsRangedVal e.type

-- The places of operators increase, and none is below p.
abbrev pub ArePlaced : ℕ → List (Placed Operator) → Type 0
ArePlaced p [] = Unit {0}
ArePlaced p (o ∷ os) = (p ≤ o.place) × ArePlaced (suc o.place) os

-- Fewer than 2 ^ 32 groups of locals, and operators that the table lists, well nested, at most 2 ^ 64, with
-- increasing places
pub record IsRangedBody (b : Placed Body) : Type 0 where
  pub groups : length b.value.locals < 2 ^ 32
  pub locals : AllByRecursion (λ e. IsRangedLocal e.value) b.value.locals
  pub listed : AllByRecursion IsListed (without_places b.value.operators)
  pub nested : Nests Sequence (roles b.value.operators)
  pub count : length (without_places b.value.operators) ≤ 2 ^ 64
  pub places : ArePlaced b.place b.value.operators

pub record IsRangedFunction (f : PlacedFunction) : Type 0 where
  pub type_index : f.type_index < 2 ^ 32
  pub body : IsRangedBody f.body

pub record IsRanged (m : PlacedModule) : Type 0 where
  pub types : length m.types < 2 ^ 32
  pub imports : length m.imports < 2 ^ 32
  pub tables : length m.tables < 2 ^ 32
  pub memories : length m.memories < 2 ^ 32
  pub tags : length m.tags < 2 ^ 32
  pub globals : length m.globals < 2 ^ 32
  pub exports : length m.exports < 2 ^ 32
  pub elements : length m.elements < 2 ^ 32
  pub functions : length m.functions < 2 ^ 32
  pub data_segments : length m.data_segments < 2 ^ 32
  pub each_group : AllByRecursion (λ g. IsRangedGroup g.value) m.types
  pub each_import : AllByRecursion (λ i. IsRangedImport i.value) m.imports
  pub each_table : AllByRecursion (λ t. IsRangedTable t.value) m.tables
  pub each_memory : AllByRecursion (λ x. IsRangedMemory x.value) m.memories
  pub each_tag : AllByRecursion (λ i. i.value < 2 ^ 32) m.tags
  pub each_global : AllByRecursion (λ g. IsRangedGlobal g.value) m.globals
  pub each_export : AllByRecursion (λ e. IsRangedExport e.value) m.exports
  pub start : IsRangedStart m.start
  pub each_element : AllByRecursion (λ e. IsRangedElement e.value) m.elements
  pub each_function : AllByRecursion IsRangedFunction m.functions
  pub each_data : AllByRecursion (λ d. IsRangedData d.value) m.data_segments
  pub each_custom : AllByRecursion (λ c. IsRangedCustom c.section.value) m.customs
  pub customs_in_order : AreInOrder 0 m.customs
