-- A module as its bytes encode it: the contents of the sections, with the places that the text can show. All
-- places are byte offsets from the start of the module. (Section 2.5 of the standard, "Modules", which has no
-- places.)
use Rattle.std.specs.Prelude.{ℕ, List, Bool, Option}
use Rattle.wasmprinter_spec.specs.Grammar.{Placed}
use Rattle.wasmprinter_spec.specs.Types.{ValType, SubType, RefType, TableType, MemoryType, GlobalType, ExternKind, ExternType}
use Rattle.wasmprinter_spec.specs.Operator.{Operator}
use Rattle.wasmprinter_spec.specs.Kinds.{Kind}

-- A group of types: an explicit one (`rec`), or a single type by itself.
pub record TypeGroup : Type 0 where
  pub explicit : Bool
  pub types : List SubType

-- The group of these types. The first argument says whether the group is explicit (`rec`).
abbrev pub type_group : Bool → List SubType → TypeGroup
type_group explicit ts = record { explicit = explicit; types = ts }

-- `count` locals of one type.
pub record LocalEntry : Type 0 where
  pub count : ℕ
  pub type : ValType

-- The content of a code entry after its size. `operators` are those before the last `end`, and `end` is the place of
-- this `end`, the last byte.
pub record Body : Type 0 where
  pub locals : List (Placed LocalEntry)
  pub operators : List (Placed Operator)
  pub end : ℕ

-- A defined function: its type's index, and its body with the place of the body's first byte.
pub record PlacedFunction : Type 0 where
  pub type_index : ℕ
  pub body : Placed Body

-- An export: its name, and the kind and the index of the exported item.
pub record Export : Type 0 where
  pub name : List ℕ
  pub kind : ExternKind
  pub index : ℕ

-- An import: the name of the module that it comes from, its name in that module, and its type.
pub record Import : Type 0 where
  pub source : List ℕ
  pub name : List ℕ
  pub type : ExternType

-- The import from this module (first argument), with this name in it and of this type.
abbrev pub import_of : List ℕ → List ℕ → ExternType → Import
import_of m n t = record { source = m; name = n; type = t }

-- A custom section: its name, and the bytes after the name with the place of the first.
pub record Custom : Type 0 where
  pub name : List ℕ
  pub bytes : Placed (List ℕ)

-- The custom section with this name, and with these bytes after the name.
abbrev pub custom_of : List ℕ → Placed (List ℕ) → Custom
custom_of n bytes = record { name = n; bytes = bytes }

-- A custom section with the place of its first byte after its size, and the kind of the last section before it
-- that is not empty (`has_fields` in `Sections`).
pub record CustomEntry : Type 0 where
  pub after : Option Kind
  pub section : Placed Custom

-- The custom section with its position: the kind of the last section before it that is not empty, or `None`.
abbrev pub custom_entry : Option Kind → Placed Custom → CustomEntry
custom_entry k c = record { after = k; section = c }

-- ---- Fields with expressions, which are lists of operators, with or without their places

-- A table, with or without an initialiser, which may be empty.
pub record Table (O : Type 0) : Type 0 where
  pub type : TableType
  pub init : Option (List O)

-- The table of this type, with or without an initialiser.
abbrev pub table_of : {O : Type 0} → TableType → Option (List O) → Table O
table_of t init = record { type = t; init = init }

-- A global, with its initialiser.
pub record Global (O : Type 0) : Type 0 where
  pub type : GlobalType
  pub init : List O

-- The global of this type, with its initialiser.
abbrev pub global_of : {O : Type 0} → GlobalType → List O → Global O
global_of t init = record { type = t; init = init }

-- The mode of an element segment: passive, declarative, or active with the table and the offset.
pub data ElementMode (O : Type 0) : Type 0 where
  Passive : ElementMode O
  Declared : ElementMode O
  Active : ℕ → List O → ElementMode O

-- The items of an element segment: function indices, or expressions of a reference type.
pub data Items (O : Type 0) : Type 0 where
  Functions : List ℕ → Items O
  Expressions : RefType → List (List O) → Items O

-- An element segment: its mode and its items.
pub record Element (O : Type 0) : Type 0 where
  pub mode : ElementMode O
  pub items : Items O

-- The element segment with this mode and these items.
abbrev pub element_of : {O : Type 0} → ElementMode O → Items O → Element O
element_of mode items = record { mode = mode; items = items }

-- An element segment as the bytes encode it. The bytes may name its table or leave it out.
pub record ElementEntry : Type 0 where
  pub has_table_index : Bool
  pub element : Element (Placed Operator)

-- The element segment, of which the bytes name the table or not.
abbrev pub entry_of : Bool → Element (Placed Operator) → ElementEntry
entry_of names e = record { has_table_index = names; element = e }

-- The mode of a data segment: passive, or active with the memory and the offset.
pub data DataMode (O : Type 0) : Type 0 where
  PassiveData : DataMode O
  ActiveData : ℕ → List O → DataMode O

-- A data segment: its mode and its bytes.
pub record Data (O : Type 0) : Type 0 where
  pub mode : DataMode O
  pub bytes : List ℕ

-- The data segment with this mode and these bytes.
abbrev pub data_of : {O : Type 0} → DataMode O → List ℕ → Data O
data_of mode bytes = record { mode = mode; bytes = bytes }

-- A module with its places. A tag is given by the index of its type. `start` is the start function, `customs` are
-- the custom sections in their order, and `size` is the number of bytes of the module.
pub record PlacedModule : Type 0 where
  pub types : List (Placed TypeGroup)
  pub imports : List (Placed Import)
  pub tables : List (Placed (Table (Placed Operator)))
  pub memories : List (Placed MemoryType)
  pub tags : List (Placed ℕ)
  pub globals : List (Placed (Global (Placed Operator)))
  pub exports : List (Placed Export)
  pub start : Option (Placed ℕ)
  pub elements : List (Placed ElementEntry)
  pub functions : List PlacedFunction
  pub data_segments : List (Placed (Data (Placed Operator)))
  pub customs : List CustomEntry
  pub size : ℕ
