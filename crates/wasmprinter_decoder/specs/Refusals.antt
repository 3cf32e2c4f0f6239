-- The reasons why a module that is not malformed may be rejected: a function has too many locals, there are too many
-- functions, a table has an empty initialiser, or an allocation failed. Memory is allocated only to keep something.
use Rattle.std.specs.Prelude.{◌≡◌, ℕ, ◌+◌, ◌<◌, ◌≤◌, ◌⊎◌, List, [], ◌∷◌, ◌++◌, length, Option, Some}
use Rattle.wasmprinter_spec.specs.Grammar.{Input, Placed, value_with_place}
use Rattle.wasmprinter_spec.specs.Name.{u32, vec}
use Rattle.wasmprinter_spec.specs.Types.{TableType}
use Rattle.wasmprinter_spec.specs.Operator.{Operator}
use Rattle.wasmprinter_spec.specs.Placed.{LocalEntry, Table, table_of, Body, Custom}
use Rattle.wasmprinter_spec.specs.Sections.{Kind, CustomSection, TypeSection, ImportSection, FunctionSection, TableSection, MemorySection, TagSection, GlobalSection, ExportSection, StartSection, ElementSection, DataCountSection, CodeSection, DataSection, kind_of, holds, section}
use Rattle.wasmprinter_spec.specs.Binary.Tables.{table}
use Rattle.wasmprinter_spec.specs.Binary.Code.{local_entry}
use Rattle.wasmprinter_spec.specs.Limits.{local_count, most_locals, HasNoEmptyInit}

-- At the place, the bytes contain a list of local entries whose counts add up to more than is allowed.
pub record HasManyLocals (at : Input) (place : ℕ) : Type 0 where
  pub before : List ℕ
  pub text : List ℕ
  pub after : List ℕ
  pub parts : at.bytes ≡ before ++ (text ++ after)
  pub starts : place ≡ at.place + length before
  pub locals : List (Placed LocalEntry)
  pub spelled : (vec (value_with_place local_entry)).spells place text locals
  pub many : most_locals < local_count locals

-- The bytes contain the start of a section of this kind: an id and a size, followed by the count.
pub record BeginsSection (at : Input) (kind : Kind) (count : ℕ) : Type 0 where
  pub before : List ℕ
  pub id : ℕ
  pub of_kind : kind_of id ≡ Some kind
  pub size_text : List ℕ
  pub count_text : List ℕ
  pub after : List ℕ
  pub parts : at.bytes ≡ before ++ id ∷ (size_text ++ (count_text ++ after))
  pub size : ℕ
  pub sized : u32.spells (at.place + length before + 1) size_text size
  pub counted : u32.spells (at.place + length before + 1 + length size_text) count_text count

-- Sections of the kind contain a list of items.
abbrev pub HoldsItems : Kind → Type 0
HoldsItems CustomSection = ⊥
HoldsItems TypeSection = Unit {0}
HoldsItems ImportSection = Unit {0}
HoldsItems FunctionSection = Unit {0}
HoldsItems TableSection = Unit {0}
HoldsItems MemorySection = Unit {0}
HoldsItems TagSection = Unit {0}
HoldsItems GlobalSection = Unit {0}
HoldsItems ExportSection = Unit {0}
HoldsItems StartSection = ⊥
HoldsItems ElementSection = Unit {0}
HoldsItems DataCountSection = ⊥
HoldsItems CodeSection = Unit {0}
HoldsItems DataSection = Unit {0}

-- The bytes contain the start of a section, of a kind with a list of items, with a count above zero.
pub record BeginsItems (at : Input) : Type 0 where
  pub kind : Kind
  pub listed : HoldsItems kind
  pub count : ℕ
  pub some : 0 < count
  pub begins : BeginsSection at kind count

-- The bytes contain a custom section.
pub record HasCustom (at : Input) : Type 0 where
  pub before : List ℕ
  pub text : List ℕ
  pub after : List ℕ
  pub parts : at.bytes ≡ before ++ (text ++ after)
  pub custom : Placed Custom
  pub spelled : section.spells (at.place + length before) text (holds CustomSection custom)

-- The bytes contain something to keep: the start of a section with items, or a custom section.
abbrev pub KeepsSome : Input → Type 0
KeepsSome at = BeginsItems at ⊎ HasCustom at

-- The body is at the place, and has more locals than are allowed.
abbrev pub IsOver : ℕ → Placed Body → Type 0
IsOver place b = (b.place ≡ place) × (most_locals < local_count b.value.locals)

-- The body has at most as many locals as are allowed.
abbrev pub HasFew : Placed Body → Type 0
HasFew b = local_count b.value.locals ≤ most_locals

-- The first body with more locals than are allowed is at the place.
abbrev pub FirstIsOver : ℕ → List (Placed Body) → Type 0
FirstIsOver place [] = ⊥
FirstIsOver place (b ∷ bs) = IsOver place b ⊎ (HasFew b × FirstIsOver place bs)

-- At the place, the bytes contain a table with an empty initialiser.
pub record HasEmptyInit (at : Input) (place : ℕ) : Type 0 where
  pub before : List ℕ
  pub text : List ℕ
  pub after : List ℕ
  pub parts : at.bytes ≡ before ++ (text ++ after)
  pub starts : place ≡ at.place + length before
  pub type : TableType
  pub spelled : table.spells place text (table_of type (Some []))

-- A table, with the places that the bytes give it.
abbrev pub PlacedTable : Type 0
PlacedTable = Placed (Table (Placed Operator))

-- There is an initialiser, and it has no operators.
abbrev pub IsEmptyInit : Option (List (Placed Operator)) → Type 0
IsEmptyInit (Some []) = Unit {0}
IsEmptyInit _ = ⊥

-- The table is at the place, and its initialiser is empty.
abbrev pub IsEmpty : ℕ → PlacedTable → Type 0
IsEmpty place t = (t.place ≡ place) × IsEmptyInit t.value.init

-- The first table with an empty initialiser is at the place.
abbrev pub FirstIsEmpty : ℕ → List PlacedTable → Type 0
FirstIsEmpty place [] = ⊥
FirstIsEmpty place (t ∷ ts) = IsEmpty place t ⊎ (HasNoEmptyInit t.value.init × FirstIsEmpty place ts)
