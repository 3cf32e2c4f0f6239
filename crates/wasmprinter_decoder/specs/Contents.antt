-- Reading the contents of sections.
use Rattle.std.specs.Prelude.{◌≡◌, ℕ, ◌<◌, ◌≤◌, List, length, Option, Some, None, Result, Ok, Err}
use Rattle.std.specs.List.{AllByRecursion}
use Rattle.wasmprinter_spec.specs.Grammar.{Input, Remainder, Placed}
use Rattle.wasmprinter_spec.specs.Name.{u32, vec}
use Rattle.wasmprinter_spec.specs.Placed.{Body}
use Rattle.wasmprinter_spec.specs.Sections.{CustomSection, TypeSection, ImportSection, FunctionSection, TableSection, MemorySection, TagSection, GlobalSection}
use Rattle.wasmprinter_spec.specs.Sections.{ExportSection, StartSection, ElementSection, DataCountSection, CodeSection, DataSection}
use Rattle.wasmprinter_spec.specs.Sections.{Kind, Content, content, holds, content_of, Section as SectionValue}
use Rattle.wasmprinter_spec.specs.Limits.{most_functions, HasNoEmptyInit}
use Rattle.wasmprinter_bytes.specs.Reads.{IsPlaceIn}
use Rattle.wasmprinter_bytes.specs.declared.library_error.Error.{Error}
use Rattle.wasmprinter_bytes.specs.declared.malformed.Malformed.{Malformed}
use Rattle.wasmprinter_bytes.specs.Reasons.{Reasons, HasReason}
use Rattle.wasmprinter_bytes.specs.Lists.{CountsItems}
use Rattle.wasmprinter_decoder.specs.Refusals.{HasManyLocals, HasEmptyInit, HoldsItems, HasFew, FirstIsOver, PlacedTable, FirstIsEmpty}

-- ---- Sections of each kind

-- The table does not have an empty initialiser.
abbrev pub HasNoEmpty : PlacedTable → Type 0
HasNoEmpty t = HasNoEmptyInit t.value.init

-- The section is within the limits: no body has too many locals, there are not too many functions, and no table
-- has an empty initialiser.
abbrev pub IsSectionWithinLimits : SectionValue → Type 0
IsSectionWithinLimits (holds CustomSection c) = Unit {0}
IsSectionWithinLimits (holds TypeSection ts) = Unit {0}
IsSectionWithinLimits (holds ImportSection is) = Unit {0}
IsSectionWithinLimits (holds FunctionSection is) = length is ≤ most_functions
IsSectionWithinLimits (holds TableSection ts) = AllByRecursion HasNoEmpty ts
IsSectionWithinLimits (holds MemorySection ms) = Unit {0}
IsSectionWithinLimits (holds TagSection ts) = Unit {0}
IsSectionWithinLimits (holds GlobalSection gs) = Unit {0}
IsSectionWithinLimits (holds ExportSection es) = Unit {0}
IsSectionWithinLimits (holds StartSection f) = Unit {0}
IsSectionWithinLimits (holds ElementSection es) = Unit {0}
IsSectionWithinLimits (holds DataCountSection n) = Unit {0}
IsSectionWithinLimits (holds CodeSection bs) = AllByRecursion HasFew bs
IsSectionWithinLimits (holds DataSection ds) = Unit {0}

-- The number of items in the section. A custom section is one item; the start function and the
-- data count are no items.
abbrev pub item_count : SectionValue → ℕ
item_count (holds CustomSection c) = 1
item_count (holds TypeSection ts) = length ts
item_count (holds ImportSection is) = length is
item_count (holds FunctionSection is) = length is
item_count (holds TableSection ts) = length ts
item_count (holds MemorySection ms) = length ms
item_count (holds TagSection ts) = length ts
item_count (holds GlobalSection gs) = length gs
item_count (holds ExportSection es) = length es
item_count (holds StartSection f) = 0
item_count (holds ElementSection es) = length es
item_count (holds DataCountSection n) = 0
item_count (holds CodeSection bs) = length bs
item_count (holds DataSection ds) = length ds

-- The section is a function section with `count` type indices.
abbrev pub HasCount : ℕ → SectionValue → Type 0
HasCount count s = (is : List ℕ) × (content_of FunctionSection s ≡ Some is) × (length is ≡ count)

-- The section is a code section, and its first body with too many locals is at the place.
abbrev pub HasOver : ℕ → SectionValue → Type 0
HasOver place s = (bs : List (Placed Body)) × (content_of CodeSection s ≡ Some bs) × FirstIsOver place bs

-- The section is a table section, and its first table with an empty initialiser is at the place.
abbrev pub HasEmpty : ℕ → SectionValue → Type 0
HasEmpty place s = (ts : List PlacedTable) × (content_of TableSection s ≡ Some ts) × FirstIsEmpty place ts

-- ---- Type indices, before the end of the section is checked

-- The bytes encode a list of type indices, which is longer than the limit on functions.
pub record AreTooMany (at : Input) (count : ℕ) : Type 0 where
  pub indices : List ℕ
  pub after : Input
  pub read : (vec u32).parse at ≡ Some (indices, after)
  pub counted : length indices ≡ count
  pub many : most_functions < count

-- The reasons for errors when the type indices of a function section are read.
abbrev pub indices_reasons : Input → Reasons
indices_reasons at = record {
  malformed = λ place. ((vec u32).parse at ≡ None) × IsPlaceIn at place;
  component = ⊥;
  locals = λ place. ⊥;
  functions = λ count. AreTooMany at count;
  tables = λ place. ⊥;
  memory = CountsItems at;
}

-- Type indices within the limit are read; or the error has its reason.
abbrev pub TakesIndices : {X : Type 0} → (X → List ℕ) → Input → Result X Error → Input → Type 0
TakesIndices items old (Ok v) new = ((vec u32).parse old ≡ Some (items v, new)) × (length (items v) ≤ most_functions)
TakesIndices items old (Err e) new = HasReason (indices_reasons old) e

-- ---- The whole content of a section

-- The bytes begin with this count.
pub record CountStands (at : Input) (count : ℕ) : Type 0 where
  pub after : Input
  pub counted : u32.parse at ≡ Some (count, after)

-- The reasons why the content of a section may be rejected. `w` is the grammar of the content and `made` the section
-- with it; `items` says whether it is a list of items, and `functions` whether it may have too many functions. A
-- reason about the content is a statement about the section that the bytes encode, if they encode one.
abbrev pub whole_reasons : {C : Type 0} → Remainder C → (C → SectionValue) → Type 0 → Type 0 → Input → Reasons
whole_reasons {C} w made items functions at = record {
  malformed = λ place. (w.parse at ≡ None) × IsPlaceIn at place;
  component = ⊥;
  locals = λ place. HasManyLocals at place × ((x : C) → w.parse at ≡ Some x → HasOver place (made x));
  functions =
      λ count. functions × CountStands at count × (most_functions < count) × ((x : C) → w.parse at ≡ Some x → HasCount count (made x));
  tables = λ place. HasEmptyInit at place × ((x : C) → w.parse at ≡ Some x → HasEmpty place (made x));
  memory = items × CountsItems at × ((x : C) → w.parse at ≡ Some x → 0 < item_count (made x));
}

-- The reasons for errors when the content of a section of this kind is read.
abbrev pub content_reasons : Kind → Input → Reasons
content_reasons kind at = whole_reasons (content kind) (holds kind) (HoldsItems kind) (kind ≡ FunctionSection) at

-- The bytes encode the value and nothing after it; or, on an error, they do not encode a value, and its place is not
-- before the first of the bytes and not after their end. `view` maps a value of the program to that of the definitions.
-- Nothing is said of the cursor after the call.
abbrev pub ReadsAll : {X A : Type 0} → (X → A) → (Input → Option A) → Input → Result X Malformed → Type 0
ReadsAll view parse at (Ok x) = parse at ≡ Some (view x)
ReadsAll view parse at (Err e) = (parse at ≡ None) × IsPlaceIn at e.place

-- The bytes encode content of this kind and nothing after it, which is within the limits; or the error has its reason:
-- - `Malformed`: the bytes encode no such content. The place is not before the first of them and not after their end.
-- - `TooManyFunctions`: only for function sections. The bytes begin with this count, which is above the limit.
-- - `TooManyLocals`, `EmptyTableInit`: at the place, the bytes contain a list of locals above the limit, or a table with
--   an empty initialiser. If the bytes encode such content, the place is that of the first such body of a code section,
--   or of the first such table of a table section.
-- - `Memory`: the content is a list, and the bytes begin with a count above zero.
-- `view` maps a value of the program to that of the definitions. Nothing is said of the cursor after the call.
abbrev pub DecodesContent : (kind : Kind) → {X : Type 0} → (X → Content kind) → Input → Result X Error → Type 0
DecodesContent kind view at (Ok v) = ((content kind).parse at ≡ Some (view v)) × IsSectionWithinLimits (holds kind (view v))
DecodesContent kind view at (Err e) = HasReason (content_reasons kind at) e
