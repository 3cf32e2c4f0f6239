-- The contents of the sections of a module, gathered by kind.
use Rattle.std.specs.Prelude.{◌≡◌, ℕ, ◌+◌, ◌<◌, List, [], ◌∷◌, ◌++◌, length, true, Option, Some, None, Result, Ok, Err}
use Rattle.std.specs.List.{AllByRecursion}
use Rattle.wasmprinter_spec.specs.Grammar.{Input, Placed}
use Rattle.wasmprinter_spec.specs.Repeated.{until_end}
use Rattle.wasmprinter_spec.specs.Types.{MemoryType}
use Rattle.wasmprinter_spec.specs.Operator.{Operator}
use Rattle.wasmprinter_spec.specs.Placed.{TypeGroup, Import, Table, Global, ElementEntry, Data, Body, Export, CustomEntry}
use Rattle.wasmprinter_spec.specs.Sections.{CustomSection, TypeSection, ImportSection, FunctionSection, TableSection, MemorySection, TagSection, GlobalSection}
use Rattle.wasmprinter_spec.specs.Sections.{ExportSection, StartSection, ElementSection, DataCountSection, CodeSection, DataSection}
use Rattle.wasmprinter_spec.specs.Sections.{Kind, Content, Section, holds, section_kind, section, rank, rank_after, are_above, kind_after, customs_after}
use Rattle.wasmprinter_spec.specs.Binary.{types_in, imports_in, type_indices_in, tables_in, memories_in, tags_in, globals_in, exports_in, start_in, elements_in, data_count_in, bodies_in, datas_in, customs_in, counts_data}
use Rattle.wasmprinter_spec.specs.Limits.{most_functions}
use Rattle.wasmprinter_bytes.specs.Reads.{IsPlaceIn}
use Rattle.wasmprinter_bytes.specs.declared.library_error.Error.{Error}
use Rattle.wasmprinter_bytes.specs.Reasons.{Reasons, HasReason}
use Rattle.wasmprinter_decoder.specs.Refusals.{HasManyLocals, HasEmptyInit, BeginsSection, KeepsSome, FirstIsOver, FirstIsEmpty}
use Rattle.wasmprinter_decoder.specs.Contents.{IsSectionWithinLimits}

-- The contents of the sections read so far, the rank of the last one, and the kind before a custom section that
-- follows them.
pub record Gathered : Type 0 where
  pub rank : ℕ
  pub after : Option Kind
  pub types : List (Placed TypeGroup)
  pub imports : List (Placed Import)
  pub type_indices : List ℕ
  pub tables : List (Placed (Table (Placed Operator)))
  pub memories : List (Placed MemoryType)
  pub tags : List (Placed ℕ)
  pub globals : List (Placed (Global (Placed Operator)))
  pub exports : List (Placed Export)
  pub start : Option (Placed ℕ)
  pub elements : List (Placed ElementEntry)
  pub data_count : Option ℕ
  pub bodies : List (Placed Body)
  pub data_segments : List (Placed (Data (Placed Operator)))
  pub customs : List CustomEntry

-- The state before the first section.
abbrev pub none_gathered : Gathered
none_gathered = record {
  rank = 0;
  after = None;
  types = [];
  imports = [];
  type_indices = [];
  tables = [];
  memories = [];
  tags = [];
  globals = [];
  exports = [];
  start = None;
  elements = [];
  data_count = None;
  bodies = [];
  data_segments = [];
  customs = [];
}

-- The contents that are kept for each kind: all custom sections, and for every other kind the content of its only
-- section.
abbrev pub Kept : Kind → Type 0
Kept CustomSection = List CustomEntry
Kept kind = Content kind

-- The gathered contents of a kind.
abbrev pub gathered_items : (kind : Kind) → Gathered → Kept kind
gathered_items CustomSection g = g.customs
gathered_items TypeSection g = g.types
gathered_items ImportSection g = g.imports
gathered_items FunctionSection g = g.type_indices
gathered_items TableSection g = g.tables
gathered_items MemorySection g = g.memories
gathered_items TagSection g = g.tags
gathered_items GlobalSection g = g.globals
gathered_items ExportSection g = g.exports
gathered_items StartSection g = g.start
gathered_items ElementSection g = g.elements
gathered_items DataCountSection g = g.data_count
gathered_items CodeSection g = g.bodies
gathered_items DataSection g = g.data_segments

-- The contents of a kind in a list of sections.
abbrev pub section_items : (kind : Kind) → List Section → Kept kind
section_items CustomSection ss = customs_in ss
section_items TypeSection ss = types_in ss
section_items ImportSection ss = imports_in ss
section_items FunctionSection ss = type_indices_in ss
section_items TableSection ss = tables_in ss
section_items MemorySection ss = memories_in ss
section_items TagSection ss = tags_in ss
section_items GlobalSection ss = globals_in ss
section_items ExportSection ss = exports_in ss
section_items StartSection ss = start_in ss
section_items ElementSection ss = elements_in ss
section_items DataCountSection ss = data_count_in ss
section_items CodeSection ss = bodies_in ss
section_items DataSection ss = datas_in ss

-- Replaces the content of the section's kind. A custom section is appended, with the kind that the sections
-- before it give.
abbrev pub with_content : Gathered → Section → Gathered
with_content g (holds CustomSection c) = record g { customs = g.customs ++ customs_after g.after (holds CustomSection c ∷ []) }
with_content g (holds TypeSection ts) = record g { types = ts }
with_content g (holds ImportSection is) = record g { imports = is }
with_content g (holds FunctionSection is) = record g { type_indices = is }
with_content g (holds TableSection ts) = record g { tables = ts }
with_content g (holds MemorySection ms) = record g { memories = ms }
with_content g (holds TagSection ts) = record g { tags = ts }
with_content g (holds GlobalSection gs) = record g { globals = gs }
with_content g (holds ExportSection es) = record g { exports = es }
with_content g (holds StartSection f) = record g { start = f }
with_content g (holds ElementSection es) = record g { elements = es }
with_content g (holds DataCountSection n) = record g { data_count = n }
with_content g (holds CodeSection bs) = record g { bodies = bs }
with_content g (holds DataSection ds) = record g { data_segments = ds }

-- The state after one more section.
abbrev pub with_section : Gathered → Section → Gathered
with_section g s = record (with_content g s) { rank = rank_after g.rank (rank (section_kind s)); after = kind_after g.after s }

-- For each kind, the gathered contents are those of the sections.
abbrev pub IsHeld : Gathered → List Section → Type 0
IsHeld g ss = (kind : Kind) → gathered_items kind g ≡ section_items kind ss

-- There are as many bodies as type indices, and as many data segments as the data count says.
pub record IsWhole (g : Gathered) : Type 0 where
  pub as_many : length g.type_indices ≡ length g.bodies
  pub counted : counts_data g.data_count (length g.data_segments) ≡ true

-- Reads sections up to the end of the bytes.
abbrev pub sections_at : Input → Option (List Section)
sections_at at = (until_end section).parse at

-- The bytes are sections in order and within the limits, up to the end, and these are their contents.
pub record HoldsSections (at : Input) (g : Gathered) : Type 0 where
  pub sections : List Section
  pub read : sections_at at ≡ Some sections
  pub rise : are_above 0 sections ≡ true
  pub small : AllByRecursion IsSectionWithinLimits sections
  pub held : IsHeld g sections

-- The number of items in all sections, custom sections included.
abbrev pub item_count_in : List Section → ℕ
item_count_in ss =
    length (types_in ss) + length (imports_in ss) + length (type_indices_in ss) + length (tables_in ss) + length (memories_in ss)
    + length (tags_in ss) + length (globals_in ss) + length (exports_in ss) + length (elements_in ss) + length (bodies_in ss)
    + length (datas_in ss) + length (customs_in ss)

-- The reason for each error of reading sections up to the end of the bytes.
abbrev pub sections_reasons : Input → Reasons
sections_reasons at = record {
  malformed = λ place. ((ss : List Section) → sections_at at ≡ Some ss → are_above 0 ss ≡ true → ⊥) × IsPlaceIn at place;
  component = ⊥;
  locals =
      λ place. HasManyLocals at place
      × ((ss : List Section) → sections_at at ≡ Some ss → are_above 0 ss ≡ true → FirstIsOver place (bodies_in ss));
  functions = λ count.
      BeginsSection at FunctionSection count × (most_functions < count)
      × ((ss : List Section) → sections_at at ≡ Some ss → are_above 0 ss ≡ true → length (type_indices_in ss) ≡ count);
  tables =
      λ place. HasEmptyInit at place
      × ((ss : List Section) → sections_at at ≡ Some ss → are_above 0 ss ≡ true → FirstIsEmpty place (tables_in ss));
  memory = KeepsSome at × ((ss : List Section) → sections_at at ≡ Some ss → are_above 0 ss ≡ true → 0 < item_count_in ss);
}

-- On success the bytes are sections in order and within the limits. An error has a true reason.
abbrev pub TakesSections : Input → Result Gathered Error → Type 0
TakesSections at (Ok g) = HoldsSections at g
TakesSections at (Err e) = HasReason (sections_reasons at) e
