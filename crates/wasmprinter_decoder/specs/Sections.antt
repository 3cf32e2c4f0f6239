-- Reading one section.
use Rattle.std.specs.Prelude.{◌≡◌, ℕ, ◌<◌, Option, Some, None, Result, Ok, Err}
use Rattle.wasmprinter_spec.specs.Grammar.{Input, ◌>>=◌}
use Rattle.wasmprinter_spec.specs.Sections.{CustomSection, TypeSection, ImportSection, FunctionSection, TableSection, MemorySection, TagSection, GlobalSection}
use Rattle.wasmprinter_spec.specs.Sections.{ExportSection, StartSection, ElementSection, DataCountSection, CodeSection, DataSection}
use Rattle.wasmprinter_spec.specs.Sections.{Kind, content, holds, section, Section as SectionValue}
use Rattle.wasmprinter_spec.specs.Limits.{most_functions}
use Rattle.wasmprinter_bytes.specs.Reads.{IsPlaceIn}
use Rattle.wasmprinter_bytes.specs.declared.library_error.Error.{Error}
use Rattle.wasmprinter_bytes.specs.declared.library_error.Error.TheVariants.{Malformed as AtPlace}
use Rattle.wasmprinter_bytes.specs.Reasons.{Reasons, HasReason}
use Rattle.wasmprinter_decoder.specs.declared.sections.Section.{Section}
use Rattle.wasmprinter_decoder.specs.declared.sections.Section.TheVariants as s
use Rattle.wasmprinter_decoder.specs.Contents.{HasOver, HasEmpty, HasCount, IsSectionWithinLimits, item_count, content_reasons}
use Rattle.wasmprinter_decoder.specs.Refusals.{HasManyLocals, HasEmptyInit, BeginsSection, BeginsItems}

-- The section as a value of the definitions.
abbrev pub section_view : Section → SectionValue
section_view (s.Custom c) = holds CustomSection c
section_view (s.Types ts) = holds TypeSection ts
section_view (s.Imports is) = holds ImportSection is.items
section_view (s.Functions is) = holds FunctionSection is.items
section_view (s.Tables ts) = holds TableSection ts.items
section_view (s.Memories ms) = holds MemorySection ms.items
section_view (s.Tags ts) = holds TagSection ts.items
section_view (s.Globals gs) = holds GlobalSection gs.items
section_view (s.Exports es) = holds ExportSection es.items
section_view (s.Start f) = holds StartSection (Some f)
section_view (s.Elements es) = holds ElementSection es.items
section_view (s.DataCount n) = holds DataCountSection (Some n)
section_view (s.Code bs) = holds CodeSection bs.items
section_view (s.Data ds) = holds DataSection ds.items

-- The result of reading the content of a section of this kind. Without a kind the result is `Malformed` at the
-- place.
abbrev pub TakesContent : ℕ → Option Kind → Input → Result Section Error → Type 0
TakesContent place (Some kind) at (Ok s) =
    (((content kind).parse at >>= λ x. Some (holds kind x)) ≡ Some (section_view s)) × IsSectionWithinLimits (section_view s)
TakesContent place (Some kind) at (Err e) = HasReason (content_reasons kind at) e
TakesContent place None at (Ok s) = ⊥
TakesContent place None at (Err e) = e ≡ AtPlace place

-- The reason for each error of reading a section.
abbrev pub section_reasons : Input → Reasons
section_reasons at = record {
  malformed = λ place. (section.parse at ≡ None) × IsPlaceIn at place;
  component = ⊥;
  locals = λ place. HasManyLocals at place × ((x : SectionValue × Input) → section.parse at ≡ Some x → HasOver place x.0);
  functions =
      λ count. BeginsSection at FunctionSection count × (most_functions < count)
      × ((x : SectionValue × Input) → section.parse at ≡ Some x → HasCount count x.0);
  tables = λ place. HasEmptyInit at place × ((x : SectionValue × Input) → section.parse at ≡ Some x → HasEmpty place x.0);
  memory = BeginsItems at × ((x : SectionValue × Input) → section.parse at ≡ Some x → 0 < item_count x.0);
}

-- On success a section within the limits was read. An error has a true reason.
abbrev pub TakesSection : Input → Result Section Error → Input → Type 0
TakesSection old (Ok s) new = (section.parse old ≡ Some (section_view s, new)) × IsSectionWithinLimits (section_view s)
TakesSection old (Err e) new = HasReason (section_reasons old) e
