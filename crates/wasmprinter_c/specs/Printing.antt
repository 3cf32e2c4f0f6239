-- Definition of a module's text and events that were printed over a buffer and a table.
use Rattle.std.specs.Prelude.{◌≡◌, ◌≤◌, ◌<◌, ◌^◌, ◌*◌, ◌/◌, ℕ, List, [], Bool, false, length}
use Rattle.wasmprinter_spec.specs.Options.{Options, defaults, with_color}
use Rattle.wasmprinter_spec.specs.Layout.{layout}
use Rattle.wasmprinter_spec.specs.Binary.Limits.{has_bit}
use Rattle.wasmprinter.specs.Printed.{no_claims}
use Rattle.wasmprinter.specs.Lined.{HasLinesAt}
use Rattle.wasmprinter_c.specs.Over.{over}
use Rattle.wasmprinter_c.specs.Events.{events, line_starts}
use Rattle.wasmprinter_c.specs.Omitted.{IsListOf, answers_for}
use Rattle.wasmprinter_c.specs.Without.{HasLinesWithout}
use Rattle.wasmprinter_c.specs.declared.buffer_and_event_printer.WasmprinterEvent.{WasmprinterEvent}

-- The options that the bits of the flags choose, with this indent.
abbrev pub options_of : ℕ → List ℕ → Options
options_of flags indent =
    record defaults { offsets = has_bit 0 flags; skeleton = has_bit 1 flags; synthesizes = has_bit 2 flags; folds = has_bit 3 flags; indent = indent }

-- What a caller asks for.
pub record Request : Type 0 where
  -- The options of printing.
  pub options : Options
  -- Whether the table gets all events, or only the starts of lines.
  pub all_events : Bool
  -- The greatest length of the text in bytes.
  pub limit : ℕ
  -- The list of the names of custom sections to leave out, in bytes.
  pub omitted : List ℕ

-- The request with these fields, in their order.
abbrev pub request : Options → Bool → ℕ → List ℕ → Request
request options all_events limit omitted = record { options = options; all_events = all_events; limit = limit; omitted = omitted }

-- The request that the bits of the flags choose, with this indent, this limit and this list of names.
abbrev pub request_of : ℕ → List ℕ → ℕ → List ℕ → Request
request_of flags indent limit omitted = request (options_of flags indent) (has_bit 4 flags) limit omitted

-- The bits of the flags that choose no option, as a number.
abbrev pub unknown_bits : ℕ → ℕ
unknown_bits flags = flags / 32 * 32

-- The flags have a bit that chooses no option.
abbrev pub HasUnknownBit : ℕ → Type 0
HasUnknownBit flags = 32 ≤ flags

-- A buffer for text and a table of events, before and after a call.
pub record Buffers : Type 0 where
  -- The contents of the buffer before the call.
  pub old : List ℕ
  -- The contents of the buffer after the call.
  pub new : List ℕ
  -- The entries of the table before the call.
  pub before : List WasmprinterEvent
  -- The entries of the table after the call.
  pub after : List WasmprinterEvent

-- The buffer and the table with these contents. The order is that of the fields.
abbrev pub buffers : List ℕ → List ℕ → List WasmprinterEvent → List WasmprinterEvent → Buffers
buffers old new before after = record { old = old; new = new; before = before; after = after }

-- What holds of the text and the events if no custom section is left out: they are those of the library for Rattle.
pub record HasAllSections (r : Request) (bytes text : List ℕ) (table : List WasmprinterEvent) : Type 0 where
  -- The text, cut where the lines start, has the lines and the places that `Config::offsets_and_lines` returns for an
  -- empty storage.
  pub lines : HasLinesAt r.options bytes [] text (line_starts table)
  -- The events are those of the layout in which no custom section is claimed.
  pub placed : table ≡ events r.all_events 0 (layout (with_color r.options false) no_claims lines.printed.decoded.placed)

-- The bytes encode a module. Its text, without the custom sections whose names are in the list, was written over the
-- buffer, and the events of this text, if they can be counted, over the table.
pub record HasEventsOver (r : Request) (bytes : List ℕ) (b : Buffers) (whole count : ℕ) : Type 0 where
  -- The names in the list.
  pub names : List (List ℕ)
  pub listed : IsListOf names r.omitted
  -- The text of the module without the custom sections with these names.
  pub text : List ℕ
  -- All its events or, if the request is for lines alone, the starts of all its lines.
  pub table : List WasmprinterEvent
  -- The text, cut where the lines start, has the lines and the places of the layout.
  pub lines : HasLinesWithout names r.options bytes text (line_starts table)
  -- The events are those of the layout.
  pub placed : table
      ≡ events r.all_events 0 (layout (with_color r.options false) (answers_for names lines.printed.decoded.placed) lines.printed.decoded.placed)
  -- If the list is empty, no section is left out.
  pub all : r.omitted ≡ [] → HasAllSections r bytes text table
  -- The first bytes of the text, as many as fit, were written over the buffer.
  pub copied : b.new ≡ over text b.old
  -- `whole` is the length of the text in bytes.
  pub counted : whole ≡ length text
  -- The text is not longer than the limit.
  pub short : whole ≤ r.limit
  -- The lines can be counted.
  pub few : r.all_events ≡ false → length table < 2 ^ 64
  -- If the events can be counted, the first ones, as many as fit, were written over the table.
  pub entered : length table < 2 ^ 64 → b.after ≡ over table b.before
  -- If the events can be counted, `count` is their number.
  pub numbered : length table < 2 ^ 64 → count ≡ length table
