-- The meaning of calls on a printer that writes over a buffer and over a table of events.
use Rattle.std.specs.Prelude.{◌≡◌, ◌+◌, ◌^◌, ◌≤◌, ◌<◌, ℕ, List, [], ◌∷◌, Bool, None, length}
use Rattle.wasmprinter_spec.specs.Call.{Call, Text, Newline, Line, Start, Claim, call_text}
use Rattle.wasmprinter_spec.specs.Meaning.{Meaning}
use Rattle.wasmprinter_c.specs.Over.{over_from}
use Rattle.wasmprinter_c.specs.Events.{call_events}
use Rattle.wasmprinter_c.specs.Omitted.{IsListOf, has_name}
use Rattle.wasmprinter_c.specs.declared.buffer_and_event_printer.WasmprinterEvent.{WasmprinterEvent}
use Rattle.wasmprinter_c.specs.declared.buffer_and_event_printer.Copier.{Copier}

-- A text was written after the text so far: its first bytes, as many as fit. All its bytes were counted, and the text
-- is not longer than the limit. The buffer and the table are the same objects.
abbrev pub Grows : Copier → List ℕ → Copier → Type 0
Grows old text new =
    (new.out.ghost_name ≡ old.out.ghost_name) × (new.out.now ≡ over_from old.written text old.out.now)
    × (new.written ≡ old.written + length text) × (new.written < 2 ^ 64) × (new.written ≤ new.limit) × (new.limit ≡ old.limit) × (new.omitted ≡ old.omitted)
    × (new.all_events ≡ old.all_events) × (new.table ≡ old.table) × (new.count ≡ old.count)

-- If these events can be counted, they follow the others in the table, as far as they fit. Otherwise nothing is said of
-- the table's entries and of the count. Everything else is unchanged.
abbrev pub Records : Copier → List WasmprinterEvent → Copier → Type 0
Records old es new =
    (new.out ≡ old.out) × (new.written ≡ old.written) × (new.limit ≡ old.limit) × (new.omitted ≡ old.omitted) × (new.all_events ≡ old.all_events)
    × (new.table.ghost_name ≡ old.table.ghost_name) × (old.count + length es < 2 ^ 64 →
    (new.table.now ≡ over_from old.count es old.table.now) × (new.count ≡ old.count + length es))

-- If the bytes are a list of names, the answer is whether this name is one of them.
abbrev pub IsAnswerBy : List ℕ → List ℕ → Bool → Type 0
IsAnswerBy list name answer = (names : List (List ℕ)) → IsListOf names list → answer ≡ has_name names name

-- The call succeeded: it wrote a text or a line feed, or it recorded its events. The custom sections that are claimed
-- are those whose names are in the printer's list.
abbrev pub CopiedAfter : Copier → Call → Copier → Type 0
CopiedAfter old (Text bytes) new = Grows old bytes new
CopiedAfter old Newline new = Grows old (10 ∷ []) new
CopiedAfter old (Line place) new = Records old (call_events old.all_events old.written (Line place)) new
CopiedAfter old (Start style) new = Records old (call_events old.all_events old.written (Start style)) new
CopiedAfter old (Claim name place bytes answer) new =
    IsAnswerBy old.omitted.now name answer × Records old (call_events old.all_events old.written (Claim name place bytes answer)) new

-- The meaning of such a printer. A call fails only if the text would be longer than the limit, and then changes
-- nothing.
abbrev pub copied_meaning : Meaning Copier
copied_meaning = record {
  after = CopiedAfter;
  may_fail = λ old call. old.limit < old.written + length (call_text call);
  partly = λ old call error new. new ≡ old;
  faults = λ copier. None;
}
