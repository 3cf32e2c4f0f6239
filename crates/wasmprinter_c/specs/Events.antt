-- The events of a text: the starts of its lines and, if they are chosen, its styles and custom sections.
use Rattle.std.specs.Prelude.{ℕ, ◌+◌, ◌==◌, List, [], ◌∷◌, ◌++◌, Bool, true, false, Option, Some, None, if◌then◌else◌, length, map}
use Rattle.std.specs.List.{filter}
use Rattle.wasmprinter_spec.specs.Call.{Call, Style, Text, Newline, Line, Start, Claim, Literal, Name, Keyword, TypeName, Comment, Reset}
use Rattle.wasmprinter_writers.specs.declared.line_iterator.LineStart.{LineStart}
use Rattle.wasmprinter_c.specs.declared.buffer_and_event_printer.WasmprinterEvent.{WasmprinterEvent}

-- The number of the kind that selects this style. A line without a place has 0, a line with a place 1, and a custom
-- section 8.
abbrev pub style_kind : Style → ℕ
style_kind Name = 2
style_kind Literal = 3
style_kind Keyword = 4
style_kind TypeName = 5
style_kind Comment = 6
style_kind Reset = 7

-- The event of this kind at this byte of the text. An event that has no place gets 0.
abbrev pub event : ℕ → ℕ → ℕ → WasmprinterEvent
event kind place start = record { start = start; place = place; kind = kind }

-- The event of a line that starts at this byte of the text.
abbrev pub line_event : Option ℕ → ℕ → WasmprinterEvent
line_event (Some place) start = event 1 place start
line_event None start = event 0 0 start

-- The event is listed only if all events are.
abbrev pub noted : Bool → WasmprinterEvent → List WasmprinterEvent
noted true e = e ∷ []
noted false e = []

-- The events of a call at this byte of the text. `all`: whether all events are listed, or lines alone.
abbrev pub call_events : Bool → ℕ → Call → List WasmprinterEvent
call_events all start (Text s) = []
call_events all start Newline = []
call_events all start (Line place) = line_event place start ∷ []
call_events all start (Start style) = noted all (event (style_kind style) 0 start)
call_events all start (Claim name place bytes answer) = noted all (event 8 place start)

-- The events of these calls, whose text starts at this byte.
abbrev pub events : Bool → ℕ → List Call → List WasmprinterEvent
events all start [] = []
events all start (Text s ∷ cs) = events all (start + length s) cs
events all start (Newline ∷ cs) = events all (start + 1) cs
events all start (Line place ∷ cs) = call_events all start (Line place) ++ events all start cs
events all start (Start style ∷ cs) = call_events all start (Start style) ++ events all start cs
events all start (Claim name place bytes answer ∷ cs) = call_events all start (Claim name place bytes answer) ++ events all start cs

-- The event is the start of a line.
abbrev pub is_line : WasmprinterEvent → Bool
is_line e = if e.kind == 0 then true else e.kind == 1

-- The start of a line in the form that the library for Rattle returns.
abbrev pub line_start : WasmprinterEvent → LineStart
line_start e = record { place = if e.kind == 0 then None else Some e.place; at = e.start }

-- The starts of the lines among these events.
abbrev pub line_starts : List WasmprinterEvent → List LineStart
line_starts table = map line_start (filter is_line table)
