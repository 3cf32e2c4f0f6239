-- The starts of lines among all events are the events of lines alone.
use Rattle.std.proofs.Common.{◌≡◌, ℕ, ◌+◌, List, [], ◌∷◌, length, refl, ap, ◌∙◌}
use Rattle.std.specs.Prelude.{Bool, true, false, Some, None}
use Rattle.std.specs.List.{filter}
use Rattle.wasmprinter_spec.specs.Call.{Call, Style, Text, Newline, Line, Start, Claim, Literal, Name, Keyword, TypeName, Comment, Reset}
use Rattle.wasmprinter_c.specs.Events.{event, style_kind, events, is_line}
use Rattle.wasmprinter_c.specs.declared.buffer_and_event_printer.WasmprinterEvent.{WasmprinterEvent}

-- An event of a style is left out.
without-style : (style : Style) (start : ℕ) (es : List WasmprinterEvent) → filter is_line (event (style_kind style) 0 start ∷ es) ≡ filter is_line es
without-style Name start es = refl
without-style Literal start es = refl
without-style Keyword start es = refl
without-style TypeName start es = refl
without-style Comment start es = refl
without-style Reset start es = refl

pub only-lines : (all : Bool) (start : ℕ) (cs : List Call) → filter is_line (events all start cs) ≡ events false start cs
only-lines all start [] = refl
only-lines all start (Text s ∷ cs) = only-lines all (start + length s) cs
only-lines all start (Newline ∷ cs) = only-lines all (start + 1) cs
only-lines all start (Line (Some place) ∷ cs) = ap (λ (es : List WasmprinterEvent). event 1 place start ∷ es) (only-lines all start cs)
only-lines all start (Line None ∷ cs) = ap (λ (es : List WasmprinterEvent). event 0 0 start ∷ es) (only-lines all start cs)
only-lines true start (Start style ∷ cs) = without-style style start (events true start cs) ∙ only-lines true start cs
only-lines false start (Start style ∷ cs) = only-lines false start cs
only-lines true start (Claim name place bytes answer ∷ cs) = only-lines true start cs
only-lines false start (Claim name place bytes answer ∷ cs) = only-lines false start cs
