-- Printing a module to a text-only printer appends the module's text. Printing one module with colors and without
-- gives two texts that differ only in ANSI escape sequences.
use Rattle.std.specs.Prelude.{ℕ, List, Option, true, false, Ok}
use Rattle.std.proofs.Common.{ap, ◌∙◌, sym}
use Rattle.wasmprinter_spec.specs.Call.{Call, Text, Newline, Line, Start, Claim, IsUnclaimed, atoms, text_of}
use Rattle.wasmprinter_spec.specs.Color.{uncolor}
use Rattle.wasmprinter_spec.specs.Colored.{colored_text}
use Rattle.wasmprinter_spec.specs.Options.{Options, IsBlank, with_color}
use Rattle.wasmprinter_spec.specs.Placed.{PlacedModule}
use Rattle.wasmprinter_spec.specs.Layout.{layout}
use Rattle.wasmprinter_spec.proofs.Texts.{alike_texts, alike_colored}
use Rattle.wasmprinter_laws.proofs.Main.{prints_plain_text}
use Rattle.wasmprinter_laws.proofs.Colored.Texts.{colored_text_keeps}
use Rattle.wasmprinter_writers.specs.Writing.{Writing, TakesWhole}
use Rattle.wasmprinter_writers.specs.ColorCalls.{Coloring, WritesSequences, KeepsColor, WritesInColor, colored_meaning}
use Rattle.wasmprinter_writers.proofs.Runs.{colored_run, uncolored_run}
use Rattle.wasmprinter.specs.Printed.{Printed, no_claims}
use Rattle.wasmprinter.specs.Gained.{GainAlike, GainsText}
use Rattle.wasmprinter.proofs.Claims.{IsSame}
use Rattle.wasmprinter_print.specs.Change.{change}
use Rattle.wasmprinter_print.specs.TextOnly.{Writes, Grows, text_only}
use Rattle.wasmprinter_print.proofs.TextRuns.{takes_none, text_is_gained}
use Rattle.wasmprinter.proofs.Named.{same_module}
use Rattle.wasmprinter.proofs.Texts.{IsPlainly, unclaimed_printed, plainly_printed, module_text}

-- A printer with colors claims no custom section.
leaves_sections : {T : Type 0} (takes : Writing T) (color : Coloring T) (s : T) (c : Call) (t : T) → WritesInColor takes color s c (Ok tt) t → IsUnclaimed c
leaves_sections takes color s (Text bytes) t h = tt
leaves_sections takes color s Newline t h = tt
leaves_sections takes color s (Line place) t h = tt
leaves_sections takes color s (Start style) t h = tt
leaves_sections takes color s (Claim name place bytes claimed) t h = h.0

module _ {P S U Q R : Type 0} (writer : P → S) (inner : S → U) (told : U → Option (List ℕ)) (plain_writer : Q → R) (plain_told : R → Option (List ℕ)) where
  abbrev own_takes : Writing S
  own_takes = TakesWhole (λ w. told (inner w))

  abbrev own_colors : Coloring S
  own_colors = WritesSequences inner (TakesWhole told)

  pub gained_alike : (o : Options) (bytes : List ℕ) → IsBlank o.indent → (s t : P) (x y : Q) →
      Printed (change (colored_meaning writer own_takes own_colors) s t) true o bytes →
      Printed (change (colored_meaning plain_writer (TakesWhole plain_told) KeepsColor) x y) false o bytes →
      GainAlike (told (inner (writer s))) (told (inner (writer t))) (plain_told (plain_writer x)) (plain_told (plain_writer y))
  gained_alike o bytes spaces s t x y v u =
      let by : Options = with_color o true in
      let m : PlacedModule = v.decoded.placed in
      let n : PlacedModule = u.decoded.placed in
      let own : IsSame by v.answers m = unclaimed_printed v (λ a c b h. leaves_sections own_takes own_colors (writer a) c (writer b) h) in
      let laid : List Call = layout by no_claims m in
      let other : IsPlainly o u.calls n = plainly_printed u (λ a c b h. leaves_sections (TakesWhole plain_told) KeepsColor (plain_writer a) c (plain_writer b) h) in
      let bare : PlacedModule → List ℕ = λ placed. text_of (layout (with_color o false) no_claims placed) in
      record {
        colored = colored_text v.calls;
        plain = text_of u.calls;
        first = colored_run writer inner told s t v.calls v.run;
        second = uncolored_run plain_writer plain_told x y u.calls u.run;
        same =
            ap uncolor (alike_colored v.calls laid (v.alike ∙ ap atoms own.layout))
            ∙ colored_text_keeps prints_plain_text bytes m by no_claims v.decoded.spelled spaces
            ∙ ap bare (same_module v.decoded n u.decoded.spelled)
            ∙ sym (alike_texts u.calls (layout (with_color o false) no_claims n) other.alike);
      }

-- ---- Text-only printers

pub gains_text : {P : Type 0} (view : P → List ℕ) (writes : Writes P) → Grows view writes → (o : Options) (bytes : List ℕ) (old new : P) →
    Printed (change (text_only writes) old new) false o bytes → GainsText o bytes (view old) (view new)
gains_text view writes grows o bytes old new v =
    let own : IsPlainly o v.calls v.decoded.placed = plainly_printed v (takes_none writes) in
    record {
      text = text_of v.calls;
      gained = text_is_gained view writes grows old v.calls new v.run;
      is =
          module_text o v.decoded v.foldable own.accepted (text_of v.calls)
          (alike_texts v.calls (layout (with_color o false) no_claims v.decoded.placed) own.alike);
    }
