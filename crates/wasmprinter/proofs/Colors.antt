-- The text of a module with ANSI escape sequences.
use Rattle.std.specs.Prelude.{◌≡◌, ℕ, List, [], ◌∷◌, ◌++◌, true, false, None}
use Rattle.std.proofs.Common.{sym, ap, ◌∙◌, append_assoc, append-nil}
use Rattle.wasmprinter_spec.specs.Call.{Call, atoms}
use Rattle.wasmprinter_spec.specs.Color.{uncolor}
use Rattle.wasmprinter_spec.specs.Meaning.{Run}
use Rattle.wasmprinter_spec.specs.Colored.{colored_bytes, colored_text}
use Rattle.wasmprinter_spec.specs.Options.{Options, with_color}
use Rattle.wasmprinter_spec.specs.Placed.{PlacedModule}
use Rattle.wasmprinter_spec.specs.Layout.{layout, refusal}
use Rattle.wasmprinter_spec.proofs.Texts.{alike_colored}
use Rattle.wasmprinter_laws.proofs.Main.{prints_plain_text}
use Rattle.wasmprinter_laws.proofs.Colored.Texts.{colored_text_keeps}
use Rattle.wasmprinter_print.specs.Change.{change}
use Rattle.wasmprinter.specs.AnsiText.{ansi_text_meaning}
use Rattle.wasmprinter.specs.Printed.{Printed, no_claims}
use Rattle.wasmprinter.specs.Colored.{HasColoredTextBy}
use Rattle.wasmprinter.proofs.Claims.{IsSame}
use Rattle.wasmprinter.proofs.ColorRefusals.{refusal-color}
use Rattle.wasmprinter.proofs.Texts.{unclaimed_printed, module_text}

-- A run of calls appends their text with the escape sequences.
colored_run : (old new : List ℕ) (calls : List Call) → Run ansi_text_meaning old calls new → new ≡ old ++ colored_text calls
colored_run old new [] r = sym r ∙ sym (append-nil old)
colored_run old new (c ∷ calls) r =
    colored_run r.0 new calls r.2 ∙ ap (λ t. t ++ colored_text calls) r.1.step.0 ∙ append_assoc old (colored_bytes c) (colored_text calls)

-- If a module was printed in color to an empty text in memory, the result is the module's text with the escape
-- sequences.
pub printed_in_colors : (o : Options) (bytes old new : List ℕ) → old ≡ [] → Printed (change ansi_text_meaning old new) true o bytes → HasColoredTextBy o bytes new
printed_in_colors o bytes old new empty v =
    let by : Options = with_color o true in
    let placed : PlacedModule = v.decoded.placed in
    let own : IsSame by v.answers placed = unclaimed_printed v (λ s c t h. h.1) in
    let laid : List Call = layout by no_claims placed in
    let received : new ≡ colored_text v.calls = colored_run old new v.calls v.run ∙ ap (λ t. t ++ colored_text v.calls) empty in
    let is : new ≡ colored_text laid = received ∙ alike_colored v.calls laid (v.alike ∙ ap atoms own.layout) in
    let accepted : refusal (with_color o false) no_claims placed ≡ None = refusal-color o false true no_claims placed ∙ (sym own.refusal ∙ v.accepted) in
    record {
      decoded = v.decoded;
      foldable = v.foldable;
      accepted = sym own.refusal ∙ v.accepted;
      is = is;
      bare = λ spaces.
          module_text o v.decoded v.foldable accepted (uncolor new)
          (ap uncolor is ∙ colored_text_keeps prints_plain_text bytes placed by no_claims v.decoded.spelled spaces);
    }
