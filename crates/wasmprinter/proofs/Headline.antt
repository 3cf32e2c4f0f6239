-- The main theorem follows from its parts: the module that the decoder read, the calls that the printer made, and the
-- laws of reading and of colors.
use Rattle.std.proofs.Common.{◌≡◌, ℕ, List, Bool, false, None, refl, sym, ap, ◌∙◌, subst}
use Rattle.wasmprinter_spec.specs.Binary.{Spells}
use Rattle.wasmprinter_spec.specs.Placed.{PlacedModule}
use Rattle.wasmprinter_spec.specs.Call.{text_of}
use Rattle.wasmprinter_spec.specs.Color.{uncolor}
use Rattle.wasmprinter_spec.specs.Options.{Options, Answers, IsBlank, with_color}
use Rattle.wasmprinter_spec.specs.Plain.{IsPlainText}
use Rattle.wasmprinter_spec.specs.Folding.Refusals.{IsFoldable}
use Rattle.wasmprinter_spec.specs.Layout.{layout, refusal}
use Rattle.wasmprinter_spec.specs.Text.Hints.{text_hints}
use Rattle.wasmprinter_spec.specs.Read.{read}
use Rattle.wasmprinter_print.specs.Change.{Change}
use Rattle.wasmprinter_print.specs.MadeCalls.{Whole}
use Rattle.wasmprinter_spec.proofs.Texts.{alike_texts}
use Rattle.wasmprinter_laws.proofs.Main.{reads_back, prints_plain_text}
use Rattle.wasmprinter_laws.proofs.Hints.Kept.{hints_stay}
use Rattle.wasmprinter_laws.proofs.Colored.Texts.{color_adds_sequences, sequences_stay_within_calls}
use Rattle.wasmprinter.specs.Decoded.{Decoded}
use Rattle.wasmprinter.specs.Printed.{Printed, no_claims}
use Rattle.wasmprinter.proofs.Claims.{alike_unclaimed, unclaimed_layout}
use Rattle.wasmprinter.proofs.ColorRefusals.{refusal-color}

-- A module that can be folded can also be folded with escape sequences.
pub foldable_in : (o : Options) (b : Bool) (m : PlacedModule) → IsFoldable o m → IsFoldable (with_color o b) m
foldable_in o b m f = record { legacy = f.legacy; hints = f.hints }

-- If the bytes encode a module and all calls of its layout were made, the module was printed.
pub printed : {P : Type 0} (printer : Change P) (colors : Bool) (o : Options) {bytes : List ℕ} (d : Decoded bytes) (answers : Answers) → IsFoldable o d.placed →
    refusal (with_color o colors) answers d.placed ≡ None → Whole printer.meaning printer.old printer.new (layout (with_color o colors) answers d.placed) →
    Printed printer colors o bytes
printed printer colors o {bytes} d answers foldable accepted made =
    let placed : PlacedModule = d.placed in
    let spelled : Spells bytes placed = d.spelled in
    let by : Options = with_color o colors in
    let plainly : Options = with_color o false in
    let same : text_of made.calls ≡ text_of (layout by answers placed) = alike_texts made.calls (layout by answers placed) made.alike in
    let uncolored : IsBlank o.indent → uncolor (text_of made.calls) ≡ text_of (layout plainly answers placed) =
    λ spaces. ap uncolor same ∙ color_adds_sequences prints_plain_text bytes placed by answers spelled spaces in
    record {
      decoded = d;
      answers = answers;
      foldable = foldable;
      accepted = accepted;
      calls = made.calls;
      run = made.run;
      alike = made.alike;
      bare = λ spaces. sequences_stay_within_calls prints_plain_text bytes placed by answers spelled spaces;
      uncolored = uncolored;
      reads = λ indexed whole spaces asked.
          let own = unclaimed_layout by answers placed (alike_unclaimed made.calls (layout by answers placed) made.alike asked) in
          ap read (ap uncolor (same ∙ ap text_of own.layout) ∙ color_adds_sequences prints_plain_text bytes placed by no_claims spelled spaces)
          ∙ reads_back bytes placed plainly no_claims spelled indexed d.within.tables whole refl spaces (λ n. refl) (foldable_in o false placed foldable)
          (refusal-color o false colors no_claims placed ∙ (sym own.refusal ∙ accepted));
      hints = λ hs whole spaces given.
          ap text_hints (uncolored spaces)
          ∙ hints_stay bytes placed plainly answers hs spelled whole refl spaces (foldable_in o false placed foldable) (refusal-color o false colors answers placed ∙ accepted) given;
      plain = λ spaces none. subst IsPlainText (sym same) (prints_plain_text bytes placed by answers spelled none spaces);
    }
