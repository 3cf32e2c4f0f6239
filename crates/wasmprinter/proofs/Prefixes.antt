-- The text that a printer has received when printing ends with an error.
use Rattle.std.proofs.Common.{◌≡◌, ℕ, List, [], ◌∷◌, ◌++◌, false, refl, sym, ap, ◌∙◌, subst, append_assoc}
use Rattle.std.specs.declared.io.Error.{Error as IoError}
use Rattle.wasmprinter_spec.specs.Placed.{PlacedModule}
use Rattle.wasmprinter_spec.specs.Call.{Call, atoms, text_of}
use Rattle.wasmprinter_spec.specs.Meaning.{Meaning, Run}
use Rattle.wasmprinter_spec.specs.Options.{Options, Answers, with_color}
use Rattle.wasmprinter_spec.specs.Layout.{layout}
use Rattle.wasmprinter_spec.proofs.Texts.{alike_texts}
use Rattle.wasmprinter_print.specs.Change.{Change}
use Rattle.wasmprinter_print.specs.MadeCalls.{Broken, Interrupted}
use Rattle.wasmprinter_print.specs.MadeLaws.{atoms-append}
use Rattle.wasmprinter.specs.Outcome.{MadeUpTo, WhilePrinting}
use Rattle.wasmprinter.specs.Prefix.{IsPrefixText, IsTextBefore, PutsPrefix, PutsTextBefore}
use Rattle.wasmprinter.proofs.Claims.{alike_unclaimed}
use Rattle.wasmprinter.proofs.Texts.{ClaimsNone, none_claimed}

-- If a call failed, the calls before it are a prefix of the layout.
broken_alike : {P : Type 0} (m : Meaning P) (old new : P) (x : IoError) (layout : List Call) (b : Broken m old new x layout) →
    atoms b.calls ++ (atoms (b.call ∷ []) ++ b.rest) ≡ atoms layout
broken_alike m old new x layout b =
    sym (append_assoc (atoms b.calls) (atoms (b.call ∷ [])) b.rest)
    ∙ ap (λ (cs : List Call). cs ++ b.rest) (sym (atoms-append b.calls (b.call ∷ []))) ∙ b.alike

-- What follows from a description of the state also describes it.
while_printing : {o : Options} {bytes : List ℕ} {Left Then : PlacedModule → Answers → Type 0} →
    WhilePrinting o bytes Left → ((placed : PlacedModule) (answers : Answers) → Left placed answers → Then placed answers) → WhilePrinting o bytes Then
while_printing h f = record { decoded = h.decoded; foldable = h.foldable; answers = h.answers; left = f h.decoded.placed h.answers h.left }

-- A printer claims no custom section, and `Put` holds for the text of the calls that were made.
module _ {P : Type 0} (printer : Change P) (never : ClaimsNone printer.meaning) (o : Options) (bytes : List ℕ) (Put : List ℕ → Type 0) where
  -- The calls that are made for a module without colors.
  abbrev laid : PlacedModule → Answers → List Call
  laid placed answers = layout (with_color o false) answers placed

  abbrev PutsRuns : Type 0
  PutsRuns = (calls : List Call) → Run printer.meaning printer.old calls printer.new → Put (text_of calls)

  abbrev IsPut : (List ℕ → Type 0) → Type 0
  IsPut Is = (text : List ℕ) × Is text × Put text

  -- If a call failed, a prefix of the text was put.
  pub failed_puts : (x : IoError) → ((l : List Call) (b : Broken printer.meaning printer.old printer.new x l) → Put (text_of b.calls)) →
      WhilePrinting o bytes (λ placed answers. Broken printer.meaning printer.old printer.new x (laid placed answers)) → PutsPrefix o bytes Put
  failed_puts x puts h = while_printing h (λ placed answers b. prefix (laid placed answers) b)
    where
      prefix : (l : List Call) → Broken printer.meaning printer.old printer.new x l → IsPut (IsPrefixText l)
      prefix l b = (
        text_of b.calls,
        record {
          calls = b.calls;
          rest = atoms (b.call ∷ []) ++ b.rest;
          alike = broken_alike printer.meaning printer.old printer.new x l b;
          unclaimed = none_claimed printer.meaning never printer.old b.before b.calls b.run;
          is = refl;
        },
        puts l b,
      )

  -- If an allocation failed between two calls, a prefix of the text was put.
  pub stopped_puts : PutsRuns → WhilePrinting o bytes (λ placed answers. Interrupted printer.meaning printer.old printer.new (laid placed answers)) →
      PutsPrefix o bytes Put
  stopped_puts puts h = while_printing h (λ placed answers b. prefix (laid placed answers) b)
    where
      prefix : (l : List Call) → Interrupted printer.meaning printer.old printer.new l → IsPut (IsPrefixText l)
      prefix l b = (
        text_of b.calls,
        record {
          calls = b.calls;
          rest = b.rest;
          alike = b.alike;
          unclaimed = none_claimed printer.meaning never printer.old printer.new b.calls b.run;
          is = refl;
        },
        puts b.calls b.run,
      )

  -- If a `dylink.0` section was refused, the text before it was put.
  pub refused_puts : (id : ℕ) → PutsRuns → WhilePrinting o bytes (MadeUpTo printer id (with_color o false)) → PutsTextBefore id o bytes Put
  refused_puts id puts h = while_printing h before
    where
      before : (placed : PlacedModule) (answers : Answers) → MadeUpTo printer id (with_color o false) placed answers →
          IsPut (IsTextBefore id (with_color o false) placed answers)
      before placed answers u = (
        text_of (laid placed answers),
        record {
          ends = u.ends;
          unclaimed = alike_unclaimed u.made.calls (laid placed answers) u.made.alike
              (none_claimed printer.meaning never printer.old printer.new u.made.calls u.made.run);
          is = refl;
        },
        subst Put (alike_texts u.made.calls (laid placed answers) u.made.alike) (puts u.made.calls u.made.run),
      )
