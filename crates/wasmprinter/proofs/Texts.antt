-- The text that a printer in memory receives.
use Rattle.std.specs.Prelude.{◌≡◌, ℕ, List, [], ◌∷◌, ◌++◌, Bool, false, None, Result, Ok, Err, IfOk, refl}
use Rattle.std.specs.List.{AllByRecursion}
use Rattle.wasmprinter_bytes.specs.declared.library_error.Error.{Error}
use Rattle.std.proofs.Common.{sym, ap, subst, ◌∙◌, inl}
use Rattle.wasmprinter_spec.specs.Call.{Call, IsUnclaimed, atoms, text_of}
use Rattle.wasmprinter_spec.specs.Meaning.{Meaning, Run}
use Rattle.wasmprinter_spec.specs.Options.{Options, defaults, IsBlank, with_color}
use Rattle.wasmprinter_spec.specs.Plain.{IsPlainText}
use Rattle.wasmprinter_spec.specs.Binary.{Spells}
use Rattle.wasmprinter_spec.specs.Placed.{PlacedModule}
use Rattle.wasmprinter_spec.specs.Layout.{layout, refusal}
use Rattle.wasmprinter_spec.specs.Folding.Refusals.{IsFoldable}
use Rattle.wasmprinter_spec.proofs.Texts.{alike_texts}
use Rattle.wasmprinter_laws.proofs.Main.{reads_back, prints_plain_text}
use Rattle.wasmprinter_spec.specs.Read.{read}
use Rattle.wasmprinter_laws.proofs.Hints.Kept.{hints_stay}
use Rattle.wasmprinter_spec.specs.Text.Hints.{text_hints}
use Rattle.wasmprinter_print.specs.Change.{Change, change}
use Rattle.wasmprinter_print.specs.TextOnly.{text_only}
use Rattle.wasmprinter_print.proofs.TextRuns.{takes_none, text_is_gained}
use Rattle.wasmprinter.specs.Decoded.{Decoded}
use Rattle.wasmprinter.specs.Plain.{appends}
use Rattle.wasmprinter.specs.Outcome.{FirstIsUnknown, MadeUpTo, WhilePrinting}
use Rattle.wasmprinter.specs.Printed.{Printed, IsTextOf, HasText, no_claims}
use Rattle.wasmprinter.proofs.Claims.{IsSame, alike_unclaimed, unclaimed_layout}
use Rattle.wasmprinter.proofs.FirstUnknown.{first_refused}
use Rattle.wasmprinter.proofs.Headline.{foldable_in}
use Rattle.wasmprinter.proofs.Named.{same_module}

-- A printer with this meaning claims no custom section.
abbrev pub ClaimsNone : {P : Type 0} → Meaning P → Type 0
ClaimsNone {P} m = (s : P) (c : Call) (t : P) → m.after s c t → IsUnclaimed c

-- Such a printer has claimed no section in any run of calls.
pub none_claimed : {P : Type 0} (m : Meaning P) → ClaimsNone m → (old new : P) (calls : List Call) → Run m old calls new → AllByRecursion IsUnclaimed calls
none_claimed m never old new [] r = tt
none_claimed m never old new (c ∷ calls) r = (never old c r.0 r.1.step, none_claimed m never r.0 new calls r.2)

-- If a module was printed to such a printer, its layout is the one without claims.
pub unclaimed_printed : {P : Type 0} {printer : Change P} {colors : Bool} {o : Options} {bytes : List ℕ} (v : Printed printer colors o bytes) → ClaimsNone printer.meaning →
    IsSame (with_color o colors) v.answers v.decoded.placed
unclaimed_printed {printer = printer} {colors = colors} {o = o} v never =
    let by : Options = with_color o colors in
    unclaimed_layout by v.answers v.decoded.placed
    (alike_unclaimed v.calls (layout by v.answers v.decoded.placed) v.alike (none_claimed printer.meaning never printer.old printer.new v.calls v.run))

-- If printing to such a printer ended at a refused section, that is the first section of the module that is refused for
-- an unknown subsection.
pub first_unclaimed : {P : Type 0} (printer : Change P) (colors : Bool) (o : Options) → ClaimsNone printer.meaning → (bytes : List ℕ) (id : ℕ) →
    WhilePrinting o bytes (MadeUpTo printer id (with_color o colors)) → (placed : PlacedModule) → Spells bytes placed → FirstIsUnknown id placed.customs
first_unclaimed printer colors o never bytes id h placed s =
    let by : Options = with_color o colors in
    let own : PlacedModule = h.decoded.placed in
    let calls : List Call = h.left.made.calls in
    let same : IsSame by h.answers own =
    unclaimed_layout by h.answers own
    (alike_unclaimed calls (layout by h.answers own) h.left.made.alike (none_claimed printer.meaning never printer.old printer.new calls h.left.made.run)) in
    subst (λ (n : PlacedModule). FirstIsUnknown id n.customs) (same_module h.decoded placed s)
    (first_refused by bytes own id h.decoded.spelled (sym same.refusal ∙ h.left.ends))

-- The calls are those of the layout without colors, however text is split. No section of it is claimed or refused.
pub record IsPlainly (o : Options) (calls : List Call) (placed : PlacedModule) : Type 0 where
  pub accepted : refusal (with_color o false) no_claims placed ≡ None
  pub alike : atoms calls ≡ atoms (layout (with_color o false) no_claims placed)

-- If a module was printed to a printer that claims no section and can't write colors, its calls are those of the
-- layout without colors and without claims.
pub plainly_printed : {P : Type 0} {printer : Change P} {o : Options} {bytes : List ℕ} (v : Printed printer false o bytes) → ClaimsNone printer.meaning →
    IsPlainly o v.calls v.decoded.placed
plainly_printed {o = o} v never =
    let own : IsSame (with_color o false) v.answers v.decoded.placed = unclaimed_printed v never in
    record { accepted = sym own.refusal ∙ v.accepted; alike = v.alike ∙ ap atoms own.layout }

-- The text of the layout without claims is that of the module.
abbrev pub module_text : (o : Options) {bytes : List ℕ} (d : Decoded bytes) → IsFoldable o d.placed → refusal (with_color o false) no_claims d.placed ≡ None →
    (text : List ℕ) → text ≡ text_of (layout (with_color o false) no_claims d.placed) → IsTextOf o bytes text
module_text o {bytes} d foldable accepted text is =
    let by : Options = with_color o false in
    let placed : PlacedModule = d.placed in
    let can_fold : IsFoldable by placed = foldable_in o false placed foldable in
    record {
      decoded = d;
      foldable = foldable;
      accepted = accepted;
      is = is;
      plain = λ spaces. subst IsPlainText (sym is) (prints_plain_text bytes placed by no_claims d.spelled refl spaces);
      reads = λ indexed whole spaces.
          ap read is ∙ reads_back bytes placed by no_claims d.spelled indexed d.within.tables whole refl spaces (λ n. refl) can_fold accepted;
      hints = λ hs whole spaces given. ap text_hints is ∙ hints_stay bytes placed by no_claims hs d.spelled whole refl spaces can_fold accepted given;
    }

-- If a module was printed to an empty text in memory, the result is the module's text.
pub printed_text : (o : Options) (bytes old new : List ℕ) → old ≡ [] → Printed (change (text_only appends) old new) false o bytes → IsTextOf o bytes new
printed_text o bytes old new empty v =
    let received : new ≡ text_of v.calls =
    text_is_gained (λ text. text) appends (λ a piece b h. h) old v.calls new v.run ∙ ap (λ t. t ++ text_of v.calls) empty in
    let own : IsPlainly o v.calls v.decoded.placed = plainly_printed v (takes_none appends) in
    module_text o v.decoded v.foldable own.accepted new (received ∙ alike_texts v.calls (layout (with_color o false) no_claims v.decoded.placed) own.alike)

two_spaces : IsBlank defaults.indent
two_spaces = (inl refl, (inl refl, tt))

-- The same with the default options.
pub default_text : (bytes text : List ℕ) → IsTextOf defaults bytes text → HasText bytes text
default_text bytes text v = record {
  decoded = v.decoded;
  accepted = v.accepted;
  is = v.is;
  plain = v.plain two_spaces;
  reads = λ indexed. v.reads indexed refl two_spaces;
  hints = λ hs given. v.hints hs refl two_spaces given;
}

pub default_if_ok : {T : Type 0} (view : T → List ℕ) (bytes : List ℕ) (r : Result T Error) → IfOk r (λ t. IsTextOf defaults bytes (view t)) → IfOk r (λ t. HasText bytes (view t))
default_if_ok view bytes (Ok t) h = default_text bytes (view t) h
default_if_ok view bytes (Err e) h = tt
