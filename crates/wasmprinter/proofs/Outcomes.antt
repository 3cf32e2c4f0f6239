-- The result of a printing function, from the promises of the decoder and of the code that writes modules.
use Rattle.std.specs.Prelude.{◌≡◌, ℕ, List, ◌∷◌, ◌++◌, Bool, true, false, bytes_eq, Some, Result, Ok, Err, IfErr, IsErrAnd, OnOk, ◌↔◌, refl}
use Rattle.std.proofs.Common.{sym, ap, ◌∙◌, subst, inl, inr, true≢false}
use Rattle.std.proofs.lemmas.Slice.Eq.{bytes_eq-Decides}
use Rattle.wasmprinter_spec.specs.Choices.{tested}
use Rattle.wasmprinter_spec.specs.Binary.{Spells, IsComponent, magic, preamble_bytes}
use Rattle.wasmprinter_spec.specs.Placed.{PlacedModule}
use Rattle.wasmprinter_spec.specs.Limits.{IsWithinLimits}
use Rattle.wasmprinter_spec.specs.Options.{Options, Answers, with_color}
use Rattle.wasmprinter_spec.specs.Names.{Names}
use Rattle.wasmprinter_spec.specs.Piece.{all_calls}
use Rattle.wasmprinter_spec.specs.Layout.{module_pieces, layout, refusal}
use Rattle.wasmprinter_spec.specs.Layout.Customs.{Laid}
use Rattle.wasmprinter_print.specs.Change.{Change}
use Rattle.wasmprinter_print.specs.MadeCalls.{MadeCalls, Broken, Interrupted, Ending, Through, AtCall, Stopped, Never, when_out_of_memory}
use Rattle.wasmprinter_bytes.specs.declared.library_error.Error.{Error}
use Rattle.wasmprinter_bytes.specs.declared.library_error.Error.TheVariants.{Malformed, Component, TooManyLocals, TooManyFunctions, EmptyTableInit, FoldLegacy, FoldHint, DylinkSubsection, Printer, Memory}
use Rattle.std.specs.declared.io.Error.{Error as IoError}
use Rattle.wasmprinter_decoder.specs.Decoding.{HasDecodingReason}
use Rattle.wasmprinter_module_text.specs.Endings.{PrintsLaid}
use Rattle.wasmprinter_module_text.specs.Sections.{module_laid}
use Rattle.wasmprinter_spec.specs.Call.{Call}
use Rattle.wasmprinter_spec.specs.Folding.Refusals.{IsFoldable}
use Rattle.wasmprinter_fold.specs.Refused.{HasFoldReason}
use Rattle.wasmprinter.specs.Decoded.{Decoded}
use Rattle.wasmprinter.specs.Printed.{Printed}
use Rattle.wasmprinter.specs.Outcome.{HasListedCause, HasListedTextCause, IsSoundRefusal, IsSoundTextRefusal, IsPrintRefusal, IsTextRefusal, IsLegacyAt, IsMisplacedAt, AnyIsRefused, MadeUpTo, Leaves, without_printer}
use Rattle.wasmprinter_spec.specs.Names.Content.{name_of}
use Rattle.wasmprinter_spec.specs.ModuleNames.{name_entries, module_names}
use Rattle.wasmprinter_custom.specs.Views.{NamedItem, name_at}
use Rattle.wasmprinter_flat.specs.OpenLabels.LabelState.{LabelState, names_of}
use Rattle.wasmprinter.proofs.Headline.{printed}
use Rattle.wasmprinter.proofs.Named.{shown_names, same_module}
use Rattle.wasmprinter.proofs.Subsections.{refusal_unknown, made_refused}
use Rattle.wasmprinter.proofs.Texts.{ClaimsNone, first_unclaimed}

-- The decoder's result for bytes that encode a module within the limits.
abbrev pub decoded_as : {bytes : List ℕ} (placed : PlacedModule) → Spells bytes placed × IsWithinLimits placed → Decoded bytes
decoded_as placed h = record { placed = placed; spelled = h.0; within = h.1 }

-- Bytes that encode a module are not marked as a component.
not_component : (bytes : List ℕ) (placed : PlacedModule) → Spells bytes placed → IsComponent bytes → ⊥
not_component bytes placed s c =
    let head = s.spelled.2 in
    let pre = head.3 in
    let same : bytes_eq pre.0 preamble_bytes ≡ true = (tested (bytes_eq pre.0 preamble_bytes) (Some pre.0) s.spelled.0.0 pre.1).0 in
    let is : pre.0 ≡ preamble_bytes = (bytes_eq-Decides pre.0 preamble_bytes).0 same in
    let begins : bytes ≡ preamble_bytes ++ head.1 = head.2 ∙ ap (λ t. t ++ head.1) (sym pre.2.1 ∙ is) in
    let both : preamble_bytes ++ head.1 ≡ magic ++ (c.0 ∷ c.1 ∷ 0x01 ∷ 0x00 ∷ c.2) = sym begins ∙ c.3 in
    absurd cc

-- Each error of the decoder has its cause.
pub refusal_cause : {P : Type 0} (printer : Change P) (o : Options) (bytes : List ℕ) (e : Error) → HasDecodingReason bytes e → HasListedCause printer o bytes e
refusal_cause printer o bytes (Malformed place) h = λ placed s. h.0 placed s
refusal_cause printer o bytes Component h = λ placed s. not_component bytes placed s h
refusal_cause printer o bytes (TooManyLocals place) h = λ placed s. h.1 placed s
refusal_cause printer o bytes (TooManyFunctions count) h = λ placed s. (h.2 placed s, h.1)
refusal_cause printer o bytes (EmptyTableInit place) h = λ placed s. h.1 placed s
refusal_cause printer o bytes Memory h = λ placed s. inl (h.1 placed s)
refusal_cause printer o bytes _ h = absurd h

-- Each error of the decoder is true of the bytes.
refusal_true : (o : Options) (bytes : List ℕ) (e : Error) → HasDecodingReason bytes e → IsSoundRefusal o bytes e
refusal_true o bytes (Printer x) h = absurd h
refusal_true o bytes (DylinkSubsection id) h = absurd h
refusal_true o bytes (FoldLegacy place) h = absurd h
refusal_true o bytes (FoldHint place) h = absurd h
refusal_true o bytes Memory h = inl h
refusal_true o bytes _ h = h

-- Each error of the decoder is a refusal of printing.
pub print_refusal : {P : Type 0} (printer : Change P) (o : Options) (bytes : List ℕ) (e : Error) → HasDecodingReason bytes e → IsPrintRefusal printer o bytes e
print_refusal printer o bytes e h = record { true_of = refusal_true o bytes e h; caused = refusal_cause printer o bytes e h }

-- Each error of the decoder leaves the printer unchanged.
pub refusal_left : {P : Type 0} (printer : Change P) (colors : Bool) (o : Options) (bytes : List ℕ) (e : Error) → printer.new ≡ printer.old → HasDecodingReason bytes e →
    Leaves printer colors o bytes e
refusal_left printer colors o bytes (Malformed place) same h = same
refusal_left printer colors o bytes Component same h = same
refusal_left printer colors o bytes (TooManyLocals place) same h = same
refusal_left printer colors o bytes (TooManyFunctions count) same h = same
refusal_left printer colors o bytes (EmptyTableInit place) same h = same
refusal_left printer colors o bytes Memory same h = inl same
refusal_left printer colors o bytes _ same h = absurd h

-- ---- Modules that can't be folded

module _ {P : Type 0} (printer : Change P) (o : Options) {bytes : List ℕ} (d : Decoded bytes) (folds : o.folds ≡ true) where
  -- Each error of folding has its cause.
  fold_cause : (e : Error) → HasFoldReason o d.placed e → HasListedCause printer o bytes e
  fold_cause (FoldLegacy place) h = λ other s. subst (λ (n : PlacedModule). IsLegacyAt o n place) (same_module d other s) (folds, h)
  fold_cause (FoldHint place) h = λ other s. subst (λ (n : PlacedModule). IsMisplacedAt o n place) (same_module d other s) (folds, h)
  fold_cause _ h = absurd h

  -- Each error of folding is true of the bytes.
  fold_true : (e : Error) → HasFoldReason o d.placed e → IsSoundRefusal o bytes e
  fold_true (FoldLegacy place) h = (d, (folds, h))
  fold_true (FoldHint place) h = (d, (folds, h))
  fold_true _ h = absurd h

  -- Each error of folding is a refusal of printing.
  pub fold_refusal : (e : Error) → HasFoldReason o d.placed e → IsPrintRefusal printer o bytes e
  fold_refusal e h = record { true_of = fold_true e h; caused = fold_cause e h }

  -- Each error of folding leaves the printer unchanged.
  pub fold_left : (colors : Bool) (e : Error) → printer.new ≡ printer.old → HasFoldReason o d.placed e → Leaves printer colors o bytes e
  fold_left colors (FoldLegacy place) same h = same
  fold_left colors (FoldHint place) same h = same
  fold_left colors _ same h = absurd h

-- If folding is off, the module counts as foldable.
pub flat_foldable : (o : Options) (m : PlacedModule) → o.folds ≡ false → IsFoldable o m
flat_foldable o m e = record { legacy = λ h. absurd (true≢false (sym h ∙ e)); hints = λ h. absurd (true≢false (sym h ∙ e)) }

-- If a result forwards an error, a property of that error holds for the result.
pub handed_on : (Q : Error → Type 0) (r : Result (Unit {0}) Error) (e : Error) → IsErrAnd r (λ y. y ≡ e) → Q e → IfErr r Q
handed_on Q (Ok x) e f h = tt
handed_on Q (Err y) e f h = subst Q (sym f) h

-- The layout of a module with the names of its own sections.
abbrev pub own_laid : Options → Answers → PlacedModule → Laid
own_laid o answers m = record { pieces = module_pieces o answers m; refused = refusal o answers m }

module _ (o : Options) (answers : Answers) (m : PlacedModule) where
  by_names : (n : Names) → n ≡ module_names o.synthesizes m → module_laid o answers n m ≡ own_laid o answers m
  unfolding module_pieces
  by_names n e = ap (λ (x : Names). module_laid o answers x m) e

  pub own_layout : (s : LabelState) (items : List NamedItem) → s.item_names ≡ items → s.synthesizes ≡ o.synthesizes →
      ((t outer index : ℕ) → name_at items t outer index ≡ name_of (name_entries m.customs) t outer index) → module_laid o answers (names_of s) m ≡ own_laid o answers m
  own_layout s items same synthesizes given = by_names (names_of s) (shown_names o m s items same synthesizes given)

module _ {P : Type 0} (printer : Change P) (colors : Bool) (o : Options) {bytes : List ℕ} (d : Decoded bytes) (foldable : IsFoldable o d.placed) (answers : Answers) where
  abbrev by : Options
  by = with_color o colors

  -- These calls were made, up to how printing ended.
  abbrev AreMade : Ending → List Call → Type 0
  AreMade r calls = MadeCalls printer.meaning printer.old printer.new r calls

  -- The calls of the module's pieces are those of its layout.
  made : (r : Ending) → AreMade r (all_calls by (module_pieces by answers d.placed)) → AreMade r (layout by answers d.placed)
  unfolding layout
  made r v = v

  -- The result of printing, with the calls that were made.
  abbrev AsLaid : Result (Unit {0}) Error → Type 0
  AsLaid r = PrintsLaid printer by r (own_laid by answers d.placed)

  -- A module that was written with the names of its sections was printed as its own layout says.
  pub own_ended : (r : Result (Unit {0}) Error) (s : LabelState) (items : List NamedItem) → s.item_names ≡ items → s.synthesizes ≡ o.synthesizes →
      ((t outer index : ℕ) → name_at items t outer index ≡ name_of (name_entries d.placed.customs) t outer index) →
      PrintsLaid printer by r (module_laid by answers (names_of s) d.placed) → AsLaid r
  own_ended r s items same synthesizes given v =
      subst (λ (l : Laid). PrintsLaid printer by r l) (own_layout by answers d.placed s items same synthesizes given) v

  never : AreMade Never (all_calls by (module_pieces by answers d.placed)) → ⊥
  never v = v.made

  -- A property holds for every error of printing if it holds after a failed call, after a refused section and
  -- after a failed allocation. An allocation can fail only during folding.
  module _ (r : Result (Unit {0}) Error) where
    with_folds : (Q : Error → Type 0) → ((x : IoError) → Broken printer.meaning printer.old printer.new x (layout by answers d.placed) → Q (Printer x)) →
        ((id : ℕ) → MadeUpTo printer id by d.placed answers → Q (DylinkSubsection id)) →
        (o.folds ≡ true → Interrupted printer.meaning printer.old printer.new (layout by answers d.placed) → Q Memory) → AsLaid r → IfErr r Q
    with_folds Q failed refused stopped v = by_result r v
      where
        by_growth : (b : Bool) → o.folds ≡ b → AreMade (when_out_of_memory b) (all_calls by (module_pieces by answers d.placed)) → Q Memory
        by_growth true k v = stopped k (made Stopped v).made
        by_growth false k v = absurd (never v)

        by_error : (e : Error) → AsLaid (Err e) → Q e
        by_error Memory v = by_growth o.folds refl v.made
        by_error (DylinkSubsection id) v = refused id (record { ends = v.refused; made = (made Through v.made).made })
        by_error (Printer x) v = failed x (made (AtCall x) v.made).made
        by_error _ v = absurd (never v.made)

        by_result : (r : Result (Unit {0}) Error) → AsLaid r → IfErr r Q
        by_result (Ok x) v = tt
        by_result (Err e) v = by_error e v

    -- Each error of printing is true of the bytes, and has its cause: a failed call, a refused section, or a failed
    -- allocation.
    pub ended_refusal : AsLaid r → IfErr r (IsPrintRefusal printer o bytes)
    ended_refusal v =
        with_folds (IsPrintRefusal printer o bytes)
        (λ x b. record {
          true_of = d;
          caused = λ other s. record { calls = b.calls; before = b.before; run = b.run; call = b.call; failed = b.failed };
        })
        (λ id u. record {
          true_of = (d, refusal_unknown by answers d.placed id u.ends);
          caused = λ other s. subst (λ (n : PlacedModule). AnyIsRefused printer id n.customs) (same_module d other s) (made_refused printer by id answers d.placed u);
        })
        (λ folds b. record { true_of = inr (folds, d); caused = λ other s. inr folds }) v

    -- After an error of printing, the calls that were made are those up to the error.
    pub ended_left : AsLaid r → IfErr r (Leaves printer colors o bytes)
    ended_left v =
        with_folds (Leaves printer colors o bytes) (λ x b. record { decoded = d; foldable = foldable; answers = answers; left = b })
        (λ id u. record { decoded = d; foldable = foldable; answers = answers; left = u })
        (λ folds b. inr (folds, record { decoded = d; foldable = foldable; answers = answers; left = b })) v

  -- If writing succeeds, the module was printed.
  pub ended_printed : (r : Result (Unit {0}) Error) → AsLaid r → OnOk r (Printed printer colors o bytes)
  ended_printed (Ok x) v = printed printer colors o d answers foldable v.refused (made Through v.made).made
  ended_printed (Err e) v = tt

  -- Printing does not return `Component`.
  not_marked : (r : Result (Unit {0}) Error) → AsLaid r → r ≡ Err Component → ⊥
  not_marked r v e = never (subst (λ (q : Result (Unit {0}) Error). AsLaid q) e v).made

  pub ended_unmarked : (r : Result (Unit {0}) Error) → AsLaid r → (r ≡ Err Component) ↔ IsComponent bytes
  ended_unmarked r v = (λ e. absurd (not_marked r v e), λ c. absurd (not_component bytes d.placed d.spelled c))

-- If a module can't be folded, the error is not `Component`, and the bytes are not marked as a component.
pub fold_unmarked : (o : Options) {bytes : List ℕ} (d : Decoded bytes) (r : Result (Unit {0}) Error) (e : Error) → HasFoldReason o d.placed e →
    IsErrAnd r (λ y. y ≡ e) → (r ≡ Err Component) ↔ IsComponent bytes
fold_unmarked o {bytes} d r e h f = (λ q. absurd (unmarked r e h f q), λ c. absurd (not_component bytes d.placed d.spelled c))
  where
    no_reason : (e : Error) → e ≡ Component → HasFoldReason o d.placed e → ⊥
    no_reason e q h = subst (HasFoldReason o d.placed) q h

    unmarked : (r : Result (Unit {0}) Error) (e : Error) → HasFoldReason o d.placed e → IsErrAnd r (λ y. y ≡ e) → r ≡ Err Component → ⊥
    unmarked (Ok x) e h f q = absurd f
    unmarked (Err y) e h f q = let same : y ≡ Component = cc in no_reason e (sym f ∙ same) h

-- If a printer never claims a section and fails only because of failed allocations, the error that is returned for its
-- error has its cause.
growth_cause : {P : Type 0} (printer : Change P) (colors : Bool) (o : Options) → ClaimsNone printer.meaning → (bytes : List ℕ) (e : Error) →
    Leaves printer colors o bytes e → HasListedCause printer o bytes e → HasListedTextCause o bytes (without_printer e)
growth_cause printer colors o never bytes (Printer x) l h = λ placed s. tt
growth_cause printer colors o never bytes Memory l h = λ placed s. tt
growth_cause printer colors o never bytes (DylinkSubsection id) l h = first_unclaimed printer colors o never bytes id l
growth_cause printer colors o never bytes _ l h = h

-- That error is true of the bytes.
growth_true : (o : Options) (bytes : List ℕ) (e : Error) → IsSoundRefusal o bytes e → IsSoundTextRefusal o bytes (without_printer e)
growth_true o bytes (Printer x) h = inr h
growth_true o bytes Memory (inl h) = inl h
growth_true o bytes Memory (inr h) = inr h.1
growth_true o bytes _ h = h

-- That error is a refusal of printing to memory.
pub text_refusal : {P : Type 0} {printer : Change P} (colors : Bool) {o : Options} {bytes : List ℕ} {e : Error} → IsPrintRefusal printer o bytes e →
    ClaimsNone printer.meaning → Leaves printer colors o bytes e → IsTextRefusal o bytes (without_printer e)
text_refusal {printer = printer} colors {o} {bytes} {e} h never l = record {
  true_of = growth_true o bytes e h.true_of;
  caused = growth_cause printer colors o never bytes e l h.caused;
}
