-- The parts of a module are its layout, and how printing it ends.
use Rattle.std.specs.Prelude.{◌≡◌, ℕ, List, [], ◌∷◌, ◌++◌, ◌||◌, Bool, codes, true, Option, Some, None, Result, Ok, Err, IsErrAnd, refl}
use Rattle.std.proofs.Common.{sym, ap, ◌∙◌, subst, append_assoc}
use Rattle.wasmprinter_bytes.specs.declared.library_error.Error.{Error}
use Rattle.wasmprinter_bytes.specs.declared.library_error.Error.TheVariants.{Memory}
use Rattle.wasmprinter_spec.specs.Call.{atoms}
use Rattle.wasmprinter_spec.specs.Meaning.{Meaning}
use Rattle.wasmprinter_spec.specs.Names.{Names}
use Rattle.wasmprinter_spec.specs.Placed.{PlacedModule}
use Rattle.wasmprinter_spec.specs.Options.{Options, Answers}
use Rattle.wasmprinter_spec.specs.Piece.{Piece, Begin, EndLine, Open, all_calls}
use Rattle.wasmprinter_spec.specs.Layout.{module_parts, module_pieces_of, module_pieces_with}
use Rattle.wasmprinter_spec.specs.Layout.Groups.{close, has_break, group_at}
use Rattle.wasmprinter_spec.specs.Layout.Identifiers.{leading_id_and_name_pieces}
use Rattle.wasmprinter_spec.specs.Layout.Customs.{Part, Shown, Laid, before_laid, laid_parts}
use Rattle.wasmprinter_print.specs.Change.{Change, change}
use Rattle.wasmprinter_print.specs.MadeCalls.{MadeCalls, when_out_of_memory}
use Rattle.wasmprinter_print.specs.Effects.{state, EffectEnds, HasEffect, of_parts}
use Rattle.wasmprinter_print.specs.declared.halt.Halt.{Halt}
use Rattle.wasmprinter_print.specs.declared.halt.Halt.TheVariants as halt
use Rattle.wasmprinter_print.specs.Errors.{result_of}
use Rattle.wasmprinter_print.specs.EffectLaws.{effect_between}
use Rattle.wasmprinter_module_text.specs.Endings.{PrintsLaid}
use Rattle.wasmprinter_module_text.specs.Sections.{module_laid, inner_parts, last_parts, whole_parts}
use Rattle.wasmprinter_module_text.proofs.Joined.{laid_after, joined-append}

module _ (o : Options) (names : Names) (size : ℕ) where
  -- The layout of a module equals that of all its parts, whether a part ends it or not.
  either_laid : (ps : List Piece) (refused : Option ℕ) →
      let inner : List Piece = leading_id_and_name_pieces names.module_name ++ ps in
      record { pieces = module_pieces_of o names size ps refused; refused = refused }
      ≡ before_laid (Begin 0 ∷ []) (before_laid (Open (codes "module") ∷ [])
      (laid_after inner refused (record { pieces = close (Some size) 0 (o.offsets || has_break inner) ++ (EndLine ∷ []); refused = None })))
  unfolding group_at
  either_laid ps None =
      let inner : List Piece = leading_id_and_name_pieces names.module_name ++ ps in
      let last : List Piece = close (Some size) 0 (o.offsets || has_break inner) in
      ap (λ (xs : List Piece). record { pieces = Begin 0 ∷ (Open (codes "module") ∷ xs); refused = None }) (append_assoc inner last (EndLine ∷ []))
  either_laid ps (Some id) = refl

pub module-whole : (o : Options) (answers : Answers) (names : Names) (m : PlacedModule) → laid_parts (whole_parts o answers names m) ≡ module_laid o answers names m
unfolding module_pieces_with
module-whole o answers names m =
    let laid : Laid = laid_parts (module_parts o answers names m) in
    let inner : List Part = inner_parts o answers names m in
    let last : List Part = last_parts o answers names m in
    let end : List Part = Shown (EndLine ∷ []) ∷ [] in
    ap (λ (l : Laid). before_laid (Begin 0 ∷ []) (before_laid (Open (codes "module") ∷ []) l))
    (ap laid_parts (append_assoc inner last end) ∙ joined-append inner (last ++ end)) ∙ sym (either_laid o names m.size laid.pieces laid.refused)

-- ---- The result of printing a module

module _ {P : Type 0} (printer : Change P) (o : Options) (b c : Bool) (ps : List Part) where
  pub ended_laid : (z : Option Halt) → EffectEnds printer.meaning o.folds (state printer.old None b) printer.new z c (of_parts o ps) →
      PrintsLaid printer o (result_of z) (laid_parts ps)
  ended_laid None v = record { made = record { made = v.0 }; refused = v.2 }
  ended_laid (Some (halt.Printer e)) v = record { made = record { made = v }; refused = tt }
  ended_laid (Some halt.Memory) v = record {
    made = subst (λ (f : Bool). MadeCalls printer.meaning printer.old printer.new (when_out_of_memory f) (all_calls o (laid_parts ps).pieces)) (sym v.1) (record { made = v.0 });
    refused = tt;
  }
  ended_laid (Some (halt.Refused id)) v = record { made = record { made = v.0 }; refused = v.1 }

-- The result of printing all parts of a module, from a start without an error.
pub printed : {P : Type 0} (n : Meaning P) (o : Options) {p q old new : P} {y x : Option Halt} (z : Option Halt) {b c : Bool} (answers : Answers)
    (names : Names) (m : PlacedModule) → p ≡ old → y ≡ None → new ≡ q → x ≡ z →
    HasEffect n o (state p y b) (state q x c) (of_parts o (whole_parts o answers names m)) →
    PrintsLaid (change n old new) o (result_of z) (module_laid o answers names m)
printed n o {old = old} {new} z {b} {c} answers names m h f g i v =
    subst (λ (l : Laid). PrintsLaid (change n old new) o (result_of z) l) (module-whole o answers names m)
    (ended_laid (change n old new) o b c (whole_parts o answers names m) z (effect_between n o old new z h f g i v))

-- If an allocation failed before the first call, then the empty prefix of the layout was made.
pub stops_first : {P T : Type 0} (m : Meaning P) (o : Options) (a : P) (r : Result T Error) {e : Error} (l : Laid) → o.folds ≡ true → e ≡ Memory →
    IsErrAnd r (λ y. y ≡ e) → PrintsLaid (change m a a) o r l
stops_first m o a (Ok x) l folds s f = absurd f
stops_first {P} {T} m o a (Err y) l folds s f =
    subst (λ (z : Error). PrintsLaid {T = T} (change m a a) o (Err z) l) (sym (f ∙ s)) (record {
      made = subst (λ (b : Bool). MadeCalls m a a (when_out_of_memory b) (all_calls o l.pieces)) (sym folds)
          (record { made = record { calls = []; rest = atoms (all_calls o l.pieces); run = refl; alike = refl } });
      refused = tt;
    })
