-- The text of a module whose operators are folded reads as its flat text does: both read as the module.
use Rattle.std.proofs.Common.{◌≡◌, ℕ, Bool, true, false, List, [], ◌∷◌, ◌++◌, Option, Some, None, refl, sym, ◌∙◌}
use Rattle.wasmprinter_spec.specs.ModuleNames.{module_names}
use Rattle.wasmprinter_spec.specs.Names.{Names}
use Rattle.wasmprinter_spec.specs.Placed.{PlacedModule}
use Rattle.wasmprinter_spec.specs.Options.{Options, Answers}
use Rattle.wasmprinter_spec.specs.Layout.Customs.{Part, Shown, Stops, laid_parts}
use Rattle.wasmprinter_spec.specs.Layout.Declarations.{Folding, folding_of}
use Rattle.wasmprinter_spec.specs.Layout.{refusal, parts_by}
use Rattle.wasmprinter_spec.specs.Folding.Refusals.{IsFoldable}
use Rattle.wasmprinter_laws.specs.FoldedLaws.{FoldedModulesReadAsFlat}
use Rattle.wasmprinter_laws.proofs.AsAsked.{refused_as_asked}
use Rattle.wasmprinter_laws.proofs.Main.{reads_back}

-- ---- whether a section is refused does not depend on how operators are printed

-- The first refusal in the parts or, if they have none, the given one
abbrev refused_before : Option ℕ → List Part → Option ℕ
refused_before after [] = after
refused_before after (Shown ps ∷ xs) = refused_before after xs
refused_before after (Stops ps id ∷ xs) = Some id

refused-laid : (xs : List Part) → (laid_parts xs).refused ≡ refused_before None xs
refused-laid [] = refl
refused-laid (Shown ps ∷ xs) = refused-laid xs
refused-laid (Stops ps id ∷ xs) = refl

refused-append : (after : Option ℕ) (xs ys : List Part) → refused_before after (xs ++ ys) ≡ refused_before (refused_before after ys) xs
refused-append after [] ys = refl
refused-append after (Shown ps ∷ xs) ys = refused-append after xs ys
refused-append after (Stops ps id ∷ xs) ys = refl

refused-parts : (x y : Option Folding) (o : Options) (folds color : Bool) (answers : Answers) (names : Names) (m : PlacedModule) →
    refused_before None (parts_by x o answers names m) ≡ refused_before None (parts_by y (record o { folds = folds; color = color }) answers names m)
unfolding parts_by
refused-parts x y o folds color answers names m = simp refused-append refl

pub refused-by : (x y : Option Folding) (o : Options) (folds color : Bool) (answers : Answers) (names : Names) (m : PlacedModule) →
    (laid_parts (parts_by x o answers names m)).refused ≡ (laid_parts (parts_by y (record o { folds = folds; color = color }) answers names m)).refused
refused-by x y o folds color answers names m =
    refused-laid (parts_by x o answers names m)
    ∙ refused-parts x y o folds color answers names m
    ∙ sym (refused-laid (parts_by y (record o { folds = folds; color = color }) answers names m))

refusal-folds : (o : Options) (folds : Bool) (answers : Answers) (m : PlacedModule) → refusal o answers m ≡ refusal (record o { folds = folds }) answers m
refusal-folds o folds answers m =
    let p : Options = record o { folds = folds } in
    refused_as_asked o answers m
    ∙ refused-by (folding_of o m) (folding_of p m) o folds o.color answers (module_names o.synthesizes m) m
    ∙ sym (refused_as_asked p answers m)

-- ---- the law

-- For flat text, the premise about folding holds.
pub flat_is_foldable : (o : Options) (m : PlacedModule) → IsFoldable (record o { folds = false }) m
flat_is_foldable o m = record { legacy = λ e. absurd cc; hints = λ e. absurd cc }

pub folded_modules_read_as_flat : FoldedModulesReadAsFlat
folded_modules_read_as_flat bytes m o answers spelled indexed some whole plain spaces unclaimed foldable none =
    let refused : (folds : Bool) → refusal (record o { folds = folds }) answers m ≡ None = λ folds. sym (refusal-folds o folds answers m) ∙ none in
    reads_back bytes m (record o { folds = true }) answers spelled indexed some whole plain spaces unclaimed foldable (refused true)
    ∙ sym (reads_back bytes m (record o { folds = false }) answers spelled indexed some whole plain spaces unclaimed (flat_is_foldable o m) (refused false))
