-- Folded in any way, with or without colors, or flat, the text of a module reads as that module.
use Rattle.std.proofs.Common.{◌≡◌, Bool, true, false, cond, Option, Some, None, refl, sym, ap, ◌∙◌}
use Rattle.wasmprinter_spec.specs.Names.{Names}
use Rattle.wasmprinter_spec.specs.ModuleNames.{module_names}
use Rattle.wasmprinter_spec.specs.Call.{text_of}
use Rattle.wasmprinter_spec.specs.Plain.{IsPlainText}
use Rattle.wasmprinter_spec.specs.Options.{Options}
use Rattle.wasmprinter_spec.specs.Piece.{all_calls}
use Rattle.wasmprinter_spec.specs.Folding.Arities.{signatures_within}
use Rattle.wasmprinter_spec.specs.Layout.Declarations.{Folding, folding_of}
use Rattle.wasmprinter_spec.specs.Layout.Customs.{laid_parts}
use Rattle.wasmprinter_spec.specs.Layout.{refusal, parts_by, pieces_by, layout_folded}
use Rattle.wasmprinter_spec.specs.Read.{read}
use Rattle.wasmprinter_laws.proofs.Ranged.{IsRanged}
use Rattle.wasmprinter_laws.proofs.Ranges.{ranged}
use Rattle.wasmprinter_laws.proofs.Foldable.{can_fold}
use Rattle.wasmprinter_laws.proofs.AsAsked.{layout_as_asked, refused_as_asked}
use Rattle.wasmprinter_laws.proofs.Main.{pieces_are_plain, pieces_read_back, reads_back, prints_plain_text}
use Rattle.wasmprinter_laws.proofs.AsFlat.{refused-by, flat_is_foldable}
use Rattle.wasmprinter_laws.specs.AnyFolding.{FoldsByOwnArities, FoldedAnyhowReadsAsFlat}
use Rattle.wasmprinter_laws.proofs.Colored.Nodes.{folded, bare}
use Rattle.wasmprinter_laws.proofs.Colored.Modules.{without_color, pieces_so}
use Rattle.wasmprinter_laws.proofs.Colored.Texts.{text_so, color_adds_sequences_to}

pub folds_by_own_arities : FoldsByOwnArities
unfolding layout_folded
folds_by_own_arities m o answers asked =
    layout_as_asked o answers m ∙ ap (λ x. all_calls o (pieces_by x o answers (module_names o.synthesizes m) m)) (by o.folds asked)
  where
    own : Option Folding
    own = Some (record { color = o.color; signatures = signatures_within m })

    by : (t : Bool) → t ≡ true → cond t own None ≡ own
    by true e = refl
    by false e = absurd cc

pub folded_anyhow_reads_as_flat : FoldedAnyhowReadsAsFlat
unfolding layout_folded
folded_anyhow_reads_as_flat bytes m o answers folding spelled indexed some whole spaces unclaimed legacy none =
    let h : IsRanged m = ranged bytes m spelled in
    let names : Names = module_names o.synthesizes m in
    let x : Option Folding = Some folding in
    let y : Option Folding = Some (bare folding) in
    let p : Options = without_color o in
    let refused : (laid_parts (parts_by y p answers names m)).refused ≡ None =
    sym (refused_as_asked o answers m ∙ refused-by (folding_of o m) y o o.folds false answers names m) ∙ none in
    let plain : IsPlainText (text_of (all_calls p (pieces_by y p answers names m))) = pieces_are_plain y refl p answers m h spaces in
    let q : Options = record o { folds = false; color = false } in
    let refused_flat : refusal q answers m ≡ None =
    sym (refused_as_asked o answers m ∙ refused-by (folding_of o m) (folding_of q m) o false false answers names m ∙ sym (refused_as_asked q answers m)) ∙ none in (
      ap read (text_so false o (pieces_by x o answers names m) (pieces_by y p answers names m) (pieces_so folded o answers names m) plain)
          ∙ pieces_read_back y refl p answers m h spaces unclaimed whole indexed some (can_fold y m p whole (λ e. legacy)) refused,
      ap read (color_adds_sequences_to m (record o { folds = false }) answers (prints_plain_text bytes m q answers spelled refl spaces))
          ∙ reads_back bytes m q answers spelled indexed some whole refl spaces unclaimed (flat_is_foldable p m) refused_flat,
    )
