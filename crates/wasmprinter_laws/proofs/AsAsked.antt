-- If operators are folded as the options say, the layout and the premises are those of operators folded in that way.
use Rattle.std.proofs.Common.{◌≡◌, Bool, true, false, cond, Some, None, refl, ap}
use Rattle.wasmprinter_spec.specs.Placed.{PlacedModule}
use Rattle.wasmprinter_spec.specs.Options.{Options, Answers}
use Rattle.wasmprinter_spec.specs.Names.{Names}
use Rattle.wasmprinter_spec.specs.ModuleNames.{module_names}
use Rattle.wasmprinter_spec.specs.Piece.{all_calls}
use Rattle.wasmprinter_spec.specs.Folding.Arities.{signatures_within}
use Rattle.wasmprinter_spec.specs.Folding.Refusals.{IsFoldable}
use Rattle.wasmprinter_spec.specs.Layout.Declarations.{folding_of}
use Rattle.wasmprinter_spec.specs.Layout.Customs.{laid_parts}
use Rattle.wasmprinter_spec.specs.Layout.{module_parts, module_pieces_with, module_pieces, layout, refusal, parts_by, pieces_by}
use Rattle.wasmprinter_laws.proofs.Folded.Lists.{IsUncolored, is_folding}
use Rattle.wasmprinter_laws.proofs.Foldable.{CanFold, can_fold}

-- ---- the layout

pub pieces_as_asked : (o : Options) (answers : Answers) (names : Names) (m : PlacedModule) → module_pieces_with o answers names m ≡ pieces_by (folding_of o m) o answers names m
unfolding module_pieces_with module_parts pieces_by
pieces_as_asked o answers names m = refl

pub layout_as_asked : (o : Options) (answers : Answers) (m : PlacedModule) → layout o answers m ≡ all_calls o (pieces_by (folding_of o m) o answers (module_names o.synthesizes m) m)
unfolding layout module_pieces
layout_as_asked o answers m = ap (all_calls o) (pieces_as_asked o answers (module_names o.synthesizes m) m)

pub refused_as_asked : (o : Options) (answers : Answers) (m : PlacedModule) → refusal o answers m ≡ (laid_parts (parts_by (folding_of o m) o answers (module_names o.synthesizes m) m)).refused
unfolding module_parts
refused_as_asked o answers m = refl

-- ---- the premises

-- Operators are folded only if the options ask for it.
pub folds_where_asked : (o : Options) (m : PlacedModule) → is_folding (folding_of o m) ≡ true → o.folds ≡ true
folds_where_asked o m = by o.folds
  where
    by : (t : Bool) → is_folding (cond t (Some (record { color = o.color; signatures = signatures_within m })) None) ≡ true → t ≡ true
    by true e = refl
    by false e = absurd cc

pub can_fold_as_asked : (o : Options) (m : PlacedModule) → o.skeleton ≡ false → IsFoldable o m → CanFold (folding_of o m) m
can_fold_as_asked o m whole h = can_fold (folding_of o m) m o whole (λ e. h.legacy (folds_where_asked o m e))

pub uncolored_as_asked : (o : Options) (m : PlacedModule) → o.color ≡ false → IsUncolored (folding_of o m)
uncolored_as_asked o m plain = by o.folds
  where
    by : (t : Bool) → IsUncolored (cond t (Some (record { color = o.color; signatures = signatures_within m })) None)
    by true = plain
    by false = tt
