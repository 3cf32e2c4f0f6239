-- The rest of the items have the same first place as all items.
use Rattle.std.specs.Prelude.{◌≡◌, drop}
use Rattle.std.specs.List.{flat_map}
use Rattle.wasmprinter_bytes.specs.declared.library_error.Error.TheVariants.{FoldLegacy}
use Rattle.wasmprinter_spec.specs.Folding.Refusals.{legacy_places_in}
use Rattle.wasmprinter_fold.specs.Refused.{error_of_first}
use Rattle.wasmprinter_fold.proofs.fold_refusals.item_expressions.check_each.Given as goal

abbrev pub invariant-loop-item : goal.invariant-loop-item
invariant-loop-item g l =
    error_of_first FoldLegacy (flat_map legacy_places_in (flat_map (g.T.HasExpressions.lists l.skeleton) (drop l.item-index l.items)))
    ≡ error_of_first FoldLegacy (flat_map legacy_places_in (flat_map (g.T.HasExpressions.lists l.skeleton) l.items))
