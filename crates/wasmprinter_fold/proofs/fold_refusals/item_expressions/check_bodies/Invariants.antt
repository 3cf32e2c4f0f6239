-- The rest of the bodies have the same first place as all bodies.
use Rattle.std.specs.Prelude.{◌≡◌, drop, map}
use Rattle.std.specs.List.{flat_map}
use Rattle.wasmprinter_bytes.specs.declared.library_error.Error.TheVariants.{FoldLegacy}
use Rattle.wasmprinter_spec.specs.Folding.Refusals.{legacy_places_in}
use Rattle.wasmprinter_fold.specs.Refused.{error_of_first}
use Rattle.wasmprinter_fold.proofs.fold_refusals.item_expressions.check_bodies.Given as goal

abbrev pub invariant-loop-index : goal.invariant-loop-index
invariant-loop-index l =
    error_of_first FoldLegacy (flat_map legacy_places_in (map (λ f. f.body.value.operators) (drop l.index l.module.functions)))
    ≡ error_of_first FoldLegacy (flat_map legacy_places_in (map (λ f. f.body.value.operators) l.module.functions))
