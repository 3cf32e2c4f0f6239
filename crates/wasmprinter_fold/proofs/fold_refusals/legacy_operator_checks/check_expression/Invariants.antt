-- The rest of the list has the same first place as the whole list.
use Rattle.std.specs.Prelude.{◌≡◌}
use Rattle.wasmprinter_bytes.specs.declared.library_error.Error.TheVariants.{FoldLegacy}
use Rattle.wasmprinter_spec.specs.Folding.Refusals.{legacy_places_in}
use Rattle.wasmprinter_fold.specs.Refused.{error_of_first}
use Rattle.wasmprinter_fold.proofs.fold_refusals.legacy_operator_checks.check_expression.Given as goal

abbrev pub invariant-loop-place : goal.invariant-loop-place
invariant-loop-place l =
    error_of_first FoldLegacy (legacy_places_in l.place-iterator) ≡ error_of_first FoldLegacy (legacy_places_in l.expression.items)
