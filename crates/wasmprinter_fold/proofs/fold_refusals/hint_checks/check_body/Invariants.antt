-- The rest of the list has the same first place as the whole list.
use Rattle.std.specs.Prelude.{◌≡◌}
use Rattle.wasmprinter_bytes.specs.declared.library_error.Error.TheVariants.{FoldHint}
use Rattle.wasmprinter_spec.specs.Folding.Refusals.{misplaced_hints_in}
use Rattle.wasmprinter_fold.specs.Refused.{error_of_first}
use Rattle.wasmprinter_fold.proofs.fold_refusals.hint_checks.check_body.Given as goal

abbrev pub invariant-loop-place : goal.invariant-loop-place
invariant-loop-place l =
    error_of_first FoldHint (misplaced_hints_in l.body.place l.hints l.place-iterator)
    ≡ error_of_first FoldHint (misplaced_hints_in l.body.place l.fn.hints l.body.value.operators)
