-- No hint section was found so far: there is one among the rest, or there is none.
use Rattle.std.proofs.Common.{◌≡◌, drop, codes, None}
use Rattle.std.specs.Prelude.{is_some}
use Rattle.wasmprinter_spec.specs.Customs.Hints.{last_named}
use Rattle.wasmprinter_fold.proofs.fold_refusals.hint_checks.has_hints.Given as goal

abbrev pub invariant-loop-entry : goal.invariant-loop-entry
invariant-loop-entry l =
    is_some (last_named (codes "metadata.code.branch_hint") None (drop l.entry-index l.fn.customs))
    ≡ is_some (last_named (codes "metadata.code.branch_hint") None l.fn.customs)
