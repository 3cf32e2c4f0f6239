-- No section with branch hints was found so far: there is none if there is none among the rest.
use Rattle.std.proofs.Common.{◌≡◌, drop, codes, None}
use Rattle.std.specs.Prelude.{is_none}
use Rattle.wasmprinter_spec.specs.Customs.Hints.{last_named}
use Rattle.wasmprinter_hidden.proofs.hint_findings.have_no_hints.Given as goal

abbrev pub invariant-loop-entry : goal.invariant-loop-entry
invariant-loop-entry l =
    is_none (last_named (codes "metadata.code.branch_hint") None (drop l.entry-index l.fn.customs))
    ≡ is_none (last_named (codes "metadata.code.branch_hint") None l.fn.customs)
