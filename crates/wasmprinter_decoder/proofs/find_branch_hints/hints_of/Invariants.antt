-- The last hint section is the last among the rest or, if the rest has none, the one that was found.
use Rattle.std.proofs.Common.{◌≡◌, drop, option_copied, option_map, codes, None}
use Rattle.wasmprinter_spec.specs.Customs.Hints.{last_named}
use Rattle.wasmprinter_decoder.proofs.find_branch_hints.hints_of.Given as goal

abbrev pub invariant-loop-entry : goal.invariant-loop-entry
invariant-loop-entry l =
    last_named (codes "metadata.code.branch_hint") (option_map (λ c. c.value) (option_copied l.last)) (drop l.entry-index l.fn.customs)
    ≡ last_named (codes "metadata.code.branch_hint") None l.fn.customs
