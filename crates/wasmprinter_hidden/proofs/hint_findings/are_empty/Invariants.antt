-- The functions up to the index have no hints: there are none if there are none among the rest.
use Rattle.std.proofs.Common.{◌≡◌, drop}
use Rattle.wasmprinter_hidden.specs.HiddenData.{is_empty}
use Rattle.wasmprinter_hidden.specs.HiddenHints.{hints_in}
use Rattle.wasmprinter_hidden.proofs.hint_findings.are_empty.Given as goal

abbrev pub invariant-loop-entry : goal.invariant-loop-entry
invariant-loop-entry l = is_empty (hints_in (drop l.entry-index l.fn.entries)) ≡ is_empty (hints_in l.fn.entries)
