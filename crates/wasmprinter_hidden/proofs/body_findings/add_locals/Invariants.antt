-- The groups that the iterator has are left.
use Rattle.wasmprinter_hidden.specs.OpenParts.{lengths_of_groups}
use Rattle.wasmprinter_hidden.specs.declared.finding.Part.TheVariants.{LocalGroup}
use Rattle.wasmprinter_hidden.proofs.OpenParts.{HasLeft}
use Rattle.wasmprinter_hidden.proofs.body_findings.add_locals.Given as goal

abbrev pub invariant-loop-entry : goal.invariant-loop-entry
invariant-loop-entry l =
    HasLeft LocalGroup l.fn.findings l.fn.first (lengths_of_groups l.locals) l.findings l.last (lengths_of_groups l.entry-iterator)
