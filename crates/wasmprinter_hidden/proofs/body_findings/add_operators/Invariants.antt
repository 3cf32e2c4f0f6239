-- The operators that the iterator has are left.
use Rattle.wasmprinter_hidden.specs.OpenParts.{lengths_of_operators}
use Rattle.wasmprinter_hidden.specs.declared.finding.Part.TheVariants.{Instruction}
use Rattle.wasmprinter_hidden.proofs.OpenParts.{HasLeft}
use Rattle.wasmprinter_hidden.proofs.body_findings.add_operators.Given as goal

abbrev pub invariant-loop-place : goal.invariant-loop-place
invariant-loop-place l =
    HasLeft Instruction l.fn.findings l.fn.first (lengths_of_operators l.body.value.operators) l.findings l.last
    (lengths_of_operators l.place-iterator)
