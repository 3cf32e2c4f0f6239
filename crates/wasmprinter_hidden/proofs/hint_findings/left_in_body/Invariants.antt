-- The operators that the iterator has take hints of those that are left.
use Rattle.std.specs.Prelude.{◌≡◌}
use Rattle.wasmprinter_hidden.specs.HiddenHints.{left_in_body}
use Rattle.wasmprinter_hidden.proofs.hint_findings.left_in_body.Given as goal

abbrev pub invariant-loop-place : goal.invariant-loop-place
invariant-loop-place l =
    left_in_body l.body.place l.left l.place-iterator ≡ left_in_body l.body.place l.fn.hints l.body.value.operators
