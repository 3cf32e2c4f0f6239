use Rattle.std.proofs.Common.{◌≡◌}
use Rattle.wasmprinter.specs.Found.{place_at}
use Rattle.wasmprinter.proofs.find_operator_line.operator_place.Given as goal

abbrev pub invariant-loop-place : goal.invariant-loop-place
invariant-loop-place l = place_at l.place-iterator l.left ≡ place_at l.fn.operators l.number
