use Rattle.wasmprinter_ops.proofs.MadeAgain.{immediates_again}
use Rattle.wasmprinter_ops.proofs.operator.OperatorPartialEq.eq.Goals as goal

pub returns-then-eq : goal.returns-then-eq
returns-then-eq c =
    rw (← c.self.view_is, ← c.other.view_is, immediates_again c.self.inside.immediates c.self.invariant.1, immediates_again c.other.inside.immediates c.other.invariant.1, ← c.if-eq.ensures)
    c.eq-then-eq.ensures
