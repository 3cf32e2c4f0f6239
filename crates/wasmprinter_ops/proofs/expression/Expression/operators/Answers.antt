use Rattle.std.proofs.Common.{arith, ap, length}
use Rattle.wasmprinter_spec.specs.Grammar.{Placed}
use Rattle.wasmprinter_spec.specs.Operator.{Operator}
use Rattle.wasmprinter_spec.specs.Instructions.{Closed}
use Rattle.wasmprinter_ops.proofs.Walking.{few_operators}
use Rattle.wasmprinter_ops.proofs.expression.Expression.operators.Goals as goal

pub returns-clause-few : goal.returns-clause-few
returns-clause-few c =
    let view = ap (λ (e : Closed (Placed Operator)). length e.items) c.self.view_is in
    omega (arith, view, few_operators c.self.inside.operators c.self.invariant.0, c.fork.ensures.fits)
