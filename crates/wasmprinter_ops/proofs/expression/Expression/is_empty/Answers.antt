use Rattle.std.proofs.Common.{◌≡◌, sym, ap, ◌∙◌}
use Rattle.wasmprinter_spec.specs.Grammar.{Placed}
use Rattle.wasmprinter_spec.specs.Operator.{Operator}
use Rattle.wasmprinter_spec.specs.Instructions.{Closed}
use Rattle.wasmprinter_ops.specs.Operators.{operators_in}
use Rattle.wasmprinter_ops.proofs.Walking.{none_left}
use Rattle.wasmprinter_ops.proofs.expression.Expression.is_empty.Goals as goal

pub returns : goal.returns
returns c =
    let n = none_left c.self.inside.operators c.self.invariant.0 in
    let view : operators_in c.self.inside.operators ≡ c.args.self.now.items = ap (λ (e : Closed (Placed Operator)). e.items) c.self.view_is in
    (λ t. sym view ∙ n.0 (c.is_empty.ensures.0 t), λ e. c.is_empty.ensures.1 (n.1 (view ∙ e)))
