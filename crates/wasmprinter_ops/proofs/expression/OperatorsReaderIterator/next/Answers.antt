use Rattle.std.proofs.Common.{◌<◌, List, length, rules, sym, ap, ◌∙◌, subst}
use Rattle.wasmprinter_spec.specs.Grammar.{Placed}
use Rattle.wasmprinter_spec.specs.Operator.{Operator}
use Rattle.wasmprinter_ops.specs.Operators.{pairs, operators_in}
use Rattle.wasmprinter_ops.proofs.Walking.{next_operator}
use Rattle.wasmprinter_ops.proofs.expression.OperatorsReaderIterator.next.Goals as goal

pub invariant_of-self : goal.invariant_of-self
invariant_of-self c = (next_operator c.self.inside.cursor c.read_placed.new.cursor c.in-Ok.operator c.if-is_empty.ensures.1 c.self.invariant c.in-Ok.ensures.reads).stands

pub returns-clause-steps : goal.returns-clause-steps
returns-clause-steps c =
    ap pairs (sym c.self.view_is) ∙ (next_operator c.self.inside.cursor c.read_placed.new.cursor c.in-Ok.operator c.if-is_empty.ensures.1 c.self.invariant c.in-Ok.ensures.reads).steps

pub returns-clause-goes : goal.returns-clause-goes
returns-clause-goes c =
    let n = next_operator c.self.inside.cursor c.read_placed.new.cursor c.in-Ok.operator c.if-is_empty.ensures.1 c.self.invariant c.in-Ok.ensures.reads in
    let fewer : length (pairs (operators_in c.read_placed.new.cursor)) < length (pairs c.args.self.now) = subst (λ (xs : List (Placed Operator)). length (pairs (operators_in c.read_placed.new.cursor)) < length (pairs xs)) c.self.view_is n.fewer in
    search rules
