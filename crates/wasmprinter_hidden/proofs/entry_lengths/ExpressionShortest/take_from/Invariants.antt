use Rattle.std.proofs.Common.{◌≡◌, ◌-◌}
use Rattle.wasmprinter_ops.specs.Operators.{pairs}
use Rattle.wasmprinter_hidden.specs.Lengths.{items_len, operator_len}
use Rattle.wasmprinter_hidden.proofs.entry_lengths.ExpressionShortest.take_from.Given as goal

abbrev pub invariant-loop-operator : goal.invariant-loop-operator
invariant-loop-operator l = record {
  can : (goal.iterator-loop-operator).can_next l.operator-iterator;
  ends : (goal.iterator-loop-operator).is_finite l.operator-iterator;
  left : l.excess.bytes - items_len (λ x. operator_len x.1) (pairs l.operator-iterator)
      ≡ l.initial.excess.bytes - items_len (λ x. operator_len x.1) (pairs l.initial.operator-iterator);
}
