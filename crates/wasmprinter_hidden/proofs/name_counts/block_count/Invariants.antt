-- The blocks so far, with those that the operators open that are left, are all.
use Rattle.std.proofs.Common.{◌≡◌, ◌+◌, ◌<◌, ◌^◌, length}
use Rattle.wasmprinter_hidden.proofs.NameCounting.{opened_by}
use Rattle.wasmprinter_hidden.proofs.name_counts.block_count.Given as goal

abbrev pub invariant-loop-operator : goal.invariant-loop-operator
invariant-loop-operator l = record {
  can : (goal.iterator-loop-operator).can_next l.operator-iterator;
  ends : (goal.iterator-loop-operator).is_finite l.operator-iterator;
  left : l.count + opened_by l.operator-iterator ≡ opened_by l.body.value.operators;
  few : l.count + length l.operator-iterator < 2 ^ 64;
}
