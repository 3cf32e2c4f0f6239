use Rattle.std.proofs.Common.{◌≡◌, ◌-◌}
use Rattle.wasmprinter_hidden.specs.Lengths.{items_len}
use Rattle.wasmprinter_hidden.proofs.list_lengths.take_list_in.Given as goal

abbrev pub invariant-loop-item : goal.invariant-loop-item
invariant-loop-item g l = record {
  can : (goal.iterator-loop-item g).can_next l.item-iterator;
  ends : (goal.iterator-loop-item g).is_finite l.item-iterator;
  left : l.excess.bytes - items_len g.T.Shortest.len l.item-iterator ≡ l.initial.excess.bytes - items_len g.T.Shortest.len l.initial.item-iterator;
}
