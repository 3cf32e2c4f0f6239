use Rattle.std.proofs.Common.{◌≡◌, ◌-◌}
use Rattle.wasmprinter_hidden.specs.Lengths.{items_len, sub_type_len}
use Rattle.wasmprinter_hidden.proofs.type_lengths.take_sub_types.Given as goal

abbrev pub invariant-loop-sub_type : goal.invariant-loop-sub_type
invariant-loop-sub_type l = record {
  can : (goal.iterator-loop-sub_type).can_next l.sub_type-iterator;
  ends : (goal.iterator-loop-sub_type).is_finite l.sub_type-iterator;
  left : l.excess.bytes - items_len sub_type_len l.sub_type-iterator ≡ l.initial.excess.bytes - items_len sub_type_len l.initial.sub_type-iterator;
}
