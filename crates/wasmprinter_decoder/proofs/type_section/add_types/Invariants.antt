use Rattle.std.proofs.Common.{◌≡◌, ◌++◌}
use Rattle.wasmprinter_decoder.proofs.type_section.add_types.Given as goal

abbrev pub invariant-loop-sub_type : goal.invariant-loop-sub_type
invariant-loop-sub_type l = record {
  can : (goal.iterator-loop-sub_type).can_next l.sub_type-iterator;
  ends : (goal.iterator-loop-sub_type).is_finite l.sub_type-iterator;
  all : l.types.items ++ l.sub_type-iterator ≡ l.initial.types.items ++ l.initial.sub_type-iterator;
}
