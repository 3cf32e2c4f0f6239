use Rattle.std.proofs.Common.{◌≡◌, ◌++◌}
use Rattle.wasmprinter_decoder.proofs.function_section.read_type_indices.Given as goal

abbrev pub invariant-loop-index : goal.invariant-loop-index
invariant-loop-index l = record {
  can : (goal.iterator-loop-index).can_next l.index-iterator;
  ends : (goal.iterator-loop-index).is_finite l.index-iterator;
  all : l.kept.items ++ l.index-iterator ≡ l.initial.index-iterator;
}
