use Rattle.std.proofs.Common.{◌≡◌, ◌+◌, ◌≤◌}
use Rattle.wasmprinter_spec.specs.Limits.{local_count, most_locals}
use Rattle.wasmprinter_decoder.proofs.code.are_too_many.Given as goal

abbrev pub invariant-loop-entry : goal.invariant-loop-entry
invariant-loop-entry l = record {
  can : (goal.iterator-loop-entry).can_next l.entry-iterator;
  ends : (goal.iterator-loop-entry).is_finite l.entry-iterator;
  sum : l.count + local_count l.entry-iterator ≡ local_count l.locals;
  few : l.count ≤ most_locals;
}
