-- The locals so far, with those in the groups that are left, are all.
use Rattle.std.proofs.Common.{◌≡◌, ◌+◌, ◌-◌, ◌*◌, ◌≤◌, ◌^◌, length}
use Rattle.wasmprinter_hidden.proofs.NameCounting.{locals_in}
use Rattle.wasmprinter_hidden.proofs.name_counts.declared_count.Given as goal

abbrev pub invariant-loop-entry : goal.invariant-loop-entry
invariant-loop-entry l = record {
  can : (goal.iterator-loop-entry).can_next l.entry-iterator;
  ends : (goal.iterator-loop-entry).is_finite l.entry-iterator;
  left : l.count + locals_in l.entry-iterator ≡ locals_in l.body.value.locals;
  few : l.count + 2 ^ 32 * length l.entry-iterator ≤ 2 ^ 64 - 2 ^ 32;
}
