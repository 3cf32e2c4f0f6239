use Rattle.std.proofs.Common.{◌≡◌, None, [], ◌∷◌, ◌++◌, length}
use Rattle.std.specs.Option.{option_to_list}
use Rattle.std.specs.Vec.Iter.{into_iter_items, into_iter_len}
use Rattle.wasmprinter_custom.proofs.Merging.{Waiting}
use Rattle.wasmprinter_custom.proofs.sorted_names_builder.merge.Given as goal

abbrev pub invariant-loop-entry : goal.invariant-loop-entry
invariant-loop-entry l = record {
  len : into_iter_len l.entry-iterator ≡ length (into_iter_items l.entry-iterator);
  waiting : Waiting l.fn.list.items l.fn.tree.entries l.all.items (into_iter_items l.entry-iterator) l.next l.late;
}

abbrev pub invariant-loop-earlier : goal.invariant-loop-earlier
invariant-loop-earlier l = Waiting l.fn.list.items l.fn.tree.entries l.all.items (l.entry ∷ into_iter_items l.entry-iterator) l.next l.late

abbrev pub decreases-loop-earlier : goal.decreases-loop-earlier
decreases-loop-earlier l = length (option_to_list l.next ++ l.late)

abbrev pub invariant-loop-next : goal.invariant-loop-next
invariant-loop-next l = record {
  same : l.all.items ++ (option_to_list l.next ++ l.late) ≡ l.initial.all.items ++ (option_to_list l.initial.next ++ l.initial.late);
  ended : l.next ≡ None → l.late ≡ [];
}

abbrev pub decreases-loop-next : goal.decreases-loop-next
decreases-loop-next l = length (option_to_list l.next ++ l.late)
