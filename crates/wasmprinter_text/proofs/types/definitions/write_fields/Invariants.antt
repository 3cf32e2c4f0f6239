use Rattle.std.proofs.Common.{◌≡◌, ◌+◌, length}
use Rattle.wasmprinter_spec.specs.Layout.Groups.{numbered_pieces}
use Rattle.wasmprinter_custom.specs.Shown.{names_of_identifiers}
use Rattle.wasmprinter_ops.specs.Types.{fields_view}
use Rattle.wasmprinter_text.specs.Items.{owned_field}
use Rattle.wasmprinter_text.proofs.types.definitions.write_fields.Given as goal

abbrev pub invariant-loop-number : goal.invariant-loop-number
invariant-loop-number g l = record {
  rest : (t : _) → g.O.Output.wrote l.out t (numbered_pieces (owned_field (names_of_identifiers l.fn.identifiers) l.fn.owner) l.number-iterator.a.start (fields_view l.number-iterator.b)) → g.O.Output.wrote l.fn.out t (numbered_pieces (owned_field (names_of_identifiers l.fn.identifiers) l.fn.owner) 0 (fields_view l.fn.fields));
  count : l.number-iterator.a.start + length l.number-iterator.b ≡ l.number-iterator.a.end;
  next : (goal.iterator-loop-number g).can_next l.number-iterator × (goal.iterator-loop-number g).is_finite l.number-iterator;
}
