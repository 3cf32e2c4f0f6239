use Rattle.std.proofs.Common.{◌≡◌, ◌≤◌, ◌-◌, ◌⊎◌}
use Rattle.std.specs.Prelude.{IsSome}
use Rattle.wasmprinter_spec.specs.Repeated.{items_at}
use Rattle.wasmprinter_bytes.specs.Reads.{end_of}
use Rattle.wasmprinter_bytes.proofs.Fronts.{with_front}
use Rattle.wasmprinter_bytes.proofs.decode_traits.read_list.Given as goal

abbrev pub invariant-loop : goal.invariant-loop
invariant-loop g l = record {
  rest : with_front l.values.items (items_at g.T.DecodeIn.parse (l.count - l.counter) l.cursor) ≡ items_at g.T.DecodeIn.parse l.count l.initial.cursor;
  end : end_of l.cursor ≡ end_of l.initial.cursor;
  forward : l.initial.cursor.place ≤ l.cursor.place;
  first : (l.cursor ≡ l.initial.cursor) ⊎ IsSome (g.T.DecodeIn.parse l.initial.cursor);
}
