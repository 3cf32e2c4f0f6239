use Rattle.std.proofs.Common.{◌≡◌, ◌-◌, ◌≤◌}
use Rattle.std.specs.List.{AllByRecursion}
use Rattle.wasmprinter_spec.specs.Repeated.{items_at}
use Rattle.wasmprinter_spec.specs.Binary.Code.{code_entry}
use Rattle.wasmprinter_bytes.specs.Reads.{end_of}
use Rattle.wasmprinter_bytes.proofs.Fronts.{with_front}
use Rattle.wasmprinter_decoder.specs.Refusals.{HasFew}
use Rattle.wasmprinter_decoder.proofs.LaterPlaces.{IsLater}
use Rattle.wasmprinter_decoder.proofs.code.read_bodies.Given as goal

abbrev pub invariant-loop : goal.invariant-loop
invariant-loop l = record {
  rest : with_front l.bodies.items (items_at code_entry.parse (l.count - l.counter) l.cursor) ≡ items_at code_entry.parse l.count l.initial.cursor;
  end : end_of l.cursor ≡ end_of l.initial.cursor;
  forward : l.initial.cursor.place ≤ l.cursor.place;
  few : AllByRecursion HasFew l.bodies.items;
  later : IsLater l.initial.cursor l.cursor;
}
