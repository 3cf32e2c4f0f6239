use Rattle.std.proofs.Common.{◌≡◌, ◌≤◌, ◌-◌}
use Rattle.wasmprinter_bytes.specs.Items.{skip_at}
use Rattle.wasmprinter_bytes.specs.Reads.{end_of}
use Rattle.wasmprinter_bytes.proofs.lazy_items.read_items.Given as goal

abbrev pub invariant-loop : goal.invariant-loop
invariant-loop g l = record {
  rest : skip_at g.T.Decode.parse (l.count - l.counter) l.cursor ≡ skip_at g.T.Decode.parse l.count l.start;
  end : end_of l.cursor ≡ end_of l.start;
  forward : l.start.place ≤ l.cursor.place;
}
