use Rattle.std.proofs.Common.{◌≡◌, ◌-◌}
use Rattle.wasmprinter_bytes.specs.Items.{skip_at}
use Rattle.wasmprinter_custom.proofs.lazy_borrowing_items.ItemsIn.read.Given as goal

abbrev pub invariant-loop : goal.invariant-loop
invariant-loop g l =
    skip_at g.T.ReadFrom.parse (l.count - l.counter) (g.T.Source.ValueSource.input l.source) ≡ skip_at g.T.ReadFrom.parse l.count (g.T.Source.ValueSource.input l.start)
