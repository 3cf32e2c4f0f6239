use Rattle.std.proofs.Common.{length, sym, ap, ◌∙◌}
use Rattle.wasmprinter_bytes.proofs.ItemsInBytes.{length-items_of}
use Rattle.wasmprinter_custom.proofs.lazy_borrowing_items.ItemsIn.len.Goals as goal

pub returns : goal.returns
returns g c =
    sym (length-items_of g.T.ReadFrom.parse c.self.inside.left (g.T.Source.ValueSource.input c.self.inside.source) c.self.invariant)
    ∙ ap length c.self.view_is
