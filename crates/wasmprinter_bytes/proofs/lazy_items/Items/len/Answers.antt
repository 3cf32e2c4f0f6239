use Rattle.std.proofs.Common.{length, sym, ap, ◌∙◌}
use Rattle.wasmprinter_bytes.proofs.ItemsInBytes.{length-items_of}
use Rattle.wasmprinter_bytes.proofs.lazy_items.Items.len.Goals as goal

pub returns : goal.returns
returns g c = sym (length-items_of g.T.Decode.parse c.self.inside.left c.self.inside.cursor c.self.invariant) ∙ ap length c.self.view_is
