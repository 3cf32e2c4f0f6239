use Rattle.std.proofs.Common.{length, sym, ap, ◌∙◌}
use Rattle.wasmprinter_spec.specs.Binary.Types.{subtype}
use Rattle.wasmprinter_bytes.proofs.ItemsInBytes.{length-items_of}
use Rattle.wasmprinter_ops.proofs.composite_types.SubTypes.len.Goals as goal

pub returns : goal.returns
returns c = sym (length-items_of subtype.parse c.self.inside.left c.self.inside.cursor c.self.invariant) ∙ ap length c.self.view_is
