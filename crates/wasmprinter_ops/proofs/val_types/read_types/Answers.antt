use Rattle.std.proofs.Common.{rules}
use Rattle.wasmprinter_spec.specs.Binary.ValTypes.{val_type}
use Rattle.wasmprinter_ops.specs.ValTypes.{val_type_view, type_of_view}
use Rattle.wasmprinter_ops.proofs.ReadValues.{reads_made}
use Rattle.wasmprinter_ops.proofs.Seen.{type_seen}
use Rattle.wasmprinter_ops.proofs.val_types.read_types.Goals as goal

pub returns : goal.returns
returns c = record {
  reads = reads_made type_of_view val_type_view type_seen val_type.parse c.args.cursor.now c.read_items.new.cursor c.read_items.result c.read_items.ensures.reads;
  within = search rules;
  end = search rules;
  forward = search rules;
}
