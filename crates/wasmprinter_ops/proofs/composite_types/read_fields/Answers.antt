use Rattle.std.proofs.Common.{rules}
use Rattle.wasmprinter_spec.specs.Binary.Types.{field}
use Rattle.wasmprinter_ops.specs.Types.{field_view, field_of_view}
use Rattle.wasmprinter_ops.proofs.ReadValues.{reads_made}
use Rattle.wasmprinter_ops.proofs.Seen.{field_seen}
use Rattle.wasmprinter_ops.proofs.composite_types.read_fields.Goals as goal

pub returns : goal.returns
returns c = record {
  reads = reads_made field_of_view field_view field_seen field.parse c.args.cursor.now c.read_items.new.cursor c.read_items.result c.read_items.ensures.reads;
  within = search rules;
  end = search rules;
  forward = search rules;
}
