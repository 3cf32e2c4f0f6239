use Rattle.std.proofs.Common.{refl, ◌∙◌}
use Rattle.wasmprinter_spec.specs.Table.{table}
use Rattle.wasmprinter_ops.proofs.Prefixed.{entries_of_prefix}
use Rattle.wasmprinter_ops.proofs.opcode_shapes_arities_and_roles.gc.Goals as goal

pub returns : goal.returns
unfolding table
returns c = refl ∙ entries_of_prefix 0xfb
