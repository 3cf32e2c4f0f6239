use Rattle.std.proofs.Common.{refl}
use Rattle.wasmprinter_spec.specs.Table.{table}
use Rattle.wasmprinter_ops.specs.ByNumber.{each_role}
use Rattle.wasmprinter_ops.proofs.opcode_shapes_arities_and_roles.one_byte_roles.Goals as goal

pub returns : goal.returns
unfolding table each_role
returns c = refl
