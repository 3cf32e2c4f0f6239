use Rattle.std.proofs.Common.{arith}
use Rattle.wasmprinter_ops.proofs.Dense.{no_roles}
use Rattle.wasmprinter_ops.proofs.opcode_shapes_arities_and_roles.roles_of.Goals as goal

pub returns-in_default : goal.returns-in_default
returns-in_default c = no_roles c.args.prefix (λ e. omega arith)
