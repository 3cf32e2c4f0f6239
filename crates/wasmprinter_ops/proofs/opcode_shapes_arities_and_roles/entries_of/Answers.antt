use Rattle.std.proofs.Common.{arith}
use Rattle.wasmprinter_ops.proofs.Dense.{no_entries}
use Rattle.wasmprinter_ops.proofs.opcode_shapes_arities_and_roles.entries_of.Goals as goal

pub returns-in_default : goal.returns-in_default
returns-in_default c = no_entries c.args.prefix (λ e. omega arith) (λ e. omega arith) (λ e. omega arith) (λ e. omega arith) (λ e. omega arith)
