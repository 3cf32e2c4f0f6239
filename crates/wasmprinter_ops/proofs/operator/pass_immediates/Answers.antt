use Rattle.std.proofs.Common.{rules}
use Rattle.wasmprinter_spec.specs.Operator.{NoImmediates, Index, Memory, I32}
use Rattle.wasmprinter_ops.proofs.operator.pass_immediates.Goals as goal

pub returns-in-None-clause-reads : goal.returns-in-None-clause-reads
returns-in-None-clause-reads c = (NoImmediates, search rules)

pub returns-in_ok-u32-in-Index-clause-reads : goal.returns-in_ok-u32-in-Index-clause-reads
returns-in_ok-u32-in-Index-clause-reads c = (Index c.in_ok-u32-in-Index.field-0, search rules)

pub returns-in_ok-read-in-Memory-clause-reads : goal.returns-in_ok-read-in-Memory-clause-reads
returns-in_ok-read-in-Memory-clause-reads c = (Memory c.in_ok-read-in-Memory.field-0, search rules)

pub returns-in_ok-s32-in-I32-clause-reads : goal.returns-in_ok-s32-in-I32-clause-reads
returns-in_ok-s32-in-I32-clause-reads c = (I32 c.in_ok-s32-in-I32.field-0, search rules)
