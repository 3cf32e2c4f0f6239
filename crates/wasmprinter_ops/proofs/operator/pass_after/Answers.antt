use Rattle.std.proofs.Common.{rules}
use Rattle.wasmprinter_ops.proofs.operator.pass_after.Goals as goal

pub returns-clause-reads : goal.returns-clause-reads
returns-clause-reads c at e =
    let (value, reads) = c.in_ok-pass_immediates.ensures.reads in
    (record { opcode = c.args.opcode; immediates = value }, search (rules, reads, e), search rules)
