use Rattle.std.proofs.Common.{rules}
use Rattle.wasmprinter_fold.proofs.arities.resolve_arity.counts_by_arity.Goals as goal

pub returns-in-OfBlock : goal.returns-in-OfBlock
returns-in-OfBlock c =
    let given = c.block_gives_in.ensures c.args.own in
    search (rules, given)
