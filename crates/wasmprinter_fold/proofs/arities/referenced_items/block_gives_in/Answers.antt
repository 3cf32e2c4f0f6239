use Rattle.wasmprinter_fold.proofs.arities.referenced_items.block_gives_in.Goals as goal

pub returns-in-Block : goal.returns-in-Block
returns-in-Block c own = rw c.in-Block.is (c.block_results.ensures own)

pub returns-in-TryTable : goal.returns-in-TryTable
returns-in-TryTable c own = rw c.in-TryTable.is (c.block_results-in-TryTable.ensures own)
