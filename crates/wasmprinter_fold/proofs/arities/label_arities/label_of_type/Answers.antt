use Rattle.wasmprinter_fold.proofs.arities.label_arities.label_of_type.Goals as goal

pub returns-then-is_loop : goal.returns-then-is_loop
returns-then-is_loop c own = rw c.if-is_loop.true (c.block_operands.ensures own)

pub returns-else-is_loop : goal.returns-else-is_loop
returns-else-is_loop c own = rw c.if-is_loop.false (c.block_results.ensures own)
