use Rattle.wasmprinter_spec.proofs.Folding.{IsAnswer-operand_search}
use Rattle.wasmprinter_laws.proofs.folded_trees.operands_are_the_shortest_run.Goals as goal

pub returns : goal.returns
returns c = IsAnswer-operand_search
