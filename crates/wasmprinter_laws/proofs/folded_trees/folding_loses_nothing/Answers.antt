use Rattle.wasmprinter_spec.proofs.Folding.{unfolding_of-tree}
use Rattle.wasmprinter_laws.proofs.folded_trees.folding_loses_nothing.Goals as goal

pub returns : goal.returns
returns c = unfolding_of-tree
