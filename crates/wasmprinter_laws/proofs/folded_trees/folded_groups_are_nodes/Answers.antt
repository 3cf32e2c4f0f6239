use Rattle.wasmprinter_laws.proofs.Folded.Groups.{folded_groups_are_nodes}
use Rattle.wasmprinter_laws.proofs.folded_trees.folded_groups_are_nodes.Goals as goal

pub returns : goal.returns
returns c = folded_groups_are_nodes
