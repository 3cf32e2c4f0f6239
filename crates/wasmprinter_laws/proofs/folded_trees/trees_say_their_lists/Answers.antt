use Rattle.wasmprinter_spec.proofs.FoldingCode.{nested_code_of-tree, nested_code_of-flat}
use Rattle.wasmprinter_laws.proofs.folded_trees.trees_say_their_lists.Goals as goal

pub returns-clause-says : goal.returns-clause-says
returns-clause-says c = nested_code_of-tree

pub returns-clause-unique : goal.returns-clause-unique
returns-clause-unique c = nested_code_of-flat
