use Rattle.wasmprinter_laws.proofs.Trees.Modules.{folded_modules_have_trees}
use Rattle.wasmprinter_laws.proofs.folded_trees.folded_modules_have_trees.Goals as goal

pub returns : goal.returns
returns c = folded_modules_have_trees
