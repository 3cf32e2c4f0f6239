use Rattle.wasmprinter_laws.proofs.Colored.Groups.{colored_modules_have_trees}
use Rattle.wasmprinter_laws.proofs.colors.colored_modules_have_trees.Goals as goal

pub returns : goal.returns
returns c = colored_modules_have_trees
