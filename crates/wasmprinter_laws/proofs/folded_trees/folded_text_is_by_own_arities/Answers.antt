use Rattle.wasmprinter_laws.proofs.Colored.AnyFolding.{folds_by_own_arities}
use Rattle.wasmprinter_laws.proofs.folded_trees.folded_text_is_by_own_arities.Goals as goal

pub returns : goal.returns
returns c = folds_by_own_arities
