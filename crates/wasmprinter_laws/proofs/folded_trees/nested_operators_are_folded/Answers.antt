use Rattle.wasmprinter_spec.proofs.FoldingItems.{folded_pieces-nested, folded_pieces-nests}
use Rattle.wasmprinter_laws.proofs.folded_trees.nested_operators_are_folded.Goals as goal

pub returns-clause-folded : goal.returns-clause-folded
returns-clause-folded c = λ s signatures. folded_pieces-nested s signatures

pub returns-clause-only : goal.returns-clause-only
returns-clause-only c = λ s signatures. folded_pieces-nests s signatures
