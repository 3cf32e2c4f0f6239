use Rattle.wasmprinter_spec.proofs.FoldingCode.{nested_code_of-nested, nested_code_of-nests}
use Rattle.wasmprinter_laws.proofs.folded_trees.nested_operators_have_trees.Goals as goal

pub returns-clause-nested : goal.returns-clause-nested
returns-clause-nested c = nested_code_of-nested

pub returns-clause-only : goal.returns-clause-only
returns-clause-only c = nested_code_of-nests
