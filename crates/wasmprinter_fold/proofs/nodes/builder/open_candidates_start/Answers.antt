use Rattle.wasmprinter_fold.proofs.Blocks.{part_some, part_none}
use Rattle.wasmprinter_fold.proofs.nodes.builder.open_candidates_start.Goals as goal

pub returns-in-Some : goal.returns-in-Some
returns-in-Some c = λ o e. part_some o _ _ _ e c.in-Some.ensures.cases.0

pub returns-in-None : goal.returns-in-None
returns-in-None c = λ o e. part_none o _ e c.in-None.ensures.cases
