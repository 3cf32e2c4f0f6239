use Rattle.wasmprinter_spec.specs.Folding.Tree.{front}
use Rattle.wasmprinter_fold.proofs.Candidates.{front-ends, front-none}
use Rattle.wasmprinter_fold.proofs.nodes.candidates.predicate_of.Goals as goal

pub returns-in-Some : goal.returns-in-Some
returns-in-Some c = λ first f h. c.end_of.ensures first (front f) (front-ends _ _ _ first f h.whole c.in-Some.ensures.cases.0)

pub returns-in-None : goal.returns-in-None
returns-in-None c = λ first f h. c.end_of-in-None.ensures first (front f) (front-none _ _ first f h c.in-None.ensures.cases)
