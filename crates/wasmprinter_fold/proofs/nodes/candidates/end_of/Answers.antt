use Rattle.wasmprinter_fold.proofs.Candidates.{end-is}
use Rattle.wasmprinter_fold.proofs.nodes.candidates.end_of.Goals as goal

pub returns : goal.returns
returns c = λ first f h. end-is _ _ first _ f h c.total.ensures
