-- The lengths are those of the shortest encodings.
use Rattle.wasmprinter_hidden.proofs.Laws.{are_shortest}
use Rattle.wasmprinter_hidden.proofs.shortest.lengths_are_shortest.Goals as goal

pub returns : goal.returns
returns c = are_shortest
