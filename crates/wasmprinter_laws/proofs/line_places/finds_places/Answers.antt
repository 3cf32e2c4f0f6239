use Rattle.wasmprinter_laws.proofs.Lines.Finding.{finds_place}
use Rattle.wasmprinter_laws.proofs.line_places.finds_places.Goals as goal

pub returns : goal.returns
returns c = finds_place
