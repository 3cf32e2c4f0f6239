use Rattle.wasmprinter_laws.proofs.Lines.CodeSection.{apart}
use Rattle.wasmprinter_laws.proofs.line_places.bodies_lie_apart.Goals as goal

pub returns : goal.returns
returns c = apart
