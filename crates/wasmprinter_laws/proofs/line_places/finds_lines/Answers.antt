use Rattle.wasmprinter_laws.proofs.Lines.Finding.{finds_line}
use Rattle.wasmprinter_laws.proofs.line_places.finds_lines.Goals as goal

pub returns : goal.returns
returns c = finds_line
