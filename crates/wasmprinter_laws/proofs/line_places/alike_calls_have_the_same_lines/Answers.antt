use Rattle.wasmprinter_laws.proofs.Lines.Starts.{same_lines}
use Rattle.wasmprinter_laws.proofs.line_places.alike_calls_have_the_same_lines.Goals as goal

pub returns : goal.returns
returns c = same_lines
