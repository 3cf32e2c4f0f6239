use Rattle.wasmprinter_laws.proofs.Lines.Starts.{lines_join}
use Rattle.wasmprinter_laws.proofs.line_places.lines_join_to_the_text.Goals as goal

pub returns : goal.returns
returns c = lines_join
