use Rattle.wasmprinter_print.proofs.TextRuns.{text_is_gained}
use Rattle.wasmprinter_print.proofs.print_text.text_is_gained.Goals as goal

pub returns : goal.returns
returns g c view = text_is_gained view g.T.PrintText.writes
