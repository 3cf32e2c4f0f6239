use Rattle.wasmprinter_writers.proofs.NoLineLost.{no_line_lost}
use Rattle.wasmprinter_writers.proofs.line_tracker_laws.no_line_is_lost.Goals as goal

pub returns : goal.returns
returns c = no_line_lost
