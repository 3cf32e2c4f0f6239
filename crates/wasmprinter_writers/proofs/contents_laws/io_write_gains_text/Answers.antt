use Rattle.wasmprinter_writers.proofs.Runs.{text_run}
use Rattle.wasmprinter_writers.proofs.contents_laws.io_write_gains_text.Goals as goal

pub returns : goal.returns
returns g c = text_run (λ p. g.W.Write.contents p.0)
