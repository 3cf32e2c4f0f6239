use Rattle.wasmprinter_writers.proofs.Runs.{colored_run}
use Rattle.wasmprinter_writers.proofs.contents_laws.ansi_gains_colored_text.Goals as goal

pub returns : goal.returns
returns g c = colored_run (λ p. p.0) (λ w. w.inner) g.W.Write.contents
