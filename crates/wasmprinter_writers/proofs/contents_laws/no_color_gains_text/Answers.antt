use Rattle.wasmprinter_writers.proofs.Runs.{uncolored_run}
use Rattle.wasmprinter_writers.proofs.contents_laws.no_color_gains_text.Goals as goal

pub returns : goal.returns
returns g c = uncolored_run (λ p. p.0) (λ w. g.W.Write.contents w.inner)
