use Rattle.wasmprinter.proofs.Gained.{gained_alike}
use Rattle.wasmprinter.proofs.printer_laws.colors_add_sequences_alone.Goals as goal

pub returns : goal.returns
returns g c = gained_alike (λ p. p.0) (λ w. w.inner) g.V.Write.contents (λ p. p.0) (λ w. g.W.Write.contents w.inner)
