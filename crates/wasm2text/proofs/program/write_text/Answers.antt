-- The text was delivered, or could not be written.
use Rattle.std.proofs.Common.{[], codes, refl, inl, inr}
use Rattle.wasm2text.specs.Outcome.{write_failures}
use Rattle.wasm2text.proofs.program.write_text.Goals as goal

pub returns-in-Ok : goal.returns-in-Ok
returns-in-Ok g c = ([], inl (c.in-Ok.ensures, refl), refl, refl)

pub returns-in-Err : goal.returns-in-Err
returns-in-Err g c = (
  write_failures (codes "standard output") (g.O.Output.uncreated c.write_and_finish.new.out) c.in-Err.error,
  inr (c.in-Err.error, refl, c.in-Err.ensures),
  c.report_unwritten-status.ensures.reports,
  c.report_unwritten-status.ensures.status,
)
