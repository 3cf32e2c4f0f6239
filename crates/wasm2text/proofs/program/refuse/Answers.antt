-- The line of a failed allocation names no option.
use Rattle.std.proofs.Common.{Some, sym, subst}
use Rattle.wasm2text.specs.Outcome.{refusal_line}
use Rattle.wasm2text.proofs.program.refuse.Goals as goal

pub returns-in-Memory-clause-reports : goal.returns-in-Memory-clause-reports
returns-in-Memory-clause-reports g c =
    subst (λ e. g.E.Messages.sends c.args.err.now (Some (refusal_line e)) c.send.new.self) (sym c.in-Memory.is) c.send.ensures
