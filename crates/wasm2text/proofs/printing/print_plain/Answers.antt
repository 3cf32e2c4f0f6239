-- Printing the module ends as the library says, and then the writer is flushed.
use Rattle.std.proofs.Common.{[], refl}
use Rattle.wasm2text.specs.Outcome.{writer, Returns}
use Rattle.wasm2text.proofs.Texts.{ends_printed}
use Rattle.wasm2text.proofs.printing.print_plain.Goals as goal

pub returns : goal.returns
returns g c =
    let wasm = c.args.wasm.now in
    ends_printed (λ p. p.0) (writer g.O.Output.takes g.O.Output.flushes g.O.Output.uncreated) c.args.config.now (Returns wasm) [] wasm _ c.print-printed.new.printer
    c.print-printed.result c.finish.result.0 c.finish.result.1 refl c.print-printed.ensures.printed c.print-printed.ensures.refused
    c.print-printed.ensures.left c.print-printed.ensures.component c.finish.ensures
