-- The bytes of the file are those of the module.
use Rattle.wasm2text.specs.Outcome.{Reads, between, style_choice, writer}
use Rattle.wasm2text.proofs.Texts.{ends_from}
use Rattle.wasm2text.proofs.printing.print_file.Goals as goal

pub returns-in-Ok : goal.returns-in-Ok
returns-in-Ok g c =
    ends_from (between (Reads g.I.Inputs.reads g.I.Inputs.reads_input) c.args.inputs.now c.read.new.inputs)
    (style_choice c.args.style) (writer g.O.Output.takes g.O.Output.flushes g.O.Output.uncreated) c.in-Ok.wasm.items
    c.args.file.now c.args.out c.print_module.result.0 c.print_module.result.1 c.in-Ok.ensures (rw c.deref.ensures.value at c.print_module.ensures)
