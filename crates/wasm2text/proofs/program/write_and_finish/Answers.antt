-- The text was written in one write, and then the writer was flushed.
use Rattle.wasm2text.specs.Outcome.{writer}
use Rattle.wasm2text.proofs.Texts.{writes_once, ends_flushed}
use Rattle.wasm2text.proofs.program.write_and_finish.Goals as goal

pub returns-in-Ok : goal.returns-in-Ok
returns-in-Ok g c =
    let w = writer g.O.Output.takes g.O.Output.flushes g.O.Output.uncreated in
    ends_flushed w c.args.out.now c.write_bytes.new.self c.finish.new.self c.args.text.now c.finish.result
    (writes_once w c.args.out.now c.args.text.now c.write_bytes.new.self (rw c.as_bytes.ensures.value at c.in-Ok.ensures)) c.finish.ensures
