-- The part is written in one write, or there is none.
use Rattle.std.proofs.Common.{[], refl, inl, string_bytes}
use Rattle.wasm2text.specs.Parts.{part_view}
use Rattle.wasm2text.specs.Outcome.{PartForm, Returns, choice, printing, writer}
use Rattle.wasm2text.proofs.Texts.{writes_once, fails_at_once, ends_written}
use Rattle.wasm2text.proofs.Parts.{ends_without_part}
use Rattle.wasm2text.proofs.printing.print_part.Goals as goal

pub returns-in-Ok-write_bytes : goal.returns-in-Ok-write_bytes
returns-in-Ok-write_bytes g c =
    let w = writer g.O.Output.takes g.O.Output.flushes g.O.Output.uncreated in
    let wasm = c.args.wasm.now in
    let text = string_bytes c.in-Ok.text in
    ends_written (printing (Returns wasm) (choice c.args.options.config.now (PartForm (part_view c.args.part))) w) [] wasm text c.args.out
    c.write_bytes.new.self c.finish.result.1 c.finish.result.0 refl c.in-Ok.ensures.shown
    (writes_once w c.args.out text c.write_bytes.new.self (rw c.as_bytes.ensures.value at c.in-Ok-write_bytes.ensures))
    c.finish.ensures

pub returns-in-Ok : goal.returns-in-Ok
returns-in-Ok g c =
    let w = writer g.O.Output.takes g.O.Output.flushes g.O.Output.uncreated in (
      c.args.wasm.now,
      [],
      refl,
      inl (
        (refl, (string_bytes c.in-Ok.text, c.in-Ok.ensures.shown)),
        fails_at_once w c.args.out c.as_bytes.result.now c.in-Err-write_bytes.error c.write_bytes.new.self c.in-Err-write_bytes.ensures,
      ),
    )

pub returns : goal.returns
returns g c =
    ends_without_part (writer g.O.Output.takes g.O.Output.flushes g.O.Output.uncreated) c.args.out c.args.options.config.now c.args.wasm.now
    (part_view c.args.part) c.in-Err.cause c.in-Err.ensures.refused
