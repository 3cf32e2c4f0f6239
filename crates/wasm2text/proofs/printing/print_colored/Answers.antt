-- The text is written in one write, or the module is refused before.
use Rattle.std.proofs.Common.{[], refl, inl}
use Rattle.wasmprinter.proofs.TextOfFile.{component_error}
use Rattle.wasm2text.specs.Outcome.{InColors, Returns, choice, printing, writer}
use Rattle.wasm2text.proofs.Texts.{writes_once, fails_at_once, writes_nothing, ends_written}
use Rattle.wasm2text.proofs.printing.print_colored.Goals as goal

pub returns-in-Ok-write_bytes : goal.returns-in-Ok-write_bytes
returns-in-Ok-write_bytes g c =
    let w = writer g.O.Output.takes g.O.Output.flushes g.O.Output.uncreated in
    let wasm = c.args.wasm.now in
    ends_written (printing (Returns wasm) (choice c.args.config.now InColors) w) [] wasm c.in-Ok.text.items c.args.out c.write_bytes.new.self
    c.finish.result.1 c.finish.result.0 refl c.in-Ok.ensures.printed
    (writes_once w c.args.out c.in-Ok.text.items c.write_bytes.new.self (rw c.deref.ensures.value at c.in-Ok-write_bytes.ensures))
    c.finish.ensures

pub returns-in-Ok : goal.returns-in-Ok
returns-in-Ok g c =
    let w = writer g.O.Output.takes g.O.Output.flushes g.O.Output.uncreated in (
      c.args.wasm.now,
      [],
      refl,
      inl (
        (refl, (c.in-Ok.text.items, c.in-Ok.ensures.printed)),
        fails_at_once w c.args.out c.deref.result.now c.in-Err-write_bytes.error c.write_bytes.new.self c.in-Err-write_bytes.ensures,
      ),
    )

pub returns : goal.returns
returns g c = (
  refl,
  (
    c.args.wasm.now,
    [],
    refl,
    record { refused = c.in-Err.ensures.refused; component = component_error c.in-Err.error c.in-Err.ensures.component },
    λ early. refl,
    inl refl,
    writes_nothing (writer g.O.Output.takes g.O.Output.flushes g.O.Output.uncreated) c.args.out,
  ),
)
