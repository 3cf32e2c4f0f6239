use Rattle.wasmprinter_print.proofs.Repeats.{repetition_of-next, repetition_of-none}
use Rattle.wasmprinter_text.proofs.lines.write_repeated.Goals as goal

pub loop-preserved : goal.loop-preserved
loop-preserved g c = λ t w.
    let next = repetition_of-next c.args.count c.loop.counter c.args.s.now c.loop-test.true in
    c.loop.invariant t (rw next (g.met.O.Output.text_then _ _ _ _ _ _ c.write_str.ensures w))

pub returns : goal.returns
returns g c =
    let none = repetition_of-none c.args.count c.loop.counter c.args.s.now c.loop-test.false in
    c.loop.invariant _ (rw none (g.met.O.Output.no_text _))
