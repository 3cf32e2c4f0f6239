use Rattle.std.specs.Prelude.{false}
use Rattle.std.proofs.Common.{true≢false, sym, ◌∙◌}
use Rattle.wasmprinter_spec.specs.Options.{Answers}
use Rattle.wasmprinter_decoder.specs.Places.{after_view}
use Rattle.wasmprinter_module_text.proofs.Places.{with_answer, left-none, left-passed, left-answered}
use Rattle.wasmprinter_module_text.proofs.custom_sections.write_customs.Goals as goal

pub loop-entry-preserved-then-not-comes_after : goal.loop-entry-preserved-then-not-comes_after
loop-entry-preserved-then-not-comes_after g c = λ t others w.
    let item = c.entry-item.result in
    let step = left-passed g.O.Output.chosen.skeleton (after_view c.args.after) others c.loop-entry.entry-index c.args.customs.now item item c.loop-entry-test.true c.entry-item.is
    (λ e. true≢false (sym (c.comes_after.ensures.1 e) ∙ c.if-not-comes_after.true)) in
    c.loop-entry.invariant t others (rw step w)

pub loop-entry-preserved : goal.loop-entry-preserved
loop-entry-preserved g c = λ t others w.
    let i = c.loop-entry.entry-index in
    let item = c.entry-item.result in
    let (answer, written) = c.write_custom.ensures in
    let step = left-answered g.O.Output.chosen.skeleton (after_view c.args.after) others i c.args.customs.now item item c.loop-entry-test.true c.entry-item.is
    answer (c.comes_after.ensures.0 c.if-not-comes_after.false) in
    c.loop-entry.invariant t (with_answer i answer others) (rw step (g.met.O.Output.part_then _ _ _ _ _ written w))

pub returns : goal.returns
returns g c =
    let none : Answers = λ n. false in
    let ended = left-none g.O.Output.chosen.skeleton (after_view c.args.after) none c.loop-entry.entry-index c.args.customs.now c.loop-entry-test.false in
    c.loop-entry.invariant _ none (rw ended (g.met.O.Output.no_part _))
