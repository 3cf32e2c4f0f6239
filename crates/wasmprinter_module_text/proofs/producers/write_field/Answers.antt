use Rattle.std.proofs.Common.{sym, ◌∙◌}
use Rattle.wasmprinter_module_text.proofs.CustomLists.{values-none, values-next}
use Rattle.wasmprinter_module_text.proofs.producers.write_field.Goals as goal

pub loop-value-preserved : goal.loop-value-preserved
loop-value-preserved g c = λ t w.
    let step = values-next c.args.field.now.name _ _ _ c.in-Some.ensures.steps in
    c.loop-value.invariant t (rw step (g.met.O.Output.pieces_then _ _ _ _ _ (rw c.name.ensures at c.write_value.ensures) w))

pub returns-then-has_failed : goal.returns-then-has_failed
returns-then-has_failed g c = c.loop-value.invariant _ (g.met.O.Output.pieces_skipped _ _ (sym c.has_failed.ensures ∙ c.if-has_failed.true))

pub returns : goal.returns
returns g c =
    let none = values-none c.args.field.now.name _ c.in-None.ensures.steps.0 in
    c.loop-value.invariant _ (rw none (g.met.O.Output.no_piece _))
