use Rattle.std.proofs.Common.{sym, ◌∙◌}
use Rattle.wasmprinter_module_text.proofs.CustomLists.{fields-none, fields-next}
use Rattle.wasmprinter_module_text.proofs.producers.write_fields.Goals as goal

pub loop-field-preserved : goal.loop-field-preserved
loop-field-preserved g c = λ t w.
    let step = fields-next _ _ _ c.in-Some.ensures.steps in
    c.loop-field.invariant t (rw step (g.met.O.Output.pieces_then _ _ _ _ _ c.write_field.ensures w))

pub returns-then-has_failed : goal.returns-then-has_failed
returns-then-has_failed g c = c.loop-field.invariant _ (g.met.O.Output.pieces_skipped _ _ (sym c.has_failed.ensures ∙ c.if-has_failed.true))

pub returns : goal.returns
returns g c =
    let none = fields-none _ c.in-None.ensures.steps.0 in
    c.loop-field.invariant _ (rw none (g.met.O.Output.no_piece _))
