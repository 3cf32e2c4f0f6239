use Rattle.std.proofs.Common.{sym, ◌∙◌}
use Rattle.wasmprinter_module_text.proofs.CustomLists.{names-none, names-next}
use Rattle.wasmprinter_module_text.proofs.dylink.write_space_strings.Goals as goal

pub loop-name-preserved : goal.loop-name-preserved
loop-name-preserved g c = λ t w.
    let step = names-next _ _ _ c.in-Some.ensures.steps in
    c.loop-name.invariant t (rw step (g.met.O.Output.pieces_then _ _ _ _ _ c.write_space_string.ensures w))

pub returns-then-has_failed : goal.returns-then-has_failed
returns-then-has_failed g c = c.loop-name.invariant _ (g.met.O.Output.pieces_skipped _ _ (sym c.has_failed.ensures ∙ c.if-has_failed.true))

pub returns : goal.returns
returns g c =
    let none = names-none _ c.in-None.ensures.steps.0 in
    c.loop-name.invariant _ (rw none (g.met.O.Output.no_piece _))
