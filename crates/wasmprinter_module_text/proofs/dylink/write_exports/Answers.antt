use Rattle.std.proofs.Common.{sym, ◌∙◌}
use Rattle.wasmprinter_module_text.proofs.CustomLists.{exports-none, exports-next}
use Rattle.wasmprinter_module_text.proofs.dylink.write_exports.Goals as goal

pub loop-export-preserved : goal.loop-export-preserved
loop-export-preserved g c = λ t w.
    let step = exports-next c.args.place _ _ _ c.in-Some.ensures.steps in
    c.loop-export.invariant t (rw step (g.met.O.Output.pieces_then _ _ _ _ _ c.write_export.ensures w))

pub returns-then-has_failed : goal.returns-then-has_failed
returns-then-has_failed g c = c.loop-export.invariant _ (g.met.O.Output.pieces_skipped _ _ (sym c.has_failed.ensures ∙ c.if-has_failed.true))

pub returns : goal.returns
returns g c =
    let none = exports-none c.args.place _ c.in-None.ensures.steps.0 in
    c.loop-export.invariant _ (rw none (g.met.O.Output.no_piece _))
