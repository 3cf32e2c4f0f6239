use Rattle.std.proofs.Common.{sym, ◌∙◌}
use Rattle.wasmprinter_module_text.proofs.CustomLists.{imports-none, imports-next}
use Rattle.wasmprinter_module_text.proofs.dylink.write_imports.Goals as goal

pub loop-import-preserved : goal.loop-import-preserved
loop-import-preserved g c = λ t w.
    let step = imports-next c.args.place _ _ _ c.in-Some.ensures.steps in
    c.loop-import.invariant t (rw step (g.met.O.Output.pieces_then _ _ _ _ _ c.write_import.ensures w))

pub returns-then-has_failed : goal.returns-then-has_failed
returns-then-has_failed g c = c.loop-import.invariant _ (g.met.O.Output.pieces_skipped _ _ (sym c.has_failed.ensures ∙ c.if-has_failed.true))

pub returns : goal.returns
returns g c =
    let none = imports-none c.args.place _ c.in-None.ensures.steps.0 in
    c.loop-import.invariant _ (rw none (g.met.O.Output.no_piece _))
