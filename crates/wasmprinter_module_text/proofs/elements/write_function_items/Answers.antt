use Rattle.std.proofs.Common.{sym, ◌∙◌}
use Rattle.wasmprinter_module_text.specs.Scopes.{scope_view}
use Rattle.wasmprinter_module_text.proofs.ElementItems.{functions-none, functions-next}
use Rattle.wasmprinter_module_text.proofs.elements.write_function_items.Goals as goal

pub loop-index-preserved : goal.loop-index-preserved
loop-index-preserved g c = λ t w.
    let step = functions-next (scope_view g.O.Output.chosen c.args.scope.now) _ _ _ c.in-Some.ensures.steps in
    c.loop-index.invariant t (rw step (g.met.O.Output.pieces_then _ _ _ _ _ c.write_function_item.ensures w))

pub returns-then-has_failed : goal.returns-then-has_failed
returns-then-has_failed g c = c.loop-index.invariant _ (g.met.O.Output.pieces_skipped _ _ (sym c.has_failed.ensures ∙ c.if-has_failed.true))

pub returns : goal.returns
returns g c =
    let none = functions-none (scope_view g.O.Output.chosen c.args.scope.now) _ c.in-None.ensures.steps.0 in
    c.loop-index.invariant _ (rw none (g.met.O.Output.no_piece _))
