use Rattle.std.proofs.Common.{◌∙◌, sym}
use Rattle.wasmprinter_module_text.specs.Scopes.{scope_view}
use Rattle.wasmprinter_module_text.proofs.ElementItems.{expressions-none, expressions-next}
use Rattle.wasmprinter_module_text.proofs.elements.write_expression_items.Goals as goal

pub loop-expression-preserved : goal.loop-expression-preserved
loop-expression-preserved g c =
    let item = c.expression-item.result in
    let step = expressions-next (scope_view g.O.Output.chosen c.args.scope.now) c.loop-expression.expression-index c.args.expressions.now item item c.loop-expression-test.true c.expression-item.is in
    let wrote = rw c.loop-expression.invariant.scope at c.write_expression_item.ensures.pieces in
    record {
      rest = λ t w. c.loop-expression.invariant.rest t (rw step (g.met.O.Output.pieces_then _ _ _ _ _ wrote w));
      scope = c.write_expression_item.ensures.scope ∙ c.loop-expression.invariant.scope;
    }

pub returns-then-has_failed-clause-pieces : goal.returns-then-has_failed-clause-pieces
returns-then-has_failed-clause-pieces g c = c.loop-expression.invariant.rest _ (g.met.O.Output.pieces_skipped _ _ (sym c.has_failed.ensures ∙ c.if-has_failed.true))

pub returns : goal.returns
returns g c =
    let none = expressions-none (scope_view g.O.Output.chosen c.args.scope.now) c.loop-expression.expression-index c.args.expressions.now c.loop-expression-test.false in
    record {
      pieces = c.loop-expression.invariant.rest _ (rw none (g.met.O.Output.no_piece _));
      scope = c.loop-expression.invariant.scope;
    }
