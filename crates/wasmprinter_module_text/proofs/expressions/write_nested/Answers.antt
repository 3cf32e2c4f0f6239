use Rattle.wasmprinter_module_text.specs.Scopes.{scope_view}
use Rattle.wasmprinter_module_text.proofs.Constants.{constant_pieces-list}
use Rattle.wasmprinter_module_text.proofs.expressions.write_nested.Goals as goal

pub returns-clause-pieces : goal.returns-clause-pieces
returns-clause-pieces g c =
    rw (constant_pieces-list (scope_view g.O.Output.chosen c.args.scope.now) c.args.nesting c.args.expression.now.items)
    (rw c.none.ensures at c.write_flat_or_folded.ensures.pieces)
