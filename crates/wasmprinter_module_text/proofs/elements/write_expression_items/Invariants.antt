use Rattle.std.specs.Prelude.{◌≡◌, drop}
use Rattle.wasmprinter_spec.specs.Layout.Elements.{expression_items}
use Rattle.wasmprinter_decoder.specs.Segments.{constants_of}
use Rattle.wasmprinter_module_text.specs.Scopes.{scope_view}
use Rattle.wasmprinter_module_text.proofs.elements.write_expression_items.Given as goal

abbrev pub invariant-loop-expression : goal.invariant-loop-expression
invariant-loop-expression g l = record {
  rest : (t : _) → g.O.Output.wrote l.out t (expression_items (scope_view g.O.Output.chosen l.fn.scope) (constants_of (drop l.expression-index l.expressions))) → g.O.Output.wrote l.fn.out t (expression_items (scope_view g.O.Output.chosen l.fn.scope) (constants_of l.expressions));
  scope : scope_view g.O.Output.chosen l.scope ≡ scope_view g.O.Output.chosen l.fn.scope;
}
