use Rattle.wasmprinter_spec.specs.Layout.Elements.{function_items}
use Rattle.wasmprinter_module_text.specs.Scopes.{scope_view}
use Rattle.wasmprinter_module_text.proofs.elements.write_function_items.Given as goal

abbrev pub invariant-loop-index : goal.invariant-loop-index
invariant-loop-index g l =
    (t : _) → g.O.Output.wrote l.out t (function_items (scope_view g.O.Output.chosen l.scope) l.index-iterator) →
    g.O.Output.wrote l.fn.out t (function_items (scope_view g.O.Output.chosen l.scope) l.fn.functions)
