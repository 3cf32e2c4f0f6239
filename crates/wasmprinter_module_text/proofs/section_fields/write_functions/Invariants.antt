use Rattle.std.specs.Prelude.{◌≡◌, ◌+◌, drop}
use Rattle.wasmprinter_spec.specs.Types.{FuncKind}
use Rattle.wasmprinter_spec.specs.Customs.Hints.{hints_of}
use Rattle.wasmprinter_spec.specs.Layout.Functions.{functions_pieces}
use Rattle.wasmprinter_decoder.specs.Externs.{imported_count}
use Rattle.wasmprinter_module_text.specs.Scopes.{scope_view}
use Rattle.wasmprinter_module_text.proofs.section_fields.write_functions.Given as goal

abbrev pub invariant-loop-index : goal.invariant-loop-index
invariant-loop-index g l = record {
  left : (t : _) → g.O.Output.wrote l.out t
      (functions_pieces g.O.Output.chosen (scope_view g.O.Output.chosen l.fn.scope) l.hints (imported_count FuncKind l.module.imports + l.index) (drop l.index l.module.functions)) →
      g.O.Output.wrote l.fn.out t
      (functions_pieces g.O.Output.chosen (scope_view g.O.Output.chosen l.fn.scope) (hints_of l.module.customs) (imported_count FuncKind l.module.imports) l.module.functions);
  scope : scope_view g.O.Output.chosen l.scope ≡ scope_view g.O.Output.chosen l.fn.scope;
}
