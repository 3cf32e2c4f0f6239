use Rattle.std.specs.Prelude.{◌≡◌, drop}
use Rattle.wasmprinter_spec.specs.Layout.Imports.{no_numbers, imports_pieces}
use Rattle.wasmprinter_module_text.specs.Scopes.{scope_view}
use Rattle.wasmprinter_module_text.proofs.ImportLines.{total}
use Rattle.wasmprinter_module_text.proofs.imports.write_imports.Given as goal

abbrev pub invariant-loop-import : goal.invariant-loop-import
invariant-loop-import g l = record {
  rest : (t : _) → g.O.Output.wrote l.out t (imports_pieces (scope_view g.O.Output.chosen l.fn.scope) l.numbers (drop l.import-index l.imports)) → g.O.Output.wrote l.fn.out t (imports_pieces (scope_view g.O.Output.chosen l.fn.scope) no_numbers l.imports);
  scope : scope_view g.O.Output.chosen l.scope ≡ scope_view g.O.Output.chosen l.fn.scope;
  count : total l.numbers ≡ l.import-index;
}
