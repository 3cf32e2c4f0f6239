use Rattle.std.specs.Prelude.{◌≡◌, ◌+◌, drop}
use Rattle.wasmprinter_spec.specs.Layout.Groups.{numbered_pieces}
use Rattle.wasmprinter_module_text.specs.Scopes.{scope_view}
use Rattle.wasmprinter_module_text.specs.Parts.{field_line}
use Rattle.wasmprinter_module_text.proofs.field_trait.write_each.Given as goal

abbrev pub invariant-loop-index : goal.invariant-loop-index
invariant-loop-index g l = record {
  rest : (t : _) → g.O.Output.wrote l.out t (numbered_pieces (field_line g.F.Field.keyword g.F.Field.line_place (g.F.Field.parts g.O.Output.chosen (scope_view g.O.Output.chosen l.fn.scope))) (l.first + l.index) (drop l.index l.fields)) → g.O.Output.wrote l.fn.out t (numbered_pieces (field_line g.F.Field.keyword g.F.Field.line_place (g.F.Field.parts g.O.Output.chosen (scope_view g.O.Output.chosen l.fn.scope))) l.first l.fields);
  scope : scope_view g.O.Output.chosen l.scope ≡ scope_view g.O.Output.chosen l.fn.scope;
}
