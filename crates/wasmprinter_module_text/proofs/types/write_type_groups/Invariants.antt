use Rattle.std.proofs.Common.{◌≡◌, ◌+◌, drop}
use Rattle.wasmprinter_spec.specs.Layout.Types.{type_section_pieces}
use Rattle.wasmprinter_flat.specs.OpenLabels.LabelState.{names_of}
use Rattle.wasmprinter_module_text.proofs.TypeFields.{types_after}
use Rattle.wasmprinter_module_text.proofs.types.write_type_groups.Given as goal

abbrev pub invariant-loop-group : goal.invariant-loop-group
invariant-loop-group g l = record {
  rest : (t : _) → g.O.Output.wrote l.out t (type_section_pieces (names_of l.scope.labels) l.number (drop l.group-index l.groups)) → g.O.Output.wrote l.fn.out t (type_section_pieces (names_of l.scope.labels) 0 l.groups);
  count : l.number + types_after l.group-index l.groups ≡ types_after 0 l.groups;
}
