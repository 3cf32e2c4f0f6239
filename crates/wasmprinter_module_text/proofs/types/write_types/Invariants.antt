use Rattle.std.proofs.Common.{◌≡◌, ◌+◌, length}
use Rattle.wasmprinter_spec.specs.Layout.Groups.{numbered_pieces}
use Rattle.wasmprinter_flat.specs.OpenLabels.LabelState.{names_of}
use Rattle.wasmprinter_module_text.specs.TypeLines.{listed_pieces}
use Rattle.wasmprinter_module_text.proofs.types.write_types.Given as goal

abbrev pub invariant-loop-sub_type : goal.invariant-loop-sub_type
invariant-loop-sub_type g l = record {
  rest : (t : _) → g.O.Output.wrote l.out t (numbered_pieces (listed_pieces (names_of l.scope.labels) l.fn.group.value.explicit l.fn.group.place) l.number l.sub_type-iterator) → g.O.Output.wrote l.fn.out t (numbered_pieces (listed_pieces (names_of l.scope.labels) l.fn.group.value.explicit l.fn.group.place) l.fn.first l.fn.group.value.types);
  count : l.number + length l.sub_type-iterator ≡ l.fn.first + length l.fn.group.value.types;
}
