use Rattle.wasmprinter_spec.specs.Layout.ValTypes.{type_list}
use Rattle.wasmprinter_custom.specs.Shown.{names_of_identifiers}
use Rattle.wasmprinter_ops.specs.ValTypes.{val_types_view}
use Rattle.wasmprinter_text.proofs.types.write_type_list.Given as goal

abbrev pub invariant-loop-value_type : goal.invariant-loop-value_type
invariant-loop-value_type g l =
    (t : _) → g.O.Output.wrote l.out t (type_list (names_of_identifiers l.fn.identifiers) (val_types_view l.value_type-iterator)) →
    g.O.Output.wrote l.fn.out t (type_list (names_of_identifiers l.fn.identifiers) (val_types_view l.fn.types))
