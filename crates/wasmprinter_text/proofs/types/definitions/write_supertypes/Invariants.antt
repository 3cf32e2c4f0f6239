use Rattle.wasmprinter_spec.specs.Layout.Types.{supertype_pieces}
use Rattle.wasmprinter_custom.specs.Shown.{names_of_identifiers}
use Rattle.wasmprinter_text.proofs.types.definitions.write_supertypes.Given as goal

abbrev pub invariant-loop-index : goal.invariant-loop-index
invariant-loop-index g l =
    (t : _) → g.O.Output.wrote l.out t (supertype_pieces (names_of_identifiers l.fn.identifiers) l.index-iterator) →
    g.O.Output.wrote l.fn.out t (supertype_pieces (names_of_identifiers l.fn.identifiers) l.fn.supertypes)
