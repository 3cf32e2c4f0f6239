use Rattle.wasmprinter_spec.specs.Layout.Operators.{labels_pieces}
use Rattle.wasmprinter_flat.specs.Contexts.{labels_around, labels_within}
use Rattle.wasmprinter_flat.proofs.label_immediates.write_labels.Given as goal

abbrev pub invariant-loop-target : goal.invariant-loop-target
invariant-loop-target g l =
    (t : _) → g.O.Output.wrote l.out t (labels_pieces (labels_within l.context) (labels_around l.context) l.target-iterator l.default) →
    g.O.Output.wrote l.fn.out t (labels_pieces (labels_within l.context) (labels_around l.context) l.fn.targets l.default)
