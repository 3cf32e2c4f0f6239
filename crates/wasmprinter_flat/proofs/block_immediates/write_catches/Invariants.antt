use Rattle.wasmprinter_spec.specs.Layout.Operators.{catches_pieces}
use Rattle.wasmprinter_ops.specs.Blocks.{catches_view}
use Rattle.wasmprinter_flat.specs.Contexts.{setting_in, labels_around, labels_within}
use Rattle.wasmprinter_flat.proofs.block_immediates.write_catches.Given as goal

abbrev pub invariant-loop-clause : goal.invariant-loop-clause
invariant-loop-clause g l =
    (t : _) →
    g.O.Output.wrote l.out t
    (catches_pieces (setting_in g.S.Signatures.signature_at l.context) (labels_within l.context) (labels_around l.context) (catches_view l.clause-iterator)) →
    g.O.Output.wrote l.fn.out t
    (catches_pieces (setting_in g.S.Signatures.signature_at l.context) (labels_within l.context) (labels_around l.context) (catches_view l.fn.clauses))
