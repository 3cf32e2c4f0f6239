use Rattle.std.proofs.Common.{sym, ap, ◌∙◌}
use Rattle.wasmprinter_ops.specs.Shapes.{optional_shape_view}
use Rattle.wasmprinter_flat.proofs.Fitting.{listed-fits}
use Rattle.wasmprinter_flat.proofs.operators.write_operator_word.Goals as goal

pub write_immediates_by_shape-requires-clause-shape : goal.write_immediates_by_shape-requires-clause-shape
write_immediates_by_shape-requires-clause-shape g c =
    listed-fits c.operator.inside.opcode _ _ c.operator.invariant.0 (sym c.word_and_shape-shape.ensures.shape ∙ ap optional_shape_view c.in-Some.is)
