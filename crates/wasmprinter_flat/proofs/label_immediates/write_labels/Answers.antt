use Rattle.wasmprinter_flat.specs.Contexts.{labels_around, labels_within}
use Rattle.wasmprinter_flat.proofs.LabelTexts.{labels-next, labels-last}
use Rattle.wasmprinter_flat.proofs.label_immediates.write_labels.Goals as goal

pub returns : goal.returns
returns g c =
    let last = labels-last (labels_within c.args.context.now) (labels_around c.args.context.now) _ c.args.default c.in-None.ensures.steps.0 in
    c.loop-target.invariant _ (rw last c.write_label-2.ensures)

pub loop-target-preserved : goal.loop-target-preserved
loop-target-preserved g c = λ t w.
    let step = labels-next (labels_within c.args.context.now) (labels_around c.args.context.now) _ _ _ c.args.default c.in-Some.ensures.steps in
    c.loop-target.invariant t (rw step (g.met.O.Output.pieces_then _ _ _ _ _ c.write_label.ensures w))
