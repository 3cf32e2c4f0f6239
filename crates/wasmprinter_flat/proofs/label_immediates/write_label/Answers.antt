use Rattle.wasmprinter_flat.specs.Contexts.{labels_around, labels_within}
use Rattle.wasmprinter_flat.proofs.LabelTexts.{label-out}
use Rattle.wasmprinter_flat.proofs.label_immediates.write_label.Goals as goal

pub returns-in-ByName : goal.returns-in-ByName
returns-in-ByName g c =
    let x = c.args.context.now in
    rw (label-out (labels_within x) (labels_around x) c.args.label, ← c.role.ensures, ← c.find.ensures, c.in-ByName.is) c.write_by_name.ensures

pub returns-in-ByNumber : goal.returns-in-ByNumber
returns-in-ByNumber g c =
    let x = c.args.context.now in
    rw (label-out (labels_within x) (labels_around x) c.args.label, ← c.role.ensures, ← c.find.ensures, c.in-ByNumber.is) c.write_space_index.ensures

pub returns-in-ToBlock : goal.returns-in-ToBlock
returns-in-ToBlock g c =
    let x = c.args.context.now in
    rw (label-out (labels_within x) (labels_around x) c.args.label, ← c.role.ensures, ← c.find.ensures, c.in-ToBlock.is) (rw c.from.ensures at c.write_around.ensures)

pub returns-in-ToNothing : goal.returns-in-ToNothing
returns-in-ToNothing g c =
    let x = c.args.context.now in
    rw (label-out (labels_within x) (labels_around x) c.args.label, ← c.role.ensures, ← c.find.ensures, c.in-ToNothing.is) (rw c.from-in-ToNothing.ensures at c.write_invalid.ensures)
