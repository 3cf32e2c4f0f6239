use Rattle.std.proofs.Common.{sym, ap, ◌∙◌, length}
use Rattle.wasmprinter_flat.specs.OpenLabels.LabelState.{LabelState}
use Rattle.wasmprinter_flat.proofs.OpenLabels.Targets.{labels_length}
use Rattle.wasmprinter_flat.proofs.open_labels.OpenLabels.depth.Goals as goal

pub returns : goal.returns
returns c =
    sym (labels_length c.self.inside.identifiers.synthesizes c.self.inside.named.blocks c.self.inside.depth) ∙ ap (λ (s : LabelState). length s.labels) c.self.view_is
