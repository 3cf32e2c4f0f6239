use Rattle.std.proofs.Common.{sym, ap, ◌∙◌, length}
use Rattle.wasmprinter_flat.specs.OpenLabels.LabelState.{LabelState, own_label}
use Rattle.wasmprinter_flat.specs.OpenLabels.Stack.{unnamed_label, labels_from}
use Rattle.wasmprinter_flat.proofs.OpenLabels.Cursors.{own_some, own_none}
use Rattle.wasmprinter_flat.proofs.OpenLabels.Targets.{labels_length}
use Rattle.wasmprinter_flat.proofs.open_labels.OpenLabels.own.Goals as goal

pub returns-in-Some : goal.returns-in-Some
returns-in-Some c =
    let x = c.self.inside in
    let i = c.self.invariant in
    sym (own_some x.identifiers.names.now x.labels.items x.identifiers.synthesizes x.function x.opened x.next (length (labels_from x.identifiers.synthesizes x.named.blocks x.depth)) i.lists i.ascend
    i.identifiers_of_labels i.cursor c.deref.result.now c.deref.ensures.value c.in-Some.next (sym c.label_of.ensures ∙ c.in-Some.is)) ∙ ap (λ (s : LabelState). own_label s) c.self.view_is

pub returns-in-None : goal.returns-in-None
returns-in-None c =
    let x = c.self.inside in
    let i = c.self.invariant in
    c.unnamed_identifier.ensures ∙ ap (unnamed_label x.identifiers.synthesizes) (sym (labels_length x.identifiers.synthesizes x.named.blocks x.depth))
    ∙ (sym (own_none x.identifiers.names.now x.labels.items x.identifiers.synthesizes x.function x.opened x.next (length (labels_from x.identifiers.synthesizes x.named.blocks x.depth)) i.lists i.ascend
    i.identifiers_of_labels i.cursor c.deref.result.now c.deref.ensures.value (sym c.label_of.ensures ∙ c.in-None.is)) ∙ ap (λ (s : LabelState). own_label s) c.self.view_is)
