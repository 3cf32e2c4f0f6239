use Rattle.std.proofs.Common.{sym, ap, ◌∙◌, arith, add-one, length, ◌<◌}
use Rattle.wasmprinter_flat.specs.OpenLabels.LabelState.{after_opening}
use Rattle.wasmprinter_flat.proofs.OpenLabels.Steps.{kept_unnamed, scan_unnamed, has_room, has_number, not_last, kept_named, scan_named}
use Rattle.wasmprinter_flat.proofs.open_labels.OpenLabels.open.Goals as goal

pub invariant_of-self : goal.invariant_of-self
invariant_of-self c =
    let x = c.self.inside in
    simp add-one
    (kept_unnamed x.identifiers.names.now x.labels.items c.deref.result.now x.identifiers.synthesizes x.next x.function x.opened x.depth x.named c.self.invariant c.deref.ensures.value
    (sym c.label_of-label.ensures ∙ c.in_default.is))

pub returns-in_default : goal.returns-in_default
returns-in_default c =
    let x = c.self.inside in
    simp add-one
    (scan_unnamed x.identifiers.names.now x.labels.items c.deref.result.now x.identifiers.synthesizes x.next x.function x.opened x.depth x.named c.self.invariant c.deref.ensures.value
    (sym c.label_of-label.ensures ∙ c.in_default.is) ∙ ap after_opening c.self.view_is)

pub push-requires-clause-room : goal.push-requires-clause-room
push-requires-clause-room c =
    let x = c.self.inside in
    has_room x.identifiers.names.now x.labels.items c.deref.result.now x.identifiers.synthesizes x.next x.function x.opened x.depth x.named c.self.invariant c.deref.ensures.value
    c.in-Some.label (sym c.label_of-label.ensures ∙ c.in-Some.is)

pub push-requires-clause-number : goal.push-requires-clause-number
push-requires-clause-number c =
    let x = c.self.inside in
    has_number x.identifiers.names.now x.labels.items c.deref.result.now x.identifiers.synthesizes x.next x.function x.opened x.depth x.named c.self.invariant c.deref.ensures.value
    c.in-Some.label (sym c.label_of-label.ensures ∙ c.in-Some.is)

pub overflow_add-self-3 : goal.overflow_add-self-3
overflow_add-self-3 c =
    let x = c.self.inside in
    let lt : x.next < length x.labels.items =
    not_last x.identifiers.names.now x.labels.items c.deref.result.now x.identifiers.synthesizes x.next x.function x.opened x.depth x.named c.self.invariant c.deref.ensures.value
    c.in-Some.label (sym c.label_of-label.ensures ∙ c.in-Some.is) in
    omega (arith, lt, x.labels.ok, x.labels.small)

pub invariant_of-self-2 : goal.invariant_of-self-2
invariant_of-self-2 c =
    let x = c.self.inside in
    rw c.push.ensures (simp add-one
    (kept_named x.identifiers.names.now x.labels.items c.deref.result.now x.identifiers.synthesizes x.next x.function x.opened x.depth x.named c.self.invariant c.deref.ensures.value
    c.in-Some.label (sym c.label_of-label.ensures ∙ c.in-Some.is)))

pub returns : goal.returns
returns c =
    let x = c.self.inside in
    rw c.push.ensures (simp add-one
    (scan_named x.identifiers.names.now x.labels.items c.deref.result.now x.identifiers.synthesizes x.next x.function x.opened x.depth x.named c.self.invariant c.deref.ensures.value
    c.in-Some.label (sym c.label_of-label.ensures ∙ c.in-Some.is) ∙ ap after_opening c.self.view_is))
