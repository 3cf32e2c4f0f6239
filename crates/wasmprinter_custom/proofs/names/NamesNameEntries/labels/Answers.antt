use Rattle.std.proofs.Common.{◌≡◌, ◌∷◌, ◌+◌, drop, sym, ap, ◌∙◌, rules}
use Rattle.std.proofs.lemmas.List.{drop_more}
use Rattle.wasmprinter_custom.proofs.LabelOrder.{ascend_labels, some_label}
use Rattle.wasmprinter_custom.proofs.names.NamesNameEntries.labels.Goals as goal

pub returns-clause-ascend : goal.returns-clause-ascend
returns-clause-ascend c = rw (← c.self.view_is) (ascend_labels c.self.inside.entries.items c.self.invariant.0)

pub returns-in_err-push-clause-ascend : goal.returns-in_err-push-clause-ascend
returns-in_err-push-clause-ascend c = rw (← c.self.view_is) (ascend_labels c.self.inside.entries.items c.self.invariant.0)

pub returns-in_err-push-clause-succeeds : goal.returns-in_err-push-clause-succeeds
returns-in_err-push-clause-succeeds c = λ e.
    let items = c.deref-key-items.result.now in
    let i = c.loop-key.key-index in
    let x = c.loop-key-item.result in
    let next : drop i items ≡ x ∷ drop (i + 1) items = drop_more items i x c.loop-key-test.true ∙ ap (λ y. y ∷ drop (i + 1) items) (sym c.loop-key-item.is) in
    absurd (some_label x (drop i items) (drop (i + 1) items) _ _ (search rules) next c.loop-key.invariant e)
