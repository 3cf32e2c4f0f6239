use Rattle.std.proofs.Common.{◌≡◌, [], sym, ◌∙◌, subst, arith, length, true≢false}
use Rattle.wasmprinter_flat.specs.OpenLabels.Stack.{Stack}
use Rattle.wasmprinter_flat.specs.OpenLabels.Inside.{IsKept}
use Rattle.wasmprinter_flat.proofs.OpenLabels.Starts.{kept_new, no_labels, none_listed, length_none}
use Rattle.wasmprinter_flat.proofs.open_labels.OpenLabels.new.Goals as goal

pub invariant_of-result : goal.invariant_of-result
invariant_of-result c =
    let size : c.len.result ≡ length c.in_ok-labels-2.labels.items = omega (arith, c.len.ensures, c.in_ok-labels-2.labels.ok) in
    subst (λ (t : Stack). IsKept c.args.identifiers.names.now c.in_ok-labels-2.labels.items 0 0 0 0 t) (sym c.in_ok-named.ensures.none)
    (kept_new c.args.identifiers.names.now c.in_ok-labels-2.labels.items c.in_ok-labels.field-0.items c.len.result (c.in_ok-labels-2.ensures.labels ∙ c.deref.ensures.value)
    c.in_ok-labels.ensures.all c.in_ok-labels.ensures.ascend c.in_ok-labels.ensures.identifiers_of_labels c.in_ok-labels-2.ensures.numbers size)

pub returns-in_err-labels-clause-succeeds : goal.returns-in_err-labels-clause-succeeds
returns-in_err-labels-clause-succeeds c = λ h. absurd (true≢false (sym (c.in_err-labels.ensures.succeeds (no_labels c.args.identifiers.names.now h))))

pub returns-in_err-labels-2-clause-succeeds : goal.returns-in_err-labels-2-clause-succeeds
returns-in_err-labels-2-clause-succeeds c = λ h.
    let none : c.in_ok-labels.field-0.items ≡ [] = none_listed c.in_ok-labels.field-0.items _ c.in_ok-labels.ensures.all (no_labels c.args.identifiers.names.now h) in
    absurd (true≢false (sym (c.in_err-labels-2.ensures.succeeds (c.deref.ensures.value ∙ none))))

pub returns-in_err-named-clause-succeeds : goal.returns-in_err-named-clause-succeeds
returns-in_err-named-clause-succeeds c = λ h.
    let none : c.in_ok-labels.field-0.items ≡ [] = none_listed c.in_ok-labels.field-0.items _ c.in_ok-labels.ensures.all (no_labels c.args.identifiers.names.now h) in
    let size : c.len.result ≡ length c.in_ok-labels-2.labels.items = omega (arith, c.len.ensures, c.in_ok-labels-2.labels.ok) in
    let empty = length_none c.in_ok-labels-2.labels.items c.in_ok-labels.field-0.items (c.in_ok-labels-2.ensures.labels ∙ c.deref.ensures.value) none in
    absurd (true≢false (sym (c.in_err-named.ensures.succeeds (size ∙ empty))))
