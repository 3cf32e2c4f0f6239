use Rattle.std.proofs.Common.{◌∙◌, sym, ap}
use Rattle.wasmprinter_bytes.specs.declared.library_error.Error.TheVariants.{FoldHint}
use Rattle.wasmprinter_spec.specs.Operator.{Operator}
use Rattle.wasmprinter_spec.specs.Table.{role_of}
use Rattle.wasmprinter_fold.proofs.Steps.{front_refused, front_passed, handed_on, misplaced_next}
use Rattle.wasmprinter_fold.proofs.fold_refusals.hint_checks.check_body.Goals as goal

pub returns-in_err-check_hint : goal.returns-in_err-check_hint
returns-in_err-check_hint c =
    let role = c.role.ensures ∙ ap (λ (o : Operator). role_of o.opcode) c.operator.view_is in
    let hint = rw (role, c.next_at.ensures.gives, c.saturating_sub-offset.ensures, c.place.ensures) at c.in_err-check_hint.ensures in
    let next = misplaced_next _ _ _ _ _ _ c.in-Some.ensures.steps in
    handed_on _ _ c.from_residual.ensures.1 ∙ sym (front_refused FoldHint _ _ _ _ next (sym hint)) ∙ c.loop-place.invariant

pub loop-place-preserved : goal.loop-place-preserved
loop-place-preserved c =
    let role = c.role.ensures ∙ ap (λ (o : Operator). role_of o.opcode) c.operator.view_is in
    let hint = rw (role, c.next_at.ensures.gives, c.saturating_sub-offset.ensures, c.place.ensures) at c.in_ok-check_hint.ensures in
    let next = misplaced_next _ _ _ _ _ _ c.in-Some.ensures.steps in
    rw (c.next_at.ensures.after, c.saturating_sub-offset.ensures, c.place.ensures) (front_passed FoldHint _ _ _ next (sym hint)) ∙ c.loop-place.invariant
