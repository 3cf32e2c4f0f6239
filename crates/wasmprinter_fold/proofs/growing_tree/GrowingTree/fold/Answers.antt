use Rattle.std.proofs.Common.{sym, ap, ◌∙◌}
use Rattle.wasmprinter_spec.specs.Operator.{Operator}
use Rattle.wasmprinter_spec.specs.Table.{role_of}
use Rattle.wasmprinter_spec.specs.Folding.Code.{is_try}
use Rattle.wasmprinter_fold.proofs.Walks.{refuses, goes_on, all_folded}
use Rattle.wasmprinter_fold.proofs.growing_tree.GrowingTree.fold.Goals as goal

pub returns-then-is_of_try-clause-grown : goal.returns-then-is_of_try-clause-grown
returns-then-is_of_try-clause-grown g c =
    refuses c.loop-item.invariant _ _ c.in-Some.ensures.steps
    (ap is_try (sym (c.role-role.ensures ∙ ap (λ (o : Operator). role_of o.opcode) c.operator.view_is)) ∙ (sym c.is_of_try.ensures ∙ c.if-is_of_try.true))

pub returns-clause-grown : goal.returns-clause-grown
returns-clause-grown g c = all_folded c.loop-item.invariant c.operators-item-items.ensures.nested c.in-None.ensures.steps.0

pub loop-item-preserved : goal.loop-item-preserved
loop-item-preserved g c =
    goes_on c.loop-item.invariant _ _ _ c.advance.new.self c.take_hint-hint.new.hints c.fold_next.new.self c.take_hint-hint.result c.in-Some.ensures.steps
    (c.role-role.ensures ∙ ap (λ (o : Operator). role_of o.opcode) c.operator.view_is) (sym c.is_of_try.ensures ∙ c.if-is_of_try.false) c.advance.ensures
    (rw c.saturating_sub.ensures at c.take_hint-hint.ensures.after) (rw c.saturating_sub.ensures at c.take_hint-hint.ensures.results) c.in_ok-fold_next.ensures.color c.in_ok-fold_next.ensures.labels
    c.in_ok-fold_next.ensures.steps

pub fold_next-requires-clause-role : goal.fold_next-requires-clause-role
fold_next-requires-clause-role g c = c.role-role.ensures ∙ ap (λ (o : Operator). role_of o.opcode) c.operator.view_is
