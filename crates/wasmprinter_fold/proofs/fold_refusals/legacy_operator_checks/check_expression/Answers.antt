use Rattle.std.proofs.Common.{◌≡◌, ◌∙◌, sym, ap, true, false}
use Rattle.wasmprinter_bytes.specs.declared.library_error.Error.TheVariants.{FoldLegacy}
use Rattle.wasmprinter_spec.specs.Operator.{Operator}
use Rattle.wasmprinter_spec.specs.Table.{role_of}
use Rattle.wasmprinter_spec.specs.Folding.Code.{is_try}
use Rattle.wasmprinter_fold.specs.Refused.{error_of_first}
use Rattle.wasmprinter_fold.proofs.Steps.{legacy_next}
use Rattle.wasmprinter_fold.proofs.fold_refusals.legacy_operator_checks.check_expression.Goals as goal

pub returns-then-is_of_try : goal.returns-then-is_of_try
returns-then-is_of_try c =
    let judged = c.is_of_try.ensures ∙ ap is_try (c.role.ensures ∙ ap (λ (o : Operator). role_of o.opcode) c.operator.view_is) in
    let legacy : is_try (role_of c.in-Some.operator.opcode) ≡ true = sym judged ∙ c.if-is_of_try.true in
    let next = legacy_next _ _ _ _ c.in-Some.ensures.steps in
    sym (ap (error_of_first FoldLegacy) (rw legacy at next)) ∙ c.loop-place.invariant

pub loop-place-preserved : goal.loop-place-preserved
loop-place-preserved c =
    let judged = c.is_of_try.ensures ∙ ap is_try (c.role.ensures ∙ ap (λ (o : Operator). role_of o.opcode) c.operator.view_is) in
    let other : is_try (role_of c.in-Some.operator.opcode) ≡ false = sym judged ∙ c.if-is_of_try.false in
    let next = legacy_next _ _ _ _ c.in-Some.ensures.steps in
    sym (ap (error_of_first FoldLegacy) (rw other at next)) ∙ c.loop-place.invariant
