use Rattle.std.proofs.Common.{◌∙◌, sym, ap}
use Rattle.wasmprinter_bytes.specs.declared.library_error.Error.TheVariants.{FoldLegacy}
use Rattle.wasmprinter_spec.specs.Grammar.{Placed}
use Rattle.wasmprinter_spec.specs.Placed.{Body}
use Rattle.wasmprinter_spec.specs.Folding.Refusals.{Operators, legacy_places_in}
use Rattle.wasmprinter_fold.specs.Refused.{error_of_first}
use Rattle.wasmprinter_fold.proofs.Steps.{front_refused, front_passed, handed_on, bodies_next}
use Rattle.wasmprinter_fold.proofs.fold_refusals.item_expressions.check_bodies.Goals as goal

pub returns-in_err-check_expression : goal.returns-in_err-check_expression
returns-in_err-check_expression c =
    let operators = c.expression.ensures.operators ∙ ap (λ (b : Placed Body). b.value.operators) c.body.ensures in
    let body = c.in_err-check_expression.ensures ∙ ap (λ (os : Operators). error_of_first FoldLegacy (legacy_places_in os)) operators in
    let next = bodies_next c.loop-index.index c.args.module.now.functions _ c.function.ensures in
    handed_on _ _ c.from_residual.ensures.1 ∙ sym (front_refused FoldLegacy _ _ _ _ next (sym body)) ∙ c.loop-index.invariant

pub loop-index-preserved : goal.loop-index-preserved
loop-index-preserved c =
    let operators = c.expression.ensures.operators ∙ ap (λ (b : Placed Body). b.value.operators) c.body.ensures in
    let body = c.in_ok-check_expression.ensures ∙ ap (λ (os : Operators). error_of_first FoldLegacy (legacy_places_in os)) operators in
    let next = bodies_next c.loop-index.index c.args.module.now.functions _ c.function.ensures in
    front_passed FoldLegacy _ _ _ next (sym body) ∙ c.loop-index.invariant
