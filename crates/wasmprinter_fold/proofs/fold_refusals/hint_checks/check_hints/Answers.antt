use Rattle.std.proofs.Common.{◌∙◌, refl, sym}
use Rattle.wasmprinter_bytes.specs.declared.library_error.Error.TheVariants.{FoldHint}
use Rattle.wasmprinter_spec.specs.Types.{FuncKind}
use Rattle.wasmprinter_decoder.specs.Externs.{imported_count}
use Rattle.wasmprinter_fold.proofs.Steps.{front_refused, front_passed, handed_on, hints_next, unhinted, hintless}
use Rattle.wasmprinter_fold.proofs.fold_refusals.hint_checks.check_hints.Goals as goal

pub returns-then-not-has_hints : goal.returns-then-not-has_hints
returns-then-not-has_hints c =
    let asked = rw c.customs.ensures at c.has_hints.ensures in
    let none = unhinted c.args.module.now.customs (sym asked ∙ c.if-not-has_hints.true) in
    rw (none, hintless (imported_count FuncKind c.args.module.now.imports) c.args.module.now.functions) refl

pub returns-in_err-check_body : goal.returns-in_err-check_body
returns-in_err-check_body c =
    let body = rw (c.next_function.ensures.gives, c.body.ensures, c.from.ensures, c.imported_count-first.ensures.is) at c.in_err-check_body.ensures in
    let next = hints_next c.loop-index.hints (imported_count FuncKind c.args.module.now.imports) c.loop-index.index c.args.module.now.functions _ c.function-function.ensures in
    handed_on _ _ c.from_residual.ensures.1 ∙ sym (front_refused FoldHint _ _ _ _ next (sym body)) ∙ c.loop-index.invariant

pub loop-index-preserved : goal.loop-index-preserved
loop-index-preserved c =
    let body = rw (c.next_function.ensures.gives, c.body.ensures, c.from.ensures, c.imported_count-first.ensures.is) at c.in_ok-check_body.ensures in
    let next = hints_next c.loop-index.hints (imported_count FuncKind c.args.module.now.imports) c.loop-index.index c.args.module.now.functions _ c.function-function.ensures in
    rw (c.next_function.ensures.after, c.from.ensures, c.imported_count-first.ensures.is) (front_passed FoldHint _ _ _ next (sym body)) ∙ c.loop-index.invariant
