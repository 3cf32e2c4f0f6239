-- The errors are those of decoding, and that of an allocation.
use Rattle.std.proofs.Common.{refl, inl, inr}
use Rattle.std.proofs.lemmas.Result.{err_from_is_err_and}
use Rattle.wasmprinter_hidden.proofs.hidden_bytes.hidden.Goals as goal

pub returns-clause-found : goal.returns-clause-found
returns-clause-found c = rw c.into_list.ensures c.in_ok-findings.ensures

pub returns-in_err-module-clause-refused : goal.returns-in_err-module-clause-refused
returns-in_err-module-clause-refused c =
    let (fault, failed, is) = err_from_is_err_and c.from_residual.result c.from_residual.ensures.1 in
    rw (failed, is) (inr c.in_err-module.ensures.refused)

pub returns-in_err-module-clause-component : goal.returns-in_err-module-clause-component
returns-in_err-module-clause-component c =
    let (fault, failed, is) = err_from_is_err_and c.from_residual.result c.from_residual.ensures.1 in
    rw (failed, is) (λ e. c.in_err-module.ensures.component.0 cc, λ component. let e = c.in_err-module.ensures.component.1 component in cc)

pub returns-in_err-module-clause-within : goal.returns-in_err-module-clause-within
returns-in_err-module-clause-within c m spells within =
    let (fault, failed, is) = err_from_is_err_and c.from_residual.result c.from_residual.ensures.1 in
    rw (failed, is) (c.in_err-module.ensures.within m spells within)

pub returns-in_err-findings-clause-refused : goal.returns-in_err-findings-clause-refused
returns-in_err-findings-clause-refused c =
    let (fault, failed, is) = err_from_is_err_and c.from_residual-in_err-findings.result c.from_residual-in_err-findings.ensures.1 in
    rw (failed, is) (inl refl)

pub returns-in_err-findings-clause-component : goal.returns-in_err-findings-clause-component
returns-in_err-findings-clause-component c =
    let (fault, failed, is) = err_from_is_err_and c.from_residual-in_err-findings.result c.from_residual-in_err-findings.ensures.1 in
    rw (failed, is) (λ e. absurd cc, λ component. let e = c.in_ok-module.ensures.component.1 component in absurd cc)

pub returns-in_err-findings-clause-within : goal.returns-in_err-findings-clause-within
returns-in_err-findings-clause-within c m spells within =
    let (fault, failed, is) = err_from_is_err_and c.from_residual-in_err-findings.result c.from_residual-in_err-findings.ensures.1 in
    rw (failed, is) refl
