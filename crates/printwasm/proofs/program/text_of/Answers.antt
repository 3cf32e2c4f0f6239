-- The error is an error of printing with the chosen options.
use Rattle.std.proofs.Common.{◌≡◌, ap, subst}
use Rattle.wasmprinter.specs.Outcome.{IsTextRefusal}
use Rattle.printwasm.specs.Words.{Choice}
use Rattle.printwasm.proofs.program.text_of.Goals as goal

pub returns-in-Err-clause-refused : goal.returns-in-Err-clause-refused
returns-in-Err-clause-refused c =
    let same : c.choice.inside.config ≡ c.args.choice.now.options = ap (λ (x : Choice). x.options) c.choice.view_is in
    subst (λ o. IsTextRefusal o c.args.wasm.now c.in-Err.error) same c.in-Err.ensures.refused
