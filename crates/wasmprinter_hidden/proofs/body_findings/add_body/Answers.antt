use Rattle.std.proofs.Common.{◌≡◌, ◌++◌, ℕ, length, ap, ◌∙◌, arith}
use Rattle.std.proofs.lemmas.Result.{on_ok_weaker}
use Rattle.wasmprinter_hidden.specs.Lengths.{unsigned_len}
use Rattle.wasmprinter_hidden.specs.OpenParts.{open_part, in_open}
use Rattle.wasmprinter_hidden.specs.declared.finding.Part.TheVariants.{LocalCount}
use Rattle.wasmprinter_hidden.proofs.BodyParts.{body_read}
use Rattle.wasmprinter_hidden.proofs.body_findings.add_body.Goals as goal

pub returns : goal.returns
returns c =
    let b = c.args.body.now in
    let counted : c.of_item-count.result ≡ open_part LocalCount b.place (unsigned_len (length b.value.locals)) =
    c.of_item-count.ensures ∙ ap (λ (p : ℕ). open_part LocalCount p (unsigned_len c.len.result)) c.place.ensures
    ∙ ap (λ (n : ℕ). open_part LocalCount b.place (unsigned_len n)) (c.len.ensures ∙ ap length c.locals-locals.ensures) in
    on_ok_weaker c.close.result
    (λ e. body_read b c.args.findings.now c.add_locals.new.findings c.add_operators.new.findings c.close.new.self c.of_item-count.result
    c.in_ok-last_local.last_local c.in_ok-last_operator.last_operator counted
    (rw c.locals-locals.ensures at c.in_ok-last_local.ensures) c.in_ok-last_operator.ensures (omega (arith, c.end.ensures))
    (e ∙ ap (λ (p : ℕ). c.add_operators.new.findings ++ in_open c.in_ok-last_operator.last_operator p) c.end.ensures))
    c.close.ensures
