-- The byte belongs to the body, or it does not, or there is no such function.
use Rattle.std.proofs.Common.{◌≡◌, true, false, sym, ◌∙◌}
use Rattle.wasm2text.proofs.Headers.{inside, outside, absent}
use Rattle.wasm2text.proofs.line_search.place_of_body.Goals as goal

pub returns-in-Some : goal.returns-in-Some
returns-in-Some c =
    let h = inside c.args.module.now.functions c.args.offset c.args.number c.in-Some.body (sym c.in-Some.ensures) (c.is_in_body.ensures.0 c.if-is_in_body.true) in
    (h.0, h.1, h.2, c.place.ensures ∙ h.3)

pub returns-in_default : goal.returns-in_default
returns-in_default c =
    outside c.args.module.now.functions c.args.offset c.args.number c.in-Some.body (sym c.in-Some.ensures)
    (λ is. absurd (let both : true ≡ false = sym (c.is_in_body.ensures.1 is) ∙ c.if-is_in_body.false in cc))

pub returns-in_default-2 : goal.returns-in_default-2
returns-in_default-2 c = absent c.args.module.now.functions c.args.offset c.args.number (sym c.body.ensures ∙ c.in_default.is)
