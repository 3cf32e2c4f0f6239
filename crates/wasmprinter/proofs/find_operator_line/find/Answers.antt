-- An operator's line is found by its body, its place and the line with that place.
use Rattle.std.proofs.Common.{sym, ap, ◌∙◌}
use Rattle.wasmprinter.specs.Found.{place_at, text_lines}
use Rattle.wasmprinter.proofs.FoundLines.{no_operator, no_line, its_line}
use Rattle.wasmprinter.proofs.find_operator_line.find.Goals as goal

pub returns-in_err-place : goal.returns-in_err-place
returns-in_err-place c =
    c.from_residual-in_err-place.ensures
    ∙ sym (no_operator c.args.module.now (text_lines c.args.lines.now) c.args.function c.args.operator c.in_ok-body.body (sym c.in_ok-body.ensures)
    (ap (λ ops. place_at ops c.args.operator) (sym c.operators.ensures.all) ∙ sym c.in_err-place.ensures))

pub returns-in_err-number : goal.returns-in_err-number
returns-in_err-number c =
    c.from_residual-in_err-number.ensures
    ∙ sym (no_line c.args.module.now (text_lines c.args.lines.now) c.args.function c.args.operator c.in_ok-body.body (sym c.in_ok-body.ensures)
    c.in_ok-place.place (ap (λ ops. place_at ops c.args.operator) (sym c.operators.ensures.all) ∙ sym c.in_ok-place.ensures) (sym c.in_err-number.ensures))

pub returns : goal.returns
returns c =
    sym (its_line c.args.module.now (text_lines c.args.lines.now) c.args.function c.args.operator c.in_ok-body.body (sym c.in_ok-body.ensures)
    c.in_ok-place.place c.in_ok-number.number (ap (λ ops. place_at ops c.args.operator) (sym c.operators.ensures.all) ∙ sym c.in_ok-place.ensures) (sym c.in_ok-number.ensures))
