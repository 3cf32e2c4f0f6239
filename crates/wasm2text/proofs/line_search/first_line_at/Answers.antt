-- The line has the place, or the search goes on with the next line.
use Rattle.std.proofs.Common.{◌∙◌, sym}
use Rattle.wasmprinter.proofs.FindingSteps.{line-first, line-later}
use Rattle.wasm2text.proofs.line_search.first_line_at.Goals as goal

pub returns-then-has_place : goal.returns-then-has_place
returns-then-has_place c =
    sym (line-first (λ x. x.now) c.args.lines.now c.loop-number.number c.args.place _ c.loop-number-test.true (sym c.has_place.ensures ∙ c.if-has_place.true)) ∙ c.loop-number.invariant

pub loop-number-preserved : goal.loop-number-preserved
loop-number-preserved c =
    sym (line-later (λ x. x.now) c.args.lines.now c.loop-number.number c.args.place _ c.loop-number-test.true (sym c.has_place.ensures ∙ c.if-has_place.false)) ∙ c.loop-number.invariant
