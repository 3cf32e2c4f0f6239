use Rattle.std.proofs.Common.{◌∙◌}
use Rattle.wasmprinter_hidden.proofs.HintParts.{left_more, left_all}
use Rattle.wasmprinter_hidden.proofs.hint_findings.left_in_body.Goals as goal

pub loop-place-preserved : goal.loop-place-preserved
loop-place-preserved c =
    left_more c.args.body.now.place c.in-Some.place c.in-Some.field-0-1 c.loop-place.left c.take_at.new.hints c.loop-place.place-iterator c.next.new.self
    c.in-Some.ensures.steps (rw (c.saturating_sub.ensures, c.place.ensures) at c.take_at.ensures)
    ∙ c.loop-place.invariant

pub returns : goal.returns
returns c =
    left_all c.args.body.now.place c.loop-place.left c.loop-place.place-iterator c.in-None.ensures.steps.0 ∙ c.loop-place.invariant
