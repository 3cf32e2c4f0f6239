use Rattle.std.proofs.Common.{◌∙◌, sym}
use Rattle.wasmprinter.proofs.FindingSteps.{place-none, place-first, place-later}
use Rattle.wasmprinter.proofs.find_operator_line.operator_place.Goals as goal

pub returns-then-left-eq0 : goal.returns-then-left-eq0
returns-then-left-eq0 c = sym (place-first _ _ _ _ c.in-Some.ensures.steps c.if-left-eq0.true) ∙ c.loop-place.invariant

pub loop-place-preserved : goal.loop-place-preserved
loop-place-preserved c = sym (place-later _ _ _ _ c.in-Some.ensures.steps c.if-left-eq0.false) ∙ c.loop-place.invariant

pub returns : goal.returns
returns c = sym (place-none _ _ c.in-None.ensures.steps.0) ∙ c.loop-place.invariant
