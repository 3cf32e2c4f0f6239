use Rattle.std.proofs.Common.{◌∙◌, sym}
use Rattle.wasmprinter_text.proofs.Plain.{none_left, next_char}
use Rattle.wasmprinter_text.proofs.strings.write_chars_in_runs.Goals as goal

pub returns-in_default : goal.returns-in_default
returns-in_default g c =
    let none = none_left c.loop-first.rest.now (sym c.chars-chars.ensures.len ∙ c.in_default.ensures.steps.0.0) in
    c.loop-first.invariant.1 _ (rw none (g.met.O.Output.no_text _))

pub loop-first-preserved : goal.loop-first-preserved
loop-first-preserved g c =
    let step = next_char c.loop-first.rest.now c.as_str-rest.result.now c.in-Some.first c.loop-first.invariant.0
    (rw c.as_str-rest.ensures (sym c.chars-chars.ensures.rest ∙ c.in-Some.ensures.steps.0)) in (
      c.as_str-rest.utf8,
      λ t w. c.loop-first.invariant.1 t (rw step (g.met.O.Output.text_then _ _ _ _ _ _ c.write_escape.ensures w)),
    )
