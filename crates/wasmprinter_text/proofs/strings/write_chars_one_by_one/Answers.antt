use Rattle.std.proofs.Common.{sym, ◌∙◌}
use Rattle.std.proofs.lemmas.Str.{IsUtf8-past_char}
use Rattle.wasmprinter_text.proofs.Plain.{none_left, next_char, plain_char}
use Rattle.wasmprinter_text.proofs.strings.write_chars_one_by_one.Goals as goal

pub returns : goal.returns
returns g c = c.loop-c.invariant.1 _ (rw (none_left _ c.in-None.ensures.steps.0.0) (g.met.O.Output.no_text _))

pub loop-c-preserved-then-is_plain : goal.loop-c-preserved-then-is_plain
loop-c-preserved-then-is_plain g c =
    let step = next_char _ _ c.in-Some.c c.loop-c.invariant.0 c.in-Some.ensures.steps.0 in
    let plain = plain_char c.in-Some.c (sym c.is_plain.ensures ∙ c.if-is_plain.true) in
    let wrote = rw (c.encode_utf8.ensures.value ∙ plain) at c.write_str.ensures in (
      IsUtf8-past_char _ _ c.in-Some.c c.loop-c.invariant.0 c.in-Some.ensures.steps.0,
      λ t w. c.loop-c.invariant.1 t (rw step (g.met.O.Output.text_then _ _ _ _ _ _ wrote w)),
    )

pub loop-c-preserved : goal.loop-c-preserved
loop-c-preserved g c =
    let step = next_char _ _ c.in-Some.c c.loop-c.invariant.0 c.in-Some.ensures.steps.0 in (
      IsUtf8-past_char _ _ c.in-Some.c c.loop-c.invariant.0 c.in-Some.ensures.steps.0,
      λ t w. c.loop-c.invariant.1 t (rw step (g.met.O.Output.text_then _ _ _ _ _ _ c.write_escape.ensures w)),
    )
