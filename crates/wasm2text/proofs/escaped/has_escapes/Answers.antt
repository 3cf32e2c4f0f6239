-- No character so far is escaped.
use Rattle.std.proofs.Common.{sym, ap, ◌∙◌, ◌||◌, chars}
use Rattle.std.specs.List.{list_any}
use Rattle.std.specs.Str.Iter.{chars_rest}
use Rattle.std.proofs.lemmas.Str.{IsUtf8-past_char}
use Rattle.wasm2text.specs.Messages.{is_escaped}
use Rattle.wasm2text.proofs.Escapes.{none_escaped, next_escaped}
use Rattle.wasm2text.proofs.escaped.has_escapes.Goals as goal

pub returns-then-is_escaped : goal.returns-then-is_escaped
returns-then-is_escaped c =
    let step = next_escaped _ _ c.in-Some.c c.loop-c.invariant.0 c.in-Some.ensures.steps.0 in
    sym (c.loop-c.invariant.1 ∙ step ∙ ap (λ b. b || list_any is_escaped (chars (chars_rest c.next.new.self))) (sym c.is_escaped.ensures ∙ c.if-is_escaped.true))

pub loop-c-preserved : goal.loop-c-preserved
loop-c-preserved c =
    let step = next_escaped _ _ c.in-Some.c c.loop-c.invariant.0 c.in-Some.ensures.steps.0 in (
      IsUtf8-past_char _ _ c.in-Some.c c.loop-c.invariant.0 c.in-Some.ensures.steps.0,
      c.loop-c.invariant.1 ∙ step
          ∙ ap (λ b. b || list_any is_escaped (chars (chars_rest c.next.new.self))) (sym c.is_escaped.ensures ∙ c.if-is_escaped.false),
    )

pub returns : goal.returns
returns c = sym (c.loop-c.invariant.1 ∙ none_escaped _ c.in-None.ensures.steps.0.0)
