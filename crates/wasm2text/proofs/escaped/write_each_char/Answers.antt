-- The characters so far were written.
use Rattle.std.proofs.Common.{[], ◌++◌, encode_utf8_all, sym, ap, ◌∙◌, append-nil, rules}
use Rattle.std.proofs.Output.{has_written_append, has_written_of_eq, writes_in_calls_nil}
use Rattle.std.proofs.lemmas.Str.{IsUtf8-past_char}
use Rattle.wasm2text.specs.Messages.{message_char}
use Rattle.wasm2text.proofs.Escapes.{none_left, written_more}
use Rattle.wasm2text.proofs.escaped.write_each_char.Goals as goal

pub loop-c-init : goal.loop-c-init
loop-c-init g c = (search rules, λ plain. ([], record { wrote = writes_in_calls_nil _ _; plain = plain }, search rules))

pub loop-c-preserved : goal.loop-c-preserved
loop-c-preserved g c =
    let step = c.in-Some.ensures.steps.0 in (
      IsUtf8-past_char _ _ c.in-Some.c c.loop-c.invariant.0 step,
      λ plain.
          let now = c.loop-c.invariant.1 plain in (
            now.0 ++ encode_utf8_all (message_char c.in-Some.c),
            has_written_append _ _ _ _ _ _ now.1 (search rules),
            written_more now.0 _ _ c.in-Some.c c.loop-c.invariant.0 step ∙ now.2,
          ),
    )

pub returns : goal.returns
returns g c plain ok =
    let now = c.loop-c.invariant.1 plain in
    has_written_of_eq _ _ _ _ _
    (sym (append-nil now.0) ∙ ap (λ l. now.0 ++ l) (sym (none_left _ c.in-None.ensures.steps.0.0)) ∙ now.2) now.1
