-- A character is written as it is, or the characters of its escape are written.
use Rattle.std.proofs.Common.{◌≡◌, [], ◌++◌, encode_utf8, encode_utf8_all, sym, ap, ◌∙◌, append_assoc, rules}
use Rattle.std.specs.Char.Escape.{escape_default}
use Rattle.std.specs.Char.Iter.{escape_rest}
use Rattle.std.proofs.Output.{has_written_append, has_written_of_eq, writes_in_calls_nil}
use Rattle.wasm2text.proofs.Escapes.{encoded_itself}
use Rattle.wasm2text.proofs.escaped.write_char.Goals as goal

pub returns-then-not-is_escaped : goal.returns-then-not-is_escaped
returns-then-not-is_escaped g c plain ok =
    has_written_of_eq _ _ _ _ _ (encoded_itself c.args.c (sym c.is_escaped.ensures ∙ c.if-not-is_escaped.true)) (c.write_char.ensures.writes plain ok)

pub loop-part-init : goal.loop-part-init
loop-part-init g c =
    let same : c.into_iter-part-iterator.result ≡ c.escape_default-part-items.result = search rules in
    let rest : escape_rest c.into_iter-part-iterator.result ≡ escape_default c.args.c = ap escape_rest same ∙ c.escape_default-part-items.ensures.rest in
    (search rules, λ plain. ([], record { wrote = writes_in_calls_nil _ _; plain = plain }, ap encode_utf8_all rest))

pub loop-part-preserved : goal.loop-part-preserved
loop-part-preserved g c = (
  search rules,
  λ plain.
      let now = c.loop-part.invariant.1 plain in
      let ch = c.in-Some.part in (
        now.0 ++ encode_utf8 ch,
        has_written_append _ _ _ _ _ _ now.1 (search rules),
        append_assoc now.0 (encode_utf8 ch) _ ∙ ap (λ l. now.0 ++ encode_utf8_all l) (sym c.in-Some.ensures.steps.1.0) ∙ now.2,
      ),
)
