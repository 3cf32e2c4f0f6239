-- The words before a word, that word, and the words after it are all words.
use Rattle.std.proofs.Common.{◌≡◌, ◌+◌, ◌∷◌, [], ◌++◌, map, drop, string_bytes, sym, ap, ◌∙◌, subst, append_assoc}
use Rattle.std.proofs.lemmas.List.{drop_more}
use Rattle.std.proofs.lemmas.Result.{err_from_is_err_and}
use Rattle.wasm2text.specs.Arguments.{IsArgumentError}
use Rattle.wasm2text.proofs.CommandLines.{joins}
use Rattle.wasm2text.proofs.parser.parse.Goals as goal

pub returns-in_err-read : goal.returns-in_err-read
returns-in_err-read c =
    let words = c.args.words.now in
    let index = c.loop-word.word-index in
    let item = c.word-item.result in
    let after = drop (index + 1) words in
    let here : drop index words ≡ item ∷ after = drop_more words index item c.loop-word-test.true ∙ ap (λ w. w ∷ after) (sym c.word-item.is) in
    let before = c.loop-word.invariant in
    let all = joins string_bytes words index item c.as_str.result.now before.0 here c.as_str.ensures.value before.2 in
    let p = err_from_is_err_and c.from_residual.result c.from_residual.ensures.1 in
    rw (p.1, p.2)
    (subst (λ ws. IsArgumentError ws c.in_err-read.field-0.0) (sym all) (c.in_err-read.ensures before.0 before.1 (map string_bytes after)))

pub loop-word-preserved : goal.loop-word-preserved
loop-word-preserved c =
    let words = c.args.words.now in
    let index = c.loop-word.word-index in
    let item = c.word-item.result in
    let word = c.as_str.result.now in
    let after = drop (index + 1) words in
    let here : drop index words ≡ item ∷ after = drop_more words index item c.loop-word-test.true ∙ ap (λ w. w ∷ after) (sym c.word-item.is) in
    let before = c.loop-word.invariant in
    let all = joins string_bytes words index item word before.0 here c.as_str.ensures.value before.2 in (
      before.0 ++ word ∷ [],
      c.in_ok-read.ensures before.0 before.1,
      all ∙ sym (append_assoc before.0 (word ∷ []) (map string_bytes after)),
    )
