-- If a word is neither a file nor an option of the program, the words name no file.
use Rattle.std.proofs.Common.{◌≡◌, ◌+◌, ◌∷◌, map, drop, option_copied, string_bytes, false, sym, ap, ◌∙◌}
use Rattle.std.proofs.lemmas.List.{drop_more}
use Rattle.printwasm.specs.Words.{is_known}
use Rattle.printwasm.proofs.Files.{named_after, after_an_unknown_word}
use Rattle.printwasm.proofs.program.file_of.Goals as goal

pub returns-then-not-is_known : goal.returns-then-not-is_known
returns-then-not-is_known c =
    let words = c.args.words.now in
    let index = c.loop-word.word-index in
    let item = c.word-item.result in
    let after = drop (index + 1) words in
    let here : drop index words ≡ item ∷ after = drop_more words index item c.loop-word-test.true ∙ ap (λ w. w ∷ after) (sym c.word-item.is) in
    let unknown : is_known (string_bytes item) ≡ false = sym (ap is_known c.deref.ensures) ∙ sym c.is_known.ensures ∙ c.if-not-is_known.true in
    let file = option_copied c.loop-word.file in
    sym (c.loop-word.invariant ∙ ap (λ rest. named_after file (map string_bytes rest)) here ∙ after_an_unknown_word file (string_bytes item) (map string_bytes after) unknown)
