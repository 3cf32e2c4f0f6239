use Rattle.std.proofs.Common.{◌≡◌, ℕ, List, [], ◌∷◌, length, map, get_or, string_bytes, arith}
use Rattle.example_lines.proofs.run.Goals as goal

-- The words of a list of two.
named : {A : Type 0} (f : A → List ℕ) (words : List A) (x y : A) (file word : List ℕ) → length words ≡ 2 →
    x ≡ get_or words 0 x → y ≡ get_or words 1 y → file ≡ f x → word ≡ f y → map f words ≡ file ∷ word ∷ []
named f [] x y file word n e g h k = absurd (omega (arith, n))
named f (a ∷ []) x y file word n e g h k = absurd (omega (arith, n))
named f (a ∷ b ∷ []) x y file word n e g h k = cc
named f (a ∷ b ∷ c ∷ more) x y file word n e g h k = absurd (omega (arith, n))

pub returns-in-Ok-Some-clause-answered : goal.returns-in-Ok-Some-clause-answered
returns-in-Ok-Some-clause-answered g c =
    let two : length c.args.words.now ≡ 2 = omega arith in
    let words = named string_bytes c.args.words.now c.file-item.result c.word-item.result _ _ two c.file-item.is c.word-item.is c.as_str-2.ensures.value c.as_str.ensures.value in
    let asked = c.from_word.ensures in
    let answered = c.in-Ok-Some.ensures.answered in
    (c.as_str-2.result.now, c.in_ok-query.query, (c.as_str.result.now, words, rw c.in_ok-query.ensures.ok_part at asked), rw c.in-Ok-Some.field-0-is at answered)

pub returns-in-Err-clause-failed : goal.returns-in-Err-clause-failed
returns-in-Err-clause-failed g c =
    let two : length c.args.words.now ≡ 2 = omega arith in
    let words = named string_bytes c.args.words.now c.file-item.result c.word-item.result _ _ two c.file-item.is c.word-item.is c.as_str-2.ensures.value c.as_str.ensures.value in
    let asked = c.from_word.ensures in
    (c.as_str-2.result.now, (c.in_ok-query.query, (c.as_str.result.now, words, rw c.in_ok-query.ensures.ok_part at asked)), c.in-Err.ensures.refused)

pub returns-in-Ok-None-clause-failed : goal.returns-in-Ok-None-clause-failed
returns-in-Ok-None-clause-failed g c =
    let two : length c.args.words.now ≡ 2 = omega arith in
    let words = named string_bytes c.args.words.now c.file-item.result c.word-item.result _ _ two c.file-item.is c.word-item.is c.as_str-2.ensures.value c.as_str.ensures.value in
    let asked = c.from_word.ensures in
    let answered = c.in-Ok-None.ensures.answered in
    (c.as_str-2.result.now, (c.as_str.result.now, words, rw c.in_ok-query.ensures.ok_part at asked), rw c.in-Ok-None.field-0-is at answered)
