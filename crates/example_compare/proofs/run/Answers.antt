use Rattle.std.proofs.Common.{◌≡◌, ℕ, List, [], ◌∷◌, Result, Ok, Err, IfErr, IsErrAnd, length, map, get_or, string_bytes, arith, refl, inl, inr}
use Rattle.wasmprinter.specs.TextOfFile.{Reading, IsTextOfFile}
use Rattle.example_compare.specs.declared.Failure.{Failure}
use Rattle.example_compare.specs.declared.Failure.TheVariants.{Usage, Refused, Memory}
use Rattle.example_compare.specs.Outcome.{IsRefused, IsFailureOf}
use Rattle.example_compare.proofs.run.Goals as goal

-- The words of a list of two.
named : {A : Type 0} (f : A → List ℕ) (words : List A) (x y : A) (left right : List ℕ) → length words ≡ 2 →
    x ≡ get_or words 0 x → y ≡ get_or words 1 y → left ≡ f x → right ≡ f y → map f words ≡ left ∷ right ∷ []
named f [] x y left right n e g h k = absurd (omega (arith, n))
named f (a ∷ []) x y left right n e g h k = absurd (omega (arith, n))
named f (a ∷ b ∷ []) x y left right n e g h k = cc
named f (a ∷ b ∷ c ∷ more) x y left right n e g h k = absurd (omega (arith, n))

pub returns-in-None-clause-compared : goal.returns-in-None-clause-compared
returns-in-None-clause-compared g c =
    let two : length c.args.words.now ≡ 2 = omega arith in record {
      left_file = c.as_str.result.now;
      right_file = c.as_str-2.result.now;
      named = named string_bytes c.args.words.now c.left-item.result c.right-item.result _ _ two c.left-item.is c.right-item.is c.as_str.ensures.value c.as_str-2.ensures.value;
      left = c.as_str-3.result.now;
      right = c.as_str-4.result.now;
      left_text = rw c.as_str-3.ensures.value c.in_ok-left.ensures.printed;
      right_text = rw c.as_str-4.ensures.value c.in_ok-right.ensures.printed;
      exact = c.in-None.ensures;
    }

pub returns-in-Ok-clause-compared : goal.returns-in-Ok-clause-compared
returns-in-Ok-clause-compared g c =
    let two : length c.args.words.now ≡ 2 = omega arith in record {
      left_file = c.as_str.result.now;
      right_file = c.as_str-2.result.now;
      named = named string_bytes c.args.words.now c.left-item.result c.right-item.result _ _ two c.left-item.is c.right-item.is c.as_str.ensures.value c.as_str-2.ensures.value;
      left = c.as_str-3.result.now;
      right = c.as_str-4.result.now;
      left_text = rw c.as_str-3.ensures.value c.in_ok-left.ensures.printed;
      right_text = rw c.as_str-4.ensures.value c.in_ok-right.ensures.printed;
      exact = c.in-Some.ensures;
    }

-- A failure `failure` that `?` returns, with the reason for it.
fails_with : {T : Type 0} (may_read : List ℕ → Reading) (words : List (List ℕ)) (r : Result T Failure) (failure : Failure) →
    IsErrAnd r (λ y. y ≡ failure) → IsFailureOf may_read words failure → IfErr r (IsFailureOf may_read words)
fails_with may_read words (Ok x) failure e is = tt
fails_with may_read words (Err other) failure e is = rw e is

-- The failure of the first file.
fails_left : (may_read : List ℕ → Reading) (left right : List ℕ) (failure : Failure) → IsRefused may_read left failure →
    IsFailureOf may_read (left ∷ right ∷ []) failure
fails_left may_read left right (Refused file error) is = (left, right, refl, inl is)
fails_left may_read left right Usage is = absurd is
fails_left may_read left right Memory is = absurd is

-- The failure of the second file, if the first one has a text.
fails_right : (may_read : List ℕ → Reading) (left right text : List ℕ) (failure : Failure) → IsTextOfFile (may_read left) text →
    IsRefused may_read right failure → IsFailureOf may_read (left ∷ right ∷ []) failure
fails_right may_read left right text (Refused file error) printed is = (left, right, refl, inr ((text, printed), is))
fails_right may_read left right text Usage printed is = absurd is
fails_right may_read left right text Memory printed is = absurd is

pub returns-in_err-left-clause-failed : goal.returns-in_err-left-clause-failed
returns-in_err-left-clause-failed g c =
    let two : length c.args.words.now ≡ 2 = omega arith in
    let may_read = g.S.Source.may_read c.args.source.now in
    let words = named string_bytes c.args.words.now c.left-item.result c.right-item.result _ _ two c.left-item.is c.right-item.is c.as_str.ensures.value refl in
    fails_with may_read (map string_bytes c.args.words.now) c.from_residual.result c.in_err-left.field-0.0 c.from_residual.ensures.1
    (rw words (fails_left may_read _ _ c.in_err-left.field-0.0 c.in_err-left.ensures.refused))

pub returns-in_err-right-clause-failed : goal.returns-in_err-right-clause-failed
returns-in_err-right-clause-failed g c =
    let two : length c.args.words.now ≡ 2 = omega arith in
    let may_read = g.S.Source.may_read c.args.source.now in
    let words = named string_bytes c.args.words.now c.left-item.result c.right-item.result _ _ two c.left-item.is c.right-item.is c.as_str.ensures.value c.as_str-2.ensures.value in
    fails_with may_read (map string_bytes c.args.words.now) c.from_residual-in_err-right.result c.in_err-right.field-0.0 c.from_residual-in_err-right.ensures.1
    (rw words (fails_right may_read _ _ _ c.in_err-right.field-0.0 c.in_ok-left.ensures.printed c.in_err-right.ensures.refused))

pub returns-clause-failed : goal.returns-clause-failed
returns-clause-failed g c =
    let two : length c.args.words.now ≡ 2 = omega arith in
    let words = named string_bytes c.args.words.now c.left-item.result c.right-item.result _ _ two c.left-item.is c.right-item.is c.as_str.ensures.value c.as_str-2.ensures.value in (
      _,
      _,
      words,
      (
        c.as_str-3.result.now,
        c.as_str-4.result.now,
        rw c.as_str-3.ensures.value c.in_ok-left.ensures.printed,
        rw c.as_str-4.ensures.value c.in_ok-right.ensures.printed,
        λ same. cc (c.in-Some.ensures.1 same),
      ),
    )
