-- Numbers of given names, as labels are added one by one.
use Rattle.std.proofs.Common.{◌≡◌, ℕ, ◌+◌, ◌<◌, List, [], ◌∷◌, ◌++◌, length, refl, sym, ap, ◌∙◌, subst, arith, length-append}
use Rattle.std.proofs.lemmas.List.Elements.{All-push, All-weaker}
use Rattle.std.proofs.lemmas.Slice.Eq.{bytes_eq-Decides}
use Rattle.std.proofs.lemmas.Bool.Decides.{same_from_decides, Decides-eqb, Decides-like}
use Rattle.std.specs.Prelude.{Bool, true, false, nat_eq, bytes_eq, unwrap_or, if◌then◌else◌, Option, Some, None}
use Rattle.std.specs.Borrow.{Bor}
use Rattle.std.specs.BTreeMap.{BTreeMap}
use Rattle.wasmprinter_spec.specs.Grammar.{some_is}
use Rattle.wasmprinter_flat.specs.OpenLabels.Numbers.{given_of, number_of, IsNumbering, AreNumbered}
use Rattle.wasmprinter_flat.specs.declared.open_labels.label_numbering.NumberedLabel.{NumberedLabel}

-- If all known numbers are below `size`, the number of a name, known or `size` itself, is below `size + 1`.
few_by : (size : ℕ) (a : ℕ) (o : Option ℕ) → a ≡ unwrap_or o size → ((n : ℕ) → o ≡ Some n → n < size) → a < size + 1
few_by size a None e h = omega (arith, e)
few_by size a (Some n) e h = let lt = h n refl in omega (arith, e, lt)

-- A name that has the number of the given name is the given name.
taken : (numbers : BTreeMap (Bor (List ℕ)) ℕ) (xs : List NumberedLabel) (g r : List ℕ) (a : ℕ) (o : Option ℕ) → IsNumbering numbers xs → number_of numbers g ≡ o → a ≡ unwrap_or o (length xs)
    → number_of numbers r ≡ Some a → g ≡ r
taken numbers xs g r a None k e is h = let lt = k.few r a h in absurd (omega (arith, lt, is))
taken numbers xs g r a (Some n) k e is h = k.apart g r n e (h ∙ ap (λ (m : ℕ). Some m) is)

module _ (old new : BTreeMap (Bor (List ℕ)) ℕ) (xs : List NumberedLabel) (x : NumberedLabel) (k : IsNumbering old xs) (is : x.name_number ≡ unwrap_or (number_of old (given_of x)) (length xs))
    (more : (q : List ℕ) → number_of new q ≡ (if bytes_eq (given_of x) q then Some x.name_number else number_of old q)) where
  size : length (xs ++ x ∷ []) ≡ length xs + 1
  size = length-append xs (x ∷ [])

  same_is : (q : List ℕ) → bytes_eq (given_of x) q ≡ true → given_of x ≡ q
  same_is q e = (bytes_eq-Decides (given_of x) q).0 e

  known_old : (y : NumberedLabel) (same : Bool) → bytes_eq (given_of x) (given_of y) ≡ same → number_of old (given_of y) ≡ Some y.name_number
      → (if same then Some x.name_number else number_of old (given_of y)) ≡ Some y.name_number
  known_old y true e h = let f = ap (number_of old) (same_is (given_of y) e) ∙ h in ap (λ (n : ℕ). Some n) (is ∙ ap (λ o. unwrap_or o (length xs)) f)
  known_old y false e h = h

  known_new : number_of new (given_of x) ≡ Some x.name_number
  known_new = more (given_of x) ∙ ap (λ (b : Bool). if b then Some x.name_number else number_of old (given_of x)) ((bytes_eq-Decides (given_of x) (given_of x)).1 refl)

  few_new : (q : List ℕ) (n : ℕ) (same : Bool) → (if same then Some x.name_number else number_of old q) ≡ Some n → n < length (xs ++ x ∷ [])
  few_new q n true h =
      let lt = few_by (length xs) x.name_number (number_of old (given_of x)) is (k.few (given_of x)) in
      omega (arith, lt, some_is x.name_number n h, size)
  few_new q n false h = let lt = k.few q n h in omega (arith, lt, size)

  apart_new : (q r : List ℕ) (n : ℕ) (a b : Bool) → bytes_eq (given_of x) q ≡ a → bytes_eq (given_of x) r ≡ b
      → (if a then Some x.name_number else number_of old q) ≡ Some n → (if b then Some x.name_number else number_of old r) ≡ Some n → q ≡ r
  apart_new q r n true true s t f h = sym (same_is q s) ∙ same_is r t
  apart_new q r n true false s t f h = sym (same_is q s) ∙ taken old xs (given_of x) r x.name_number (number_of old (given_of x)) k refl is (h ∙ sym f)
  apart_new q r n false true s t f h = sym (taken old xs (given_of x) q x.name_number (number_of old (given_of x)) k refl is (f ∙ sym h)) ∙ same_is r t
  apart_new q r n false false s t f h = k.apart q r n f h

  more_by : IsNumbering new (xs ++ x ∷ [])
  more_by = record {
    known =
        All-push (λ (y : NumberedLabel). number_of new (given_of y) ≡ Some y.name_number) xs x
        (All-weaker (λ (y : NumberedLabel). number_of old (given_of y) ≡ Some y.name_number) (λ (y : NumberedLabel). number_of new (given_of y) ≡ Some y.name_number)
        (λ y h. more (given_of y) ∙ known_old y (bytes_eq (given_of x) (given_of y)) refl h) xs k.known)
        known_new;
    apart = λ q r n f h. apart_new q r n (bytes_eq (given_of x) q) (bytes_eq (given_of x) r) refl refl (sym (more q) ∙ f) (sym (more r) ∙ h);
    few = λ q n h. few_new q n (bytes_eq (given_of x) q) (sym (more q) ∙ h);
  }

pub numbering_more : (old new : BTreeMap (Bor (List ℕ)) ℕ) (xs ys : List NumberedLabel) (x : NumberedLabel) (next : ℕ) → ys ≡ xs ++ x ∷ [] → next ≡ length xs → IsNumbering old xs
    → x.name_number ≡ unwrap_or (number_of old (given_of x)) next
    → ((q : List ℕ) → number_of new q ≡ (if bytes_eq (given_of x) q then Some x.name_number else number_of old q)) → IsNumbering new ys
numbering_more old new xs ys x next e size k is more =
    subst (IsNumbering new) (sym e) (more_by old new xs x k (is ∙ ap (unwrap_or (number_of old (given_of x))) size) more)

pub numbered : (numbers : BTreeMap (Bor (List ℕ)) ℕ) (xs : List NumberedLabel) → IsNumbering numbers xs → AreNumbered xs
numbered numbers xs k = record {
  few = All-weaker (λ (x : NumberedLabel). number_of numbers (given_of x) ≡ Some x.name_number) (λ (x : NumberedLabel). x.name_number < length xs) (λ x h. k.few (given_of x) x.name_number h) xs k.known;
  same =
      All-weaker (λ (x : NumberedLabel). number_of numbers (given_of x) ≡ Some x.name_number) _ (λ x h.
      All-weaker (λ (y : NumberedLabel). number_of numbers (given_of y) ≡ Some y.name_number) (λ (y : NumberedLabel). nat_eq x.name_number y.name_number ≡ bytes_eq (given_of x) (given_of y)) (λ y f.
      same_from_decides (nat_eq x.name_number y.name_number) (bytes_eq (given_of x) (given_of y))
      (Decides-like (nat_eq x.name_number y.name_number) (λ e. k.apart (given_of x) (given_of y) x.name_number h (f ∙ ap (λ (n : ℕ). Some n) (sym e)))
      (λ e. some_is x.name_number y.name_number (sym h ∙ (ap (number_of numbers) e ∙ f))) (Decides-eqb x.name_number y.name_number))
      (bytes_eq-Decides (given_of x) (given_of y))) xs k.known) xs k.known;
}
