-- Taking away the items of a list that pass a test, and their count. A count of 64 bits stops at the greatest number.
use Rattle.std.specs.Prelude.{◌≡◌, ℕ, List, [], ◌∷◌, ◌+◌, ◌-◌, ◌^◌, length, Bool, true, refl}
use Rattle.std.specs.List.{filter}
use Rattle.std.proofs.Common.{sym, ap, ◌∙◌, arith, inl, inr}
use Rattle.std.proofs.lemmas.Bool.{cases_lt}
use Rattle.wasmprinter_hidden.specs.Lengths.{unsigned_len, items_len, list_len}
use Rattle.wasmprinter_hidden.specs.OpenParts.{capped}
use Rattle.wasmprinter_hidden.proofs.Numbers.{digits_full}

-- The cap makes no difference for the number of bytes.
pub unsigned_len-capped : (n : ℕ) → unsigned_len (capped n) ≡ unsigned_len n
unsigned_len-capped n =
    elim (cases_lt n (2 ^ 64)) [
      | inl within ↦ let is : capped n ≡ n = omega (arith, within) in ap unsigned_len is
      | inr above ↦
          let is : capped n ≡ 2 ^ 64 - 1 = omega (arith, above) in
          ap unsigned_len is ∙ sym (digits_full 9 n (omega (arith, above)))
    ]

-- A list of which all items pass.
pub filter_all : {A : Type 0} (xs : List A) → filter (λ x. true) xs ≡ xs
filter_all [] = refl
filter_all (x ∷ xs) = ap (λ ys. x ∷ ys) (filter_all xs)

-- ---- The count of the items

module _ {A : Type 0} (test : A → Bool) (all : List A) where
  -- The items before `left` were counted.
  abbrev pub CountIs : List A → ℕ → Type 0
  CountIs left count = capped (count + length (filter test left)) ≡ capped (length (filter test all))

-- ---- The bytes of the items

module _ {A : Type 0} (test : A → Bool) (len : A → ℕ) (all : List A) (start : ℕ) where
  -- Of the bytes that there were at the start, those of the items before `left` were taken away.
  abbrev pub LeftIs : List A → ℕ → Type 0
  LeftIs left bytes = bytes - items_len len (filter test left) ≡ start - items_len len (filter test all)

  -- No item is left, and then the bytes of the count are taken away.
  pub all_taken : (left : List A) (bytes count new : ℕ) → left ≡ [] → new ≡ bytes - unsigned_len count →
      LeftIs left bytes → CountIs test all left count → new ≡ start - list_len len (filter test all)
  all_taken left bytes count new none taken was counted =
      let no_item : length (filter test left) ≡ 0 = ap (λ xs. length (filter test xs)) none in
      let no_bytes : items_len len (filter test left) ≡ 0 = ap (λ xs. items_len len (filter test xs)) none in
      let is : capped count ≡ capped (length (filter test all)) = omega (arith, no_item, counted) in
      let size : unsigned_len count ≡ unsigned_len (length (filter test all)) =
      sym (unsigned_len-capped count) ∙ ap unsigned_len is ∙ unsigned_len-capped (length (filter test all)) in
      omega (arith, size, taken, no_bytes, was)
