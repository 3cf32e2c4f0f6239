-- Items up to the end of the bytes, read one at a time.
use Rattle.std.proofs.Common.{◌≡◌, ℕ, zero, suc, ◌<◌, ◌≤◌, cond, eqb, ltb, List, [], ◌∷◌, ◌++◌, length, Option, Some, None, refl, ap, ◌∙◌, arith}
use Rattle.std.proofs.lemmas.Bool.{ne_eqb, eq-eqb, lt-ltb}
use Rattle.wasmprinter_spec.specs.Grammar.{Input, Grammar, ◌>>=◌}
use Rattle.wasmprinter_spec.specs.Repeated.{entries_at, until_end}
use Rattle.wasmprinter_ops.proofs.Stepping.{bind_same}

-- The result of reading, with other items before it.
abbrev pub in_front : {A : Type 0} → List A → Option (List A) → Option (List A)
in_front xs r = r >>= λ ys. Some (xs ++ ys)

module _ {A : Type 0} (g : Grammar A) (takes_byte : (at : Input) (x : A × Input) → g.parse at ≡ Some x → length x.1.bytes < length at.bytes) where
  -- Reads items up to the end of the bytes.
  abbrev items : Input → Option (List A)
  items at = (until_end g).parse at

  -- The first item, then what `rest` reads after it.
  abbrev item_and : (Input → Option (List A)) → Input → A × Input → Option (List A)
  item_and rest at x = cond (ltb (length x.1.bytes) (length at.bytes)) (in_front (x.0 ∷ []) (rest x.1)) None

  -- Two limits on the number of items, both at least the number of bytes, give the same result.
  enough : (n m : ℕ) (at : Input) → length at.bytes ≤ n → length at.bytes ≤ m → entries_at g n at ≡ entries_at g m at
  enough zero zero at le lf = refl
  enough zero (suc m) at le lf = let none : length at.bytes ≡ 0 = omega arith in rw (eq-eqb (length at.bytes) 0 none) refl
  enough (suc n) zero at le lf = let none : length at.bytes ≡ 0 = omega arith in rw (eq-eqb (length at.bytes) 0 none) refl
  enough (suc n) (suc m) at le lf =
      ap (λ (r : Option (List A)). cond (eqb (length at.bytes) 0) (Some []) r)
      (bind_same (g.parse at) (item_and (entries_at g n) at) (item_and (entries_at g m) at) (λ x e.
      let lt : length x.1.bytes < length at.bytes = takes_byte at x e in
      ap (λ (r : Option (List A)). cond (ltb (length x.1.bytes) (length at.bytes)) (in_front (x.0 ∷ []) r) None) (enough n m x.1 (omega arith) (omega arith))))

  -- If a byte is left, then an item is read, and then the items after it.
  more : (n : ℕ) (at : Input) → length at.bytes ≡ suc n → items at ≡ (g.parse at >>= λ x. item_and items at x)
  more n at l =
      ap (λ (k : ℕ). entries_at g k at) l
      ∙ rw (ne_eqb (length at.bytes) 0 (λ z. omega arith))
      (bind_same (g.parse at) (item_and (entries_at g n) at) (item_and items at) (λ x e.
      let lt : length x.1.bytes < length at.bytes = takes_byte at x e in
      ap (λ (r : Option (List A)). cond (ltb (length x.1.bytes) (length at.bytes)) (in_front (x.0 ∷ []) r) None) (enough n (length x.1.bytes) x.1 (omega arith) (omega arith))))

  -- A list that is not empty has a length above 0.
  some_length : (bytes : List ℕ) → (bytes ≡ [] → ⊥) → (n : ℕ) × (length bytes ≡ suc n)
  some_length [] some = absurd (some refl)
  some_length (b ∷ bs) some = (length bs, omega arith)

  -- If an item is read first, then the items are this one and those after it.
  pub until_item : (at after : Input) (x : A) → g.parse at ≡ Some (x, after) → items at ≡ in_front (x ∷ []) (items after)
  until_item at after x e =
      let lt : length after.bytes < length at.bytes = takes_byte at (x, after) e in
      let n = some_length at.bytes (λ z. omega (arith, ap length z)) in
      more n.0 at n.1 ∙ rw (e, lt-ltb (length after.bytes) (length at.bytes) lt) refl

  -- If bytes are left but no item is read, then reading the items fails.
  pub until_fault : (at : Input) → (at.bytes ≡ [] → ⊥) → g.parse at ≡ None → items at ≡ None
  until_fault at some e = let n = some_length at.bytes some in more n.0 at n.1 ∙ rw e refl

  -- If no byte is left, then there are no items.
  pub until_done : (at : Input) → at.bytes ≡ [] → items at ≡ Some []
  until_done at e = ap (λ (k : ℕ). entries_at g k at) (ap length e) ∙ rw (eq-eqb (length at.bytes) 0 (ap length e)) refl
