-- Items whose encoding was checked, and which are read one at a time.
use Rattle.std.proofs.Common.{◌≡◌, ℕ, zero, suc, ◌+◌, ◌-◌, ◌<◌, ◌≤◌, length, List, [], ◌∷◌, Option, Some, None, refl, sym, ap, ◌∙◌, ◌≢◌, arith}
use Rattle.std.specs.Prelude.{MatchOption}
use Rattle.wasmprinter_spec.specs.Grammar.{Input, ◌>>=◌}
use Rattle.wasmprinter_spec.specs.Name.{u32}
use Rattle.wasmprinter_spec.specs.Repeated.{some_or, items_at}
use Rattle.wasmprinter_bytes.specs.Items.{items_of, skip_at, HasItems}
use Rattle.wasmprinter_bytes.specs.Lists.{vec_at}

-- The items, with the position after them.
abbrev pub with_end : {A : Type 0} → List A → Option Input → Option (List A × Input)
with_end xs None = None
with_end xs (Some e) = Some (xs, e)

-- Prepending an item commutes with attaching the position after the items.
skip_over : {A : Type 0} (r : Option Input) (x : A) (xs : List A) → (with_end xs r >>= λ b. Some (x ∷ b.0, b.1)) ≡ with_end (x ∷ xs) r
skip_over None x xs = refl
skip_over (Some e) x xs = refl

module _ {A : Type 0} (parse : Input → Option (A × Input)) where
  skip_then : (n : ℕ) (r : Option (A × Input)) → ((x : A × Input) → items_at parse n x.1 ≡ with_end (items_of parse n x.1) (skip_at parse n x.1))
      → (r >>= λ a. items_at parse n a.1 >>= λ b. Some (a.0 ∷ b.0, b.1)) ≡ with_end (some_or r [] (λ x. x.0 ∷ items_of parse n x.1)) (r >>= λ x. skip_at parse n x.1)
  skip_then n None h = refl
  skip_then n (Some x) h = rw (h x) (skip_over (skip_at parse n x.1) x.0 (items_of parse n x.1))

  -- Reading n items gives `items_of` and the position `skip_at`.
  pub items_at-skip : (n : ℕ) (at : Input) → items_at parse n at ≡ with_end (items_of parse n at) (skip_at parse n at)
  items_at-skip zero at = refl
  items_at-skip (suc n) at = skip_then n (parse at) (λ x. items_at-skip n x.1)

  has_then : (n : ℕ) (r : Option (A × Input)) (e : Input) → ((x : A × Input) → skip_at parse n x.1 ≡ Some e → HasItems parse n x.1) → (r >>= λ x. skip_at parse n x.1) ≡ Some e → MatchOption r ⊥ (λ x. HasItems parse n x.1)
  has_then n None e h s = absurd cc
  has_then n (Some x) e h s = h x s

  -- If n items can be skipped, the bytes encode n items.
  pub HasItems-skip : (n : ℕ) (at e : Input) → skip_at parse n at ≡ Some e → HasItems parse n at
  HasItems-skip zero at e s = tt
  HasItems-skip (suc n) at e s = has_then n (parse at) e (λ x t. HasItems-skip n x.1 e t) s

  -- One step of a loop over a count: after item i is read, one item fewer is left to skip.
  pub skip_more : (count i : ℕ) (at : Input) (x : A) (after : Input) (total : Option Input) → i < count → parse at ≡ Some (x, after) → skip_at parse (count - i) at ≡ total → skip_at parse (count - (i + 1)) after ≡ total
  skip_more count i at x after total lt e h =
      let k : count - i ≡ suc (count - (i + 1)) = omega arith in
      let g : skip_at parse (suc (count - (i + 1))) at ≡ total = rw k at h in
      rw e at g

  pub skip_none : (count i : ℕ) (at : Input) (total : Option Input) → i < count → parse at ≡ None → skip_at parse (count - i) at ≡ total → total ≡ None
  skip_none count i at total lt e h =
      let k : count - i ≡ suc (count - (i + 1)) = omega arith in
      let g : skip_at parse (suc (count - (i + 1))) at ≡ total = rw k at h in
      sym (rw e at g)

  pub skip_end : (count i : ℕ) (at : Input) (total : Option Input) → count ≤ i → skip_at parse (count - i) at ≡ total → total ≡ Some at
  skip_end count i at total le h =
      let k : count - i ≡ 0 = omega arith in
      sym (rw k at h)

-- The length of a list whose encoding was checked.
module _ {A : Type 0} (parse : Input → Option (A × Input)) where
  length_of : (n : ℕ) (r : Option (A × Input)) → ((x : A × Input) → HasItems parse n x.1 → length (items_of parse n x.1) ≡ n) → MatchOption r ⊥ (λ x. HasItems parse n x.1)
      → length (some_or r [] (λ x. x.0 ∷ items_of parse n x.1)) ≡ suc n
  length_of n None f h = absurd h
  length_of n (Some x) f h = let e = f x h in omega arith

  -- If the bytes encode n items, `items_of` has n items.
  pub length-items_of : (n : ℕ) (at : Input) → HasItems parse n at → length (items_of parse n at) ≡ n
  length-items_of zero at h = refl
  length-items_of (suc n) at h = length_of n (parse at) (λ x. length-items_of n x.1) h

-- Reading n items, if skipping them succeeds or fails.
module _ {A : Type 0} (parse : Input → Option (A × Input)) where
  -- If n items can be skipped, reading them gives these items.
  pub items_some : (n : ℕ) (at e : Input) → skip_at parse n at ≡ Some e → items_at parse n at ≡ Some (items_of parse n at, e)
  items_some n at e s = rw (items_at-skip parse n at, s) refl

  -- If n items can't be skipped, they can't be read.
  pub items_none : (n : ℕ) (at : Input) → skip_at parse n at ≡ None → items_at parse n at ≡ None
  items_none n at s = rw (items_at-skip parse n at, s) refl

-- The items after the first.
module _ {A : Type 0} (parse : Input → Option (A × Input)) (n : ℕ) (at : Input) (x : A) (after : Input) (some : n ≢ 0) (read : parse at ≡ Some (x, after)) where
  -- The number of items is not zero.
  one_more : n ≡ suc (n - 1)
  one_more = omega (arith, some)

  -- The value that was read is the first item.
  pub items_of-first : items_of parse n at ≡ x ∷ items_of parse (n - 1) after
  items_of-first = ap (λ (k : ℕ). items_of parse k at) one_more ∙ rw read refl

  -- If the bytes encode n items, the bytes after the first item encode the others.
  pub HasItems-rest : HasItems parse n at → HasItems parse (n - 1) after
  HasItems-rest h =
      let g : HasItems parse (suc (n - 1)) at = rw one_more at h in
      rw read at g

-- A count, and that many items.
module _ {A : Type 0} (parse : Input → Option (A × Input)) where
  -- If the items can be skipped after the count, reading the vector gives these items.
  pub vec_some : (old mid e : Input) (n : ℕ) → u32.parse old ≡ Some (n, mid) → skip_at parse n mid ≡ Some e → vec_at parse old ≡ Some (items_of parse n mid, e)
  vec_some old mid e n c s = rw (c, items_at-skip parse n mid, s) refl

  -- If the items can't be skipped after the count, the vector can't be read.
  pub vec_none : (old mid : Input) (n : ℕ) → u32.parse old ≡ Some (n, mid) → skip_at parse n mid ≡ None → vec_at parse old ≡ None
  vec_none old mid n c s = rw (c, items_at-skip parse n mid, s) refl
