-- The identifier of an item is resolved to that item.
use Rattle.std.proofs.Common.{◌≡◌, ◌≢◌, ℕ, zero, suc, ◌+◌, ◌-◌, ◌<◌, ◌≤◌, ◌^◌, List, ◌∷◌, Bool, true, false, bytes_eq, Option, Some, None, refl, ap, ◌∙◌, subst, arith}
use Rattle.std.specs.Prelude.{nat_eq}
use Rattle.std.proofs.lemmas.Bool.{eqb-true, eqb-false, false_from_ne_true}
use Rattle.wasmprinter_spec.specs.IndexSpaces.{declares, is_declared, are_distinct, resolve}
use Rattle.wasmprinter_spec.specs.Labels.{Named}
use Rattle.wasmprinter_spec.specs.Names.{identifiers_at, identifiers, AreDistinct}
use Rattle.wasmprinter_laws.specs.NameLaws.{IdentifiersResolve}
use Rattle.wasmprinter_laws.proofs.Bytes.{bytes_same, same_bytes}
use Rattle.wasmprinter_laws.proofs.Declarations.{id}

module _ (named : ℕ → Option Named) (c : List ℕ) where
  -- If no declaration has the identifier, it is not declared.
  undeclared : (n k : ℕ) → ((j : ℕ) → k ≤ j → j < k + n → declares c (id (named j)) ≡ false)
      → is_declared c (identifiers_at named k n) ≡ false
  undeclared zero k h = refl
  undeclared (suc n) k h = rw (h k (omega arith) (omega arith)) (undeclared n (k + 1) (λ j p q. h j (omega (arith, p)) (omega (arith, q))))

  place_by : (n k i : ℕ) (b : Bool) → nat_eq k i ≡ b → k ≤ i → i < k + suc n → declares c (id (named i)) ≡ true
      → ((j : ℕ) → k ≤ j → j < k + suc n → j ≢ i → declares c (id (named j)) ≡ false)
      → ((k + 1 ≤ i) → resolve c (identifiers_at named (k + 1) n) ≡ Some (i - (k + 1)))
      → resolve c (identifiers_at named k (suc n)) ≡ Some (i - k)
  place_by n k i true e p q d h rest =
      let same : k ≡ i = eqb-true k i e in
      let here : declares c (id (named k)) ≡ true = ap (λ x. declares c (id (named x))) same ∙ d in
      let none : i - k ≡ 0 = omega (arith, same) in
      rw (here, none) refl
  place_by n k i false e p q d h rest =
      let apart : k ≢ i = eqb-false k i e in
      let later : k + 1 ≤ i = omega (arith, apart, p) in
      let before : declares c (id (named k)) ≡ false = h k (omega arith) (omega arith) apart in
      let one : (i - (k + 1)) + 1 ≡ i - k = omega (arith, later) in
      rw (before, rest later) (ap Some one)

  -- If exactly one declaration has the identifier, it is resolved to the position of that declaration.
  place_of : (n k i : ℕ) → k ≤ i → i < k + n → declares c (id (named i)) ≡ true
      → ((j : ℕ) → k ≤ j → j < k + n → j ≢ i → declares c (id (named j)) ≡ false)
      → resolve c (identifiers_at named k n) ≡ Some (i - k)
  place_of zero k i p q d h = absurd (omega (arith, p, q))
  place_of (suc n) k i p q d h =
      place_by n k i (nat_eq k i) refl p q d h
      (λ later. place_of n (k + 1) i later (omega (arith, q)) d (λ j a b ne. h j (omega (arith, a)) (omega (arith, b)) ne))

module _ (named : ℕ → Option Named) (apart : AreDistinct named) where
  -- No other item has the identifier of an item.
  other_by : (i j : ℕ) (n : Named) (o : Option Named) → i < 2 ^ 64 → j < 2 ^ 64 → j ≢ i → named i ≡ Some n → named j ≡ o
      → declares n.content (id o) ≡ false
  other_by i j n None p q ne e f = refl
  other_by i j n (Some m) p q ne e f =
      false_from_ne_true (bytes_eq m.content n.content) (λ t. ne (apart j i m n q p f e (bytes_same m.content n.content t)))

  pub resolves : (count i : ℕ) (n : Named) → count ≤ 2 ^ 64 → i < count → named i ≡ Some n → resolve n.content (identifiers named count) ≡ Some i
  resolves count i n le lt e =
      let here : declares n.content (id (named i)) ≡ true = ap (λ o. declares n.content (id o)) e ∙ same_bytes n.content in
      let at_start : i - 0 ≡ i = omega arith in
      subst (λ (k : ℕ). resolve n.content (identifiers named count) ≡ Some k) at_start
      (place_of named n.content count 0 i (omega arith) (omega (arith, lt)) here
      (λ j a b ne. other_by i j n (named j) (omega (arith, lt, le)) (omega (arith, b, le)) ne e refl))

  distinct_by : (k n : ℕ) (o : Option Named) → k + suc n ≤ 2 ^ 64 → named k ≡ o → are_distinct (identifiers_at named (k + 1) n) ≡ true
      → are_distinct (id o ∷ identifiers_at named (k + 1) n) ≡ true
  distinct_by k n None le e rest = rest
  distinct_by k n (Some m) le e rest =
      let new : is_declared m.content (identifiers_at named (k + 1) n) ≡ false =
      undeclared named m.content n (k + 1) (λ j a b. other_by k j m (named j) (omega (arith, le)) (omega (arith, b, le)) (λ s. absurd (omega (arith, a, s))) e refl) in
      rw (new, rest) refl

  distinct_at : (n k : ℕ) → k + n ≤ 2 ^ 64 → are_distinct (identifiers_at named k n) ≡ true
  distinct_at zero k le = refl
  distinct_at (suc n) k le = distinct_by k n (named k) le refl (distinct_at n (k + 1) (omega (arith, le)))

  pub identifiers_are_distinct : (count : ℕ) → count ≤ 2 ^ 64 → are_distinct (identifiers named count) ≡ true
  identifiers_are_distinct count le = distinct_at count 0 (omega (arith, le))

pub identifiers_resolve : IdentifiersResolve
identifiers_resolve named count apart few = (identifiers_are_distinct named apart count few, λ i n lt e. resolves named apart count i n few lt e)
