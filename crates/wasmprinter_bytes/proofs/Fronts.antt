-- A loop that reads items into a list.
use Rattle.std.proofs.Common.{◌≡◌, ℕ, suc, ◌+◌, ◌-◌, ◌<◌, List, [], ◌∷◌, ◌++◌, Option, Some, None, refl, sym, ap, subst, ◌∙◌, ◌⊎◌, inl, inr, append_assoc, arith}
use Rattle.std.specs.Prelude.{IsSome}
use Rattle.wasmprinter_spec.specs.Grammar.{Input, ◌>>=◌}
use Rattle.wasmprinter_spec.specs.Repeated.{items_at}

-- If a value is read at `at`, and `at` is `start` or a value can be read at `start`, then a
-- value can be read at `start`.
pub first_stands : {A : Type 0} (parse : Input → Option (A × Input)) (start at : Input) (x : A × Input) → (at ≡ start) ⊎ IsSome (parse start) → parse at ≡ Some x → IsSome (parse start)
first_stands parse start at x (inl here) e = subst (λ (y : Input). IsSome (parse y)) here (rw e refl)
first_stands parse start at x (inr there) e = there

-- The result of reading, with the items that were read before it prepended.
abbrev pub with_front : {A : Type 0} → List A → Option (List A × Input) → Option (List A × Input)
with_front front read = read >>= λ x. Some (front ++ x.0, x.1)

module _ {A : Type 0} (parse : Input → Option (A × Input)) where
  regroup : (xs : List A) (x : A) (r : Option (List A × Input)) → with_front xs (r >>= λ b. Some (x ∷ b.0, b.1)) ≡ with_front (xs ++ x ∷ []) r
  regroup xs x (Some b) = ap (λ (ys : List A). Some (ys, b.1)) (sym (append_assoc xs (x ∷ []) b.0))
  regroup xs x None = refl

  -- One step of the loop: after one more item is read, the items so far and those still to read have the same total.
  pub front_more : (xs : List A) (count i : ℕ) (at : Input) (x : A) (after : Input) (total : Option (List A × Input)) → i < count → parse at ≡ Some (x, after)
      → with_front xs (items_at parse (count - i) at) ≡ total → with_front (xs ++ x ∷ []) (items_at parse (count - (i + 1)) after) ≡ total
  front_more xs count i at x after total lt e h =
      let k : count - i ≡ suc (count - (i + 1)) = omega arith in
      let one : with_front xs (items_at parse (count - i) at) ≡ with_front (xs ++ x ∷ []) (items_at parse (count - (i + 1)) after) = rw (k, e) (regroup xs x (items_at parse (count - (i + 1)) after)) in
      sym one ∙ h
