-- Values of the program, and the values that the definitions read in their place.
use Rattle.std.proofs.Common.{◌≡◌, ℕ, zero, suc, List, ◌∷◌, map, Option, Some, None, refl, sym, ap, ◌∙◌}
use Rattle.std.specs.Prelude.{Result, Ok, Err}
use Rattle.wasmprinter_spec.specs.Grammar.{Input, ◌>>=◌}
use Rattle.wasmprinter_spec.specs.Name.{u32}
use Rattle.wasmprinter_spec.specs.Repeated.{items_at}
use Rattle.wasmprinter_bytes.specs.Lists.{vec_at}
use Rattle.wasmprinter_bytes.specs.Reads.{Reads}
use Rattle.wasmprinter_bytes.specs.declared.malformed.Malformed.{Malformed}

module _ {A B : Type 0} (make : A → B) (see : B → A) (back : (a : A) → see (make a) ≡ a) (parse : Input → Option (A × Input)) where
  -- The value that was read, as a value of the program.
  abbrev made_of : Option (A × Input) → Option (B × Input)
  made_of r = r >>= λ x. Some (make x.0, x.1)

  -- Reads a value of the program.
  abbrev made_at : Input → Option (B × Input)
  made_at at = made_of (parse at)

  -- The values of the definitions that the values of the program represent.
  abbrev seen_at : Option (List B × Input) → Option (List A × Input)
  seen_at r = r >>= λ ys. Some (map see ys.0, ys.1)

  -- The list with one more item at the front.
  abbrev in_front : {X : Type 0} → X → Option (List X × Input) → Option (List X × Input)
  in_front x r = r >>= λ b. Some (x ∷ b.0, b.1)

  -- One more item of the program represents one more item of the definitions.
  one_made : (x : A) (r : Option (List B × Input)) → in_front x (seen_at r) ≡ seen_at (in_front (make x) r)
  one_made x None = refl
  one_made x (Some b) = ap (λ (a : A). Some (a ∷ map see b.0, b.1)) (sym (back x))

  -- The items after the first: if the rest of the list is represented, so is the list with the first item.
  first_made : (n : ℕ) (r : Option (A × Input)) → ((x : A × Input) → items_at parse n x.1 ≡ seen_at (items_at made_at n x.1))
      → (r >>= λ a. in_front a.0 (items_at parse n a.1)) ≡ seen_at (made_of r >>= λ a. in_front a.0 (items_at made_at n a.1))
  first_made n None h = refl
  first_made n (Some x) h = ap (in_front x.0) (h x) ∙ one_made x.0 (items_at made_at n x.1)

  -- The items of the definitions are those that the items of the program represent.
  items_made : (n : ℕ) (at : Input) → items_at parse n at ≡ seen_at (items_at made_at n at)
  items_made zero at = refl
  items_made (suc n) at = first_made n (parse at) (λ x. items_made n x.1)

  -- The items with their count.
  abbrev counted : {X : Type 0} → ℕ → Option (List X × Input) → Option ((ℕ × List X) × Input)
  counted n r = r >>= λ xs. Some ((n, xs.0), xs.1)

  -- The items without their count.
  abbrev uncounted : {X : Type 0} → Option ((ℕ × List X) × Input) → Option (List X × Input)
  uncounted r = r >>= λ ((_, xs), after). Some (xs, after)

  -- Attaching and removing the count does not change the items.
  count_made : (n : ℕ) (r : Option (List B × Input)) → uncounted (counted n (seen_at r)) ≡ seen_at (uncounted (counted n r))
  count_made n None = refl
  count_made n (Some b) = refl

  -- The items after a count that was read are those that the items of the program represent.
  vec_of_count : (r : Option (ℕ × Input)) → uncounted (r >>= λ n. counted n.0 (items_at parse n.0 n.1)) ≡ seen_at (uncounted (r >>= λ n. counted n.0 (items_at made_at n.0 n.1)))
  vec_of_count None = refl
  vec_of_count (Some n) = ap (λ (r : Option (List A × Input)). uncounted (counted n.0 r)) (items_made n.0 n.1) ∙ count_made n.0 (items_at made_at n.0 n.1)

  -- The vector of the definitions is the one that the vector of the program represents.
  vec_made : (at : Input) → vec_at parse at ≡ seen_at (vec_at made_at at)
  vec_made at = vec_of_count (u32.parse at)

  -- A function that reads a vector of the program's values reads the vector of the definitions that it represents.
  pub reads_made : (old new : Input) (r : Result (List B) Malformed) → Reads (λ ys. ys) (vec_at made_at) old r new → Reads (λ ys. map see ys) (vec_at parse) old r new
  reads_made old new (Ok ys) e = vec_made old ∙ ap seen_at e
  reads_made old new (Err m) e = vec_made old ∙ ap seen_at e
