-- The number of imports of a kind.
use Rattle.std.proofs.Common.{◌≡◌, ℕ, suc, ◌+◌, ◌<◌, ◌≤◌, get_or, drop, List, [], ◌∷◌, length, refl, sym, ap, subst, ◌∙◌}
use Rattle.std.proofs.Math.ListN.{drop_of_length-le}
use Rattle.std.proofs.lemmas.List.{at_drop_more}
use Rattle.wasmprinter_spec.specs.Grammar.{Placed}
use Rattle.wasmprinter_spec.specs.Types.{ExternKind, FuncKind, TableKind, MemoryKind, GlobalKind, TagKind, ExternType, FuncExtern, TableExtern, MemoryExtern, GlobalExtern, TagExtern}
use Rattle.wasmprinter_spec.specs.Placed.{Import}
use Rattle.wasmprinter_decoder.specs.Externs.{kind_of_type, imported_count}

-- An import of the kind at the front increases the count by one.
one_of : (t : ExternType) (x : Placed Import) (xs : List (Placed Import)) → x.value.type ≡ t → imported_count (kind_of_type t) (x ∷ xs) ≡ suc (imported_count (kind_of_type t) xs)
one_of (FuncExtern i) x xs e = rw e refl
one_of (TableExtern i) x xs e = rw e refl
one_of (MemoryExtern i) x xs e = rw e refl
one_of (GlobalExtern i) x xs e = rw e refl
one_of (TagExtern i) x xs e = rw e refl

-- An import of another kind at the front leaves the count unchanged.
none_of : (k : ExternKind) (t : ExternType) (x : Placed Import) (xs : List (Placed Import)) → x.value.type ≡ t → (kind_of_type t ≡ k → ⊥)
    → imported_count k (x ∷ xs) ≡ imported_count k xs
none_of FuncKind (FuncExtern i) x xs e ne = absurd (ne refl)
none_of FuncKind (TableExtern i) x xs e ne = rw e refl
none_of FuncKind (MemoryExtern i) x xs e ne = rw e refl
none_of FuncKind (GlobalExtern i) x xs e ne = rw e refl
none_of FuncKind (TagExtern i) x xs e ne = rw e refl
none_of TableKind (FuncExtern i) x xs e ne = rw e refl
none_of TableKind (TableExtern i) x xs e ne = absurd (ne refl)
none_of TableKind (MemoryExtern i) x xs e ne = rw e refl
none_of TableKind (GlobalExtern i) x xs e ne = rw e refl
none_of TableKind (TagExtern i) x xs e ne = rw e refl
none_of MemoryKind (FuncExtern i) x xs e ne = rw e refl
none_of MemoryKind (TableExtern i) x xs e ne = rw e refl
none_of MemoryKind (MemoryExtern i) x xs e ne = absurd (ne refl)
none_of MemoryKind (GlobalExtern i) x xs e ne = rw e refl
none_of MemoryKind (TagExtern i) x xs e ne = rw e refl
none_of GlobalKind (FuncExtern i) x xs e ne = rw e refl
none_of GlobalKind (TableExtern i) x xs e ne = rw e refl
none_of GlobalKind (MemoryExtern i) x xs e ne = rw e refl
none_of GlobalKind (GlobalExtern i) x xs e ne = absurd (ne refl)
none_of GlobalKind (TagExtern i) x xs e ne = rw e refl
none_of TagKind (FuncExtern i) x xs e ne = rw e refl
none_of TagKind (TableExtern i) x xs e ne = rw e refl
none_of TagKind (MemoryExtern i) x xs e ne = rw e refl
none_of TagKind (GlobalExtern i) x xs e ne = rw e refl
none_of TagKind (TagExtern i) x xs e ne = absurd (ne refl)

-- The number of imports of the kind from number `i` on.
abbrev pub count_from : ExternKind → List (Placed Import) → ℕ → ℕ
count_from k is i = imported_count k (drop i is)

module _ (k : ExternKind) (is : List (Placed Import)) (i : ℕ) (x d : Placed Import) (lt : i < length is) (same : x ≡ get_or is i d) where
  next : count_from k is i ≡ imported_count k (x ∷ drop (i + 1) is)
  next = at_drop_more (imported_count k) is i d lt ∙ ap (λ (y : Placed Import). imported_count k (y ∷ drop (i + 1) is)) (sym same)

  -- If the next import is of the kind, then the count from it on is one more than the count after it.
  pub count_one : kind_of_type x.value.type ≡ k → count_from k is i ≡ suc (count_from k is (i + 1))
  count_one e = next ∙ subst (λ (l : ExternKind). imported_count l (x ∷ drop (i + 1) is) ≡ suc (imported_count l (drop (i + 1) is))) e (one_of x.value.type x (drop (i + 1) is) refl)

  -- If the next import is of another kind, then both counts are equal.
  pub count_other : (kind_of_type x.value.type ≡ k → ⊥) → count_from k is i ≡ count_from k is (i + 1)
  count_other ne = next ∙ none_of k x.value.type x (drop (i + 1) is) refl ne

-- Among no imports the count is 0.
nothing : (k : ExternKind) → imported_count k [] ≡ 0
nothing FuncKind = refl
nothing TableKind = refl
nothing MemoryKind = refl
nothing GlobalKind = refl
nothing TagKind = refl

pub count_end : (k : ExternKind) (is : List (Placed Import)) (i : ℕ) → length is ≤ i → count_from k is i ≡ 0
count_end k is i le = ap (imported_count k) (drop_of_length-le is le) ∙ nothing k
