-- The name that a list of names in ascending order has for a key.
use Rattle.std.proofs.Common.{◌≡◌, ℕ, suc, ◌+◌, ◌<◌, List, [], ◌∷◌, length, get_or, inl, inr, refl, sym, ap, ◌∙◌, subst, arith, true≢false}
use Rattle.std.proofs.lemmas.Bool.{cases_lt}
use Rattle.std.proofs.lemmas.Cmp.{then_total, on_total, nat_cmp_total, tied_itself, eq_by_cmp_equiv}
use Rattle.std.proofs.lemmas.List.{get_or_default, get_or-map}
use Rattle.std.proofs.lemmas.List.Sorted.{searchable_from_sorted}
use Rattle.std.proofs.lemmas.Map.{NonePasses, lookup-none}
use Rattle.std.proofs.lemmas.Map.Entries.{length-keys_of, lookup_head, lookup_from_place}
use Rattle.std.proofs.lemmas.Map.Keys.{Less-from_sorted, IsDistinct-from_sorted}
use Rattle.std.proofs.lemmas.Option.{none-some, slice_get_read}
use Rattle.std.specs.Prelude.{Bool, true, false, nat_eq, ◌&&◌, map, Some, None, IfSome, IfNone, option_map, Result, Ok, Err}
use Rattle.std.specs.declared.cmp.Ordering.{Ordering}
use Rattle.std.specs.declared.cmp.Ordering.TheVariants.{Less, Equal, Greater}
use Rattle.std.specs.Ordering.{nat_cmp, ordering_then, partial_ordering_then, ordering_reverse, ordering_index, is_eq, is_lt, is_some_and, eq_by_cmp}
use Rattle.std.specs.Cmp.{IsTotalOrder}
use Rattle.std.specs.BTreeMap.{is_at}
use Rattle.std.specs.Map.{keys_of, lookup}
use Rattle.std.specs.Result.{result_ok}
use Rattle.std.specs.List.{HoldsAt}
use Rattle.std.specs.List.Sorted.{IsNonDecreasingBy, IsBinarySearchResult}
use Rattle.wasmprinter_custom.specs.Views.{key_cmp, stored_view, item_view, name_at}
use Rattle.wasmprinter_custom.specs.Lookups.{Ascends, AllAreBefore, AllAreAfter, stored_at}
use Rattle.wasmprinter_custom.specs.declared.names.Key.{Key}
use Rattle.wasmprinter_custom.specs.declared.names.StoredName.{StoredName}
use Rattle.wasmprinter_custom.proofs.Adding.{same_key, name_at-lookup}

-- ---- The order of keys

pub key_total : IsTotalOrder key_cmp
key_total =
    then_total (on_total (λ (p : Key). p.subsection) nat_cmp_total)
    (then_total (on_total (λ (p : Key). p.outer) nat_cmp_total) (on_total (λ (p : Key). p.index) nat_cmp_total))

lt_then : (a b c : Ordering) → is_some_and is_lt (partial_ordering_then (Some a) (partial_ordering_then (Some b) (Some c))) ≡ true → ordering_then a (ordering_then b c) ≡ Less
lt_then Less b c t = refl
lt_then Equal Less c t = refl
lt_then Equal Equal Less t = refl
lt_then Equal Equal Equal t = absurd (true≢false (sym t))
lt_then Equal Equal Greater t = absurd (true≢false (sym t))
lt_then Equal Greater c t = absurd (true≢false (sym t))
lt_then Greater b c t = absurd (true≢false (sym t))

-- The program's `<` on keys implies that the first key is less.
pub less_by_lt : (p q : Key) (b : Bool)
    → b ≡ is_some_and is_lt (partial_ordering_then (Some (nat_cmp p.subsection q.subsection)) (partial_ordering_then (Some (nat_cmp p.outer q.outer)) (Some (nat_cmp p.index q.index))))
    → b ≡ true → key_cmp p q ≡ Less
less_by_lt p q b e t = lt_then (nat_cmp p.subsection q.subsection) (nat_cmp p.outer q.outer) (nat_cmp p.index q.index) (sym e ∙ t)

-- The program's `==` on keys implies that the keys are equal.
pub same_by_eq : (p q : Key) (b : Bool) → b ≡ (nat_eq p.subsection q.subsection && (nat_eq p.outer q.outer && nat_eq p.index q.index)) → b ≡ true → eq_by_cmp key_cmp p q ≡ true
same_by_eq p q b e t = same_key p q ∙ assoc (nat_eq p.subsection q.subsection) (nat_eq p.outer q.outer) (nat_eq p.index q.index) ∙ sym e ∙ t
  where
    assoc : (u v w : Bool) → ((u && v) && w) ≡ (u && (v && w))
    assoc true v w = refl
    assoc false v w = refl

pub turned : (p q : Key) → key_cmp p q ≡ Less → key_cmp q p ≡ Greater
turned p q less = key_total.antisymm q p ∙ ap ordering_reverse less

-- ---- Entries in ascending order

module _ (es : List (Key × StoredName)) (s : Ascends es) where
  pub rises : (i j : ℕ) (d : Key × StoredName) → i < j → j < length es → key_cmp (get_or es i d).0 (get_or es j d).0 ≡ Less
  rises i j d lt within =
      let key : (k : ℕ) → k < length es → get_or (keys_of es) k d.0 ≡ (get_or es k d).0 = λ k low. get_or-map (λ (e : Key × StoredName). e.0) es k d d.0 low in
      ap (λ (p : Key). key_cmp p (get_or es j d).0) (sym (key i (omega arith)))
      ∙ ap (λ (p : Key). key_cmp (get_or (keys_of es) i d.0) p) (sym (key j within))
      ∙ Less-from_sorted key_cmp (keys_of es) i j d.0 s lt (omega (arith, length-keys_of es))

  -- If an entry has a lower key, so have all entries before it.
  pub all_before : (q : Key) (i : ℕ) (e : Key × StoredName) → i < length es → e ≡ get_or es i e → key_cmp e.0 q ≡ Less → AllAreBefore es (i + 1) q
  all_before q i e within at less k d low high =
      let here : key_cmp (get_or es i d).0 q ≡ Less = ap (λ (x : Key × StoredName). key_cmp x.0 q) (get_or_default es i d e within ∙ sym at) ∙ less in
      elim (cases_lt k i) [
        | inl lt ↦ key_total.trans (get_or es k d).0 (get_or es i d).0 q (rises k i d lt within) here
        | inr ge ↦ subst (λ (n : ℕ). key_cmp (get_or es n d).0 q ≡ Less) {x = i} {y = k} (omega arith) here
      ]

  -- If an entry has a higher key, so have all entries after it.
  pub all_after : (q : Key) (i : ℕ) (e : Key × StoredName) → i < length es → e ≡ get_or es i e → key_cmp q e.0 ≡ Less → AllAreAfter es i q
  all_after q i e within at less k d low high =
      let here : key_cmp q (get_or es i d).0 ≡ Less = ap (λ (x : Key × StoredName). key_cmp q x.0) (get_or_default es i d e within ∙ sym at) ∙ less in
      elim (cases_lt i k) [
        | inl lt ↦ turned q (get_or es k d).0 (key_total.trans q (get_or es i d).0 (get_or es k d).0 here (rises i k d lt high))
        | inr ge ↦ subst (λ (n : ℕ). key_cmp (get_or es n d).0 q ≡ Greater) {x = i} {y = k} (omega arith) (turned q (get_or es i d).0 here)
      ]

  -- A binary search can be applied: along the list, keys are first lower, then equal, then higher.
  pub searchable : (q : Key) → IsNonDecreasingBy (λ (e : Key × StoredName). ordering_index (key_cmp e.0 q)) es
  searchable q = searchable_from_sorted key_total (λ (e : Key × StoredName). e.0) es q (λ k d low high. ap is_lt (turned (get_or es k d).0 (get_or es (k + 1) d).0 (rises k (k + 1) d (omega arith) high)))

  -- The entry with the key has the name of the key.
  pub found : (q : Key) (i : ℕ) (e : Key × StoredName) → i < length es → e ≡ get_or es i e → eq_by_cmp key_cmp e.0 q ≡ true → Some e.1 ≡ stored_at es q
  found q i e within at hit =
      let laws = eq_by_cmp_equiv key_total in
      let own : lookup (eq_by_cmp key_cmp e.0) es ≡ Some e.1 = lookup_from_place laws es i e.0 e.1 (IsDistinct-from_sorted key_cmp (keys_of es) s) (slice_get_read es (length es) i e refl within at) in
      let tests : eq_by_cmp key_cmp e.0 ≡ is_at (key_cmp q) = λ j k. laws.congr e.0 q k hit j in
      sym own ∙ ap (λ (test : Key → Bool). lookup test es) tests

  pub found_at : (q : Key) (i : ℕ) (d : Key × StoredName) → i < length es → key_cmp (get_or es i d).0 q ≡ Equal → Some (get_or es i d).1 ≡ stored_at es q
  found_at q i d within equal = found q i (get_or es i d) within (get_or_default es i d (get_or es i d) within) (ap is_eq equal)

-- ---- No entry with the key

pub none_by : (es : List (Key × StoredName)) (q : Key) → ((k : ℕ) (d : Key × StoredName) → k < length es → is_at (key_cmp q) (get_or es k d).0 ≡ false) → NonePasses (is_at (key_cmp q)) es
none_by [] q h = tt
none_by (e ∷ es) q h = (h 0 e (omega arith), none_by es q (λ k d low. h (suc k) d (omega arith)))

-- If the entries before a position have lower keys and the others have higher keys, the key has no name.
pub none_there : (es : List (Key × StoredName)) (q : Key) (i : ℕ) → AllAreBefore es i q → AllAreAfter es i q → None ≡ stored_at es q
none_there es q i before after = sym (lookup-none (is_at (key_cmp q)) es (none_by es q (λ k d low. elim (cases_lt k i) [
  | inl lt ↦ ap is_eq (turned (get_or es k d).0 q (before k d (omega arith) lt))
  | inr ge ↦ ap is_eq (key_total.antisymm q (get_or es k d).0 ∙ ap ordering_reverse (after k d ge low))
])))

-- ---- The result of a binary search

pub search_at : (es : List (Key × StoredName)) (q : Key) (r : Result ℕ ℕ) → IsBinarySearchResult (λ e. key_cmp e.0 q) es r
    → IfSome (result_ok r) (HoldsAt (λ e. key_cmp e.0 q ≡ Equal) es)
search_at es q (Ok i) h = h
search_at es q (Err i) h = tt

pub search_none : (es : List (Key × StoredName)) (s : Ascends es) (q : Key) (r : Result ℕ ℕ) → IsBinarySearchResult (λ e. key_cmp e.0 q) es r
    → IfNone (result_ok r) (stored_at es q ≡ None)
search_none es s q (Ok i) h = tt
search_none es s q (Err i) h = let parted = h (searchable es s q) in sym (none_there es q i parted.0 parted.1)

-- ---- An empty list

-- The key of the first entry has a name.
named : (e : Key × StoredName) (es : List (Key × StoredName)) → name_at (map item_view (e ∷ es)) e.0.subsection e.0.outer e.0.index ≡ Some (stored_view e.1)
named e es = sym (name_at-lookup (e ∷ es) e.0) ∙ ap (option_map stored_view) (lookup_head (is_at (key_cmp e.0)) e es (ap is_eq (tied_itself key_total e.0)))

-- If no key has a name, the list is empty.
pub empty_where_none : (es : List (Key × StoredName)) → ((s outer index : ℕ) → name_at (map item_view es) s outer index ≡ None) → es ≡ []
empty_where_none [] h = refl
empty_where_none (e ∷ es) h = absurd (none-some (stored_view e.1) (sym (h e.0.subsection e.0.outer e.0.index) ∙ named e es))
