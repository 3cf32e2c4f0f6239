-- The names of a list and of a tree, both in ascending order of their keys, merged into one list.
use Rattle.std.proofs.Common.{◌≡◌, ℕ, List, [], ◌∷◌, ◌++◌, length, arith, refl, sym, ap, ◌∙◌, subst, true≢false, append_assoc}
use Rattle.std.proofs.lemmas.List.{append-nil}
use Rattle.std.proofs.lemmas.Cmp.{tied_itself}
use Rattle.std.proofs.lemmas.Map.Entries.{lookup_head}
use Rattle.std.specs.Prelude.{Bool, true, false, Some, None, Option, if◌then◌else◌}
use Rattle.std.specs.List.{AllByRecursion}
use Rattle.std.specs.List.Sorted.{IsStrictlySortedBy}
use Rattle.std.specs.declared.cmp.Ordering.{Ordering}
use Rattle.std.specs.declared.cmp.Ordering.TheVariants.{Less, Equal, Greater}
use Rattle.std.specs.Ordering.{is_eq, is_lt, ordering_reverse}
use Rattle.std.specs.Option.{option_or, is_some, IsSome, IfSome, option_to_list}
use Rattle.std.specs.Map.Iter.{TakesFirst}
use Rattle.std.specs.Map.{keys_of}
use Rattle.std.specs.BTreeMap.{is_at}
use Rattle.wasmprinter_custom.specs.Views.{key_cmp}
use Rattle.wasmprinter_custom.specs.Lookups.{Ascends, AreDisjoint, stored_at}
use Rattle.wasmprinter_custom.specs.declared.names.Key.{Key}
use Rattle.wasmprinter_custom.specs.declared.names.StoredName.{StoredName}
use Rattle.wasmprinter_custom.proofs.Lookups.{key_total}
use Rattle.wasmprinter_custom.proofs.Placing.{stored_either, same_stored}

-- The names of the list es and the tree fs are merged into `all`, except those of es' and fs', which remain.
pub record Merging (es fs all es' fs' : List (Key × StoredName)) : Type 0 where
  pub list : Ascends (all ++ es')
  pub tree : Ascends (all ++ fs')
  pub disjoint : AreDisjoint es' fs'
  pub names : (q : Key) → stored_at (all ++ (fs' ++ es')) q ≡ stored_at (fs ++ es) q

-- ---- One name between two lists

abbrev AllBelow : List (Key × StoredName) → Key → Type 0
AllBelow es p = AllByRecursion (λ k. key_cmp k p ≡ Less) (keys_of es)

abbrev AllAbove : List (Key × StoredName) → Key → Type 0
AllAbove es p = AllByRecursion (λ k. key_cmp p k ≡ Less) (keys_of es)

-- Entries above a key are above each lower key.
above_lower : (es : List (Key × StoredName)) (p q : Key) → key_cmp p q ≡ Less → AllAbove es q → AllAbove es p
above_lower [] p q less all = tt
above_lower (e ∷ es) p q less all = (key_total.trans p q e.0 less all.0, above_lower es p q less all.1)

-- An entry and those after it are above each key that is lower than the entry's.
head_above : (es : List (Key × StoredName)) (e : Key × StoredName) (p : Key) → key_cmp p e.0 ≡ Less → Ascends (e ∷ es) → AllAbove (e ∷ es) p
unfolding IsStrictlySortedBy
head_above es e p less s = (less, above_lower es p e.0 less s.0)

-- The last entries of an ascending list are an ascending list.
back_ascends : (all es : List (Key × StoredName)) → Ascends (all ++ es) → Ascends es
unfolding IsStrictlySortedBy
back_ascends [] es s = s
back_ascends (a ∷ all) es s = back_ascends all es s.1

among_appended : (P : Key → Type 0) (all es : List (Key × StoredName)) (e : Key × StoredName) → AllByRecursion P (keys_of (all ++ e ∷ es)) → P e.0
among_appended P [] es e h = h.0
among_appended P (a ∷ all) es e h = among_appended P all es e h.1

among_inserted : (P : Key → Type 0) (all es : List (Key × StoredName)) (e : Key × StoredName) → P e.0 → AllByRecursion P (keys_of (all ++ es)) → AllByRecursion P (keys_of (all ++ e ∷ es))
among_inserted P [] es e at h = (at, h)
among_inserted P (a ∷ all) es e at h = (h.0, among_inserted P all es e at h.1)

-- An entry that continues an ascending list and is below the entries that follow can be inserted between them.
between_ascends : (all es fs : List (Key × StoredName)) (e : Key × StoredName) → Ascends (all ++ e ∷ es) → Ascends (all ++ fs) → AllAbove fs e.0 → Ascends (all ++ e ∷ fs)
unfolding IsStrictlySortedBy
between_ascends [] es fs e s t above = (above, t)
between_ascends (a ∷ all) es fs e s t above = (
  among_inserted (λ k. key_cmp a.0 k ≡ Less) all fs e (among_appended (λ k. key_cmp a.0 k ≡ Less) all es e s.0) t.0,
  between_ascends all es fs e s.1 t.1 above,
)

-- The list is empty, or its first key is not below this one.
abbrev BeginsAfter : List (Key × StoredName) → Key → Type 0
BeginsAfter [] p = Unit {0}
BeginsAfter (e ∷ es) p = is_lt (key_cmp e.0 p) ≡ false

-- ---- The steps

pub merging_none : (es fs : List (Key × StoredName)) → Ascends es → Ascends fs → AreDisjoint es fs → Merging es fs [] es fs
merging_none es fs s t apart = record { list = s; tree = t; disjoint = apart; names = λ q. refl }

-- If the first name of the tree is below the first name of the list, the name of the tree comes next.
pub merging_late : (es fs all es' fs' rest : List (Key × StoredName)) (e f : Key × StoredName) → fs' ≡ f ∷ rest → key_cmp f.0 e.0 ≡ Less
    → Merging es fs all (e ∷ es') fs' → Merging es fs (all ++ f ∷ []) (e ∷ es') rest
merging_late es fs all es' fs' rest e f first less m = record {
  list =
      subst Ascends (sym (append_assoc all (f ∷ []) (e ∷ es')))
      (between_ascends all rest (e ∷ es') f tree m.list (head_above es' e f.0 less (back_ascends all (e ∷ es') m.list)));
  tree = subst Ascends (sym (append_assoc all (f ∷ []) rest)) tree;
  disjoint = λ q some. without q (ap (λ (l : List (Key × StoredName)). stored_at l q) (sym first) ∙ m.disjoint q some);
  names = λ q. ap (λ (l : List (Key × StoredName)). stored_at l q) (append_assoc all (f ∷ []) (rest ++ e ∷ es'))
      ∙ ap (λ (l : List (Key × StoredName)). stored_at (all ++ (l ++ e ∷ es')) q) (sym first) ∙ m.names q;
}
  where
    tree : Ascends (all ++ f ∷ rest)
    tree = subst (λ (l : List (Key × StoredName)). Ascends (all ++ l)) first m.tree

    without : (q : Key) → stored_at (f ∷ rest) q ≡ None → stored_at rest q ≡ None
    without q h = by (is_at (key_cmp q) f.0) h
      where
        by : (b : Bool) → (if b then Some f.1 else stored_at rest q) ≡ None → stored_at rest q ≡ None
        by true h = absurd cc
        by false h = h

-- If the first name of the tree, if there is one, is above the first name of the list,
-- the name of the list comes next.
pub merging_next : (es fs all es' fs' : List (Key × StoredName)) (e : Key × StoredName) → BeginsAfter fs' e.0
    → Merging es fs all (e ∷ es') fs' → Merging es fs (all ++ e ∷ []) es' fs'
merging_next es fs all es' fs' e after m = record {
  list = subst Ascends (sym (append_assoc all (e ∷ []) es')) m.list;
  tree = subst Ascends (sym (append_assoc all (e ∷ []) fs')) (between_ascends all es' fs' e m.list m.tree (above fs' after (back_ascends all fs' m.tree) none));
  disjoint = λ q some. m.disjoint q (or (is_at (key_cmp q) e.0) q some);
  names = λ q. ap (λ (l : List (Key × StoredName)). stored_at l q) (append_assoc all (e ∷ []) (fs' ++ es'))
      ∙ stored_either all (e ∷ (fs' ++ es')) q ∙ ap (option_or (stored_at all q)) (moved q) ∙ sym (stored_either all (fs' ++ e ∷ es') q) ∙ m.names q;
}
  where
    none : stored_at fs' e.0 ≡ None
    none = m.disjoint e.0 (ap is_some (lookup_head (is_at (key_cmp e.0)) e es' (ap is_eq (tied_itself key_total e.0))))

    or : (b : Bool) (q : Key) → IsSome (stored_at es' q) → IsSome (if b then Some e.1 else stored_at es' q)
    or true q some = refl
    or false q some = some

    above : (gs : List (Key × StoredName)) → BeginsAfter gs e.0 → Ascends gs → stored_at gs e.0 ≡ None → AllAbove gs e.0
    above [] after t none = tt
    above (g ∷ gs) after t none = head_above gs g e.0 (by (key_cmp e.0 g.0) refl) t
      where
        by : (o : Ordering) → key_cmp e.0 g.0 ≡ o → o ≡ Less
        by Less h = refl
        by Equal h = absurd (true≢false (ap is_some (sym (ap (λ (r : Ordering). if is_eq r then Some g.1 else stored_at gs e.0) h) ∙ none)))
        by Greater h = absurd (true≢false (sym (ap is_lt (key_total.antisymm g.0 e.0 ∙ ap ordering_reverse h)) ∙ after))

    moved : (q : Key) → stored_at (e ∷ (fs' ++ es')) q ≡ stored_at (fs' ++ e ∷ es') q
    moved q = by (is_at (key_cmp q) e.0) refl ∙ sym (stored_either fs' (e ∷ es') q)
      where
        by : (b : Bool) → is_at (key_cmp q) e.0 ≡ b
            → (if b then Some e.1 else stored_at (fs' ++ es') q) ≡ option_or (stored_at fs' q) (if b then Some e.1 else stored_at es' q)
        by true hit = ap (λ (o : Option StoredName). option_or o (Some e.1)) (sym (same_stored fs' e.0 q hit ∙ none))
        by false hit = stored_either fs' es' q

-- ---- The tree, by its next name and the iterator over the others

-- The state of merging, where `next` is the next name of the tree. An iterator that has
-- returned `None` has no names left.
pub record Waiting (es fs all es' : List (Key × StoredName)) (next : Option (Key × StoredName)) (rest : List (Key × StoredName)) : Type 0 where
  pub merging : Merging es fs all es' (option_to_list next ++ rest)
  pub ended : next ≡ None → rest ≡ []

pub next_left : (s t : List (Key × StoredName)) (r : Option (Key × StoredName)) → TakesFirst (λ e. e) s r t → option_to_list r ++ t ≡ s
next_left s t None h = h.1 ∙ sym h.0
next_left s t (Some x) h = sym h

pub next_ended : (s t : List (Key × StoredName)) (r : Option (Key × StoredName)) → TakesFirst (λ e. e) s r t → r ≡ None → t ≡ []
next_ended s t None h none = h.1
next_ended s t (Some x) h none = absurd cc

-- The state at the start, with the iterator's first name.
pub waiting_none : (es fs s t : List (Key × StoredName)) (r : Option (Key × StoredName)) → Ascends es → Ascends fs → AreDisjoint es fs → s ≡ fs → TakesFirst (λ e. e) s r t
    → Waiting es fs [] es r t
waiting_none es fs s t r a b apart same h = record {
  merging = subst (λ (l : List (Key × StoredName)). Merging es fs [] es l) (sym (next_left s t r h ∙ same)) (merging_none es fs a b apart);
  ended = next_ended s t r h;
}

-- The step that takes a name of the tree, and then the iterator's next name.
pub waiting_late : (es fs all es' s t : List (Key × StoredName)) (e f : Key × StoredName) (next r : Option (Key × StoredName)) → next ≡ Some f → key_cmp f.0 e.0 ≡ Less → TakesFirst (λ e. e) s r t
    → Waiting es fs all (e ∷ es') next s → Waiting es fs (all ++ f ∷ []) (e ∷ es') r t
waiting_late es fs all es' s t e f next r some less h w = record {
  merging =
      merging_late es fs all es' (option_to_list next ++ s) (option_to_list r ++ t) e f
      (ap (λ (o : Option (Key × StoredName)). option_to_list o ++ s) some ∙ ap (λ (l : List (Key × StoredName)). f ∷ l) (sym (next_left s t r h))) less w.merging;
  ended = next_ended s t r h;
}

-- The step that takes a name of the list.
pub waiting_next : (es fs all es' s : List (Key × StoredName)) (e : Key × StoredName) (next : Option (Key × StoredName)) → IfSome next (λ f. is_lt (key_cmp f.0 e.0) ≡ false)
    → Waiting es fs all (e ∷ es') next s → Waiting es fs (all ++ e ∷ []) es' next s
waiting_next es fs all es' s e next after w = record {
  merging = merging_next es fs all es' (option_to_list next ++ s) e (begins next w.ended after) w.merging;
  ended = w.ended;
}
  where
    begins : (o : Option (Key × StoredName)) → (o ≡ None → s ≡ []) → IfSome o (λ f. is_lt (key_cmp f.0 e.0) ≡ false) → BeginsAfter (option_to_list o ++ s) e.0
    begins None ended after = subst (λ (l : List (Key × StoredName)). BeginsAfter l e.0) (sym (ended refl)) tt
    begins (Some f) ended after = after

-- If no name of the list remains, the remaining names of the tree come last.
pub merged : (es fs all es' fs' : List (Key × StoredName)) (n : ℕ) → n ≡ length es' → n ≡ 0 → Merging es fs all es' fs'
    → (q : Key) → stored_at (all ++ fs') q ≡ stored_at (fs ++ es) q
merged es fs all [] fs' n len none m q = ap (λ (l : List (Key × StoredName)). stored_at (all ++ l) q) (sym (append-nil fs')) ∙ m.names q
merged es fs all (e ∷ es') fs' n len none m q = absurd (omega (arith, len, none))
