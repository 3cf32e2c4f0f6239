-- Names that are added in the order of their keys, and names that are not.
use Rattle.std.proofs.Common.{◌≡◌, ℕ, zero, suc, ◌<◌, List, [], ◌∷◌, ◌++◌, length, get_or, set, IsTrue, refl, sym, ap, ◌∙◌, subst, arith, true≢false}
use Rattle.std.proofs.lemmas.Cmp.{eq_by_cmp_equiv}
use Rattle.std.proofs.lemmas.List.{get_or_default}
use Rattle.std.proofs.lemmas.List.Edits.{insert_end}
use Rattle.std.proofs.lemmas.Map.{lookup-insert, lookup-set_value, keys-set_value}
use Rattle.std.proofs.lemmas.Map.Keys.{sorted_tail}
use Rattle.std.specs.List.{AllByRecursion, HoldsAt}
use Rattle.std.specs.List.Sorted.{IsStrictlySortedBy}
use Rattle.std.specs.declared.cmp.Ordering.TheVariants.{Less, Equal}
use Rattle.std.specs.Ordering.{is_eq}
use Rattle.std.specs.Option.{option_or, is_some, IsSome}
use Rattle.std.specs.Map.{keys_of, lookup, set_value}
use Rattle.std.specs.Prelude.{Bool, true, false, Some, None, if◌then◌else◌, Option}
use Rattle.std.specs.BTreeMap.{is_at}
use Rattle.wasmprinter_custom.specs.Views.{key_cmp}
use Rattle.wasmprinter_custom.specs.Lookups.{Ascends, AllAreBefore, AreDisjoint, Gains, stored_at}
use Rattle.wasmprinter_custom.specs.declared.names.Key.{Key}
use Rattle.wasmprinter_custom.specs.declared.names.StoredName.{StoredName}
use Rattle.wasmprinter_custom.proofs.Lookups.{key_total, turned, rises, found, none_by, none_there}

-- ---- A name after all others

-- The names before it, for a list that is equal to the program's.
pub before_all : (es ds : List (Key × StoredName)) (p : Key) → ds ≡ es → AllAreBefore ds (length ds) p → AllAreBefore es (length es) p
before_all es ds p same before = subst (λ (xs : List (Key × StoredName)). AllAreBefore xs (length xs) p) same before

all_pushed : (P : Key → Type 0) (es : List (Key × StoredName)) (e : Key × StoredName) → AllByRecursion P (keys_of es) → P e.0 → AllByRecursion P (keys_of (es ++ e ∷ []))
all_pushed P [] e all h = (h, tt)
all_pushed P (x ∷ es) e all h = (all.0, all_pushed P es e all.1 h)

pub pushed_ascends : (es : List (Key × StoredName)) (e : Key × StoredName) → Ascends es → AllAreBefore es (length es) e.0 → Ascends (es ++ e ∷ [])
unfolding IsStrictlySortedBy
pushed_ascends [] e s before = (tt, tt)
pushed_ascends (x ∷ es) e s before = (
  all_pushed (λ k. key_cmp x.0 k ≡ Less) es e s.0 (before 0 x (omega arith) (omega arith)),
  pushed_ascends es e s.1 (λ k d low high. before (suc k) d (omega arith) (omega arith)),
)

-- The list is in ascending order whether the allocation succeeded or not.
pub pushed_or_not : (b : Bool) (es : List (Key × StoredName)) (e : Key × StoredName) → Ascends es → AllAreBefore es (length es) e.0 → Ascends (if b then es ++ e ∷ [] else es)
pushed_or_not true es e s before = pushed_ascends es e s before
pushed_or_not false es e s before = s

pub pushed_gains : (es : List (Key × StoredName)) (e : Key × StoredName) → AllAreBefore es (length es) e.0 → Gains es (es ++ e ∷ []) e.0 e.1
pushed_gains es e before q =
    ap (λ (l : List (Key × StoredName)). stored_at l q) (sym (insert_end es e))
    ∙ lookup-insert (eq_by_cmp_equiv key_total) e.0 e.1 q es (length es)
    (none_by es e.0 (λ k d low. ap is_eq (turned (get_or es k d).0 e.0 (before k d (omega arith) low))))

-- ---- Two lists, one before the other

-- The name in two lists is that of the first list, if it has one, and otherwise that of the second.
pub stored_either : (es fs : List (Key × StoredName)) (q : Key) → stored_at (es ++ fs) q ≡ option_or (stored_at es q) (stored_at fs q)
stored_either [] fs q = refl
stored_either (e ∷ es) fs q = by (is_at (key_cmp q) e.0) (stored_either es fs q)
  where
    by : (b : Bool) → stored_at (es ++ fs) q ≡ option_or (stored_at es q) (stored_at fs q)
        → (if b then Some e.1 else stored_at (es ++ fs) q) ≡ option_or (if b then Some e.1 else stored_at es q) (stored_at fs q)
    by true h = refl
    by false h = h

-- A name that the first list gains is gained by both lists together.
pub gains_front : (es ds fs : List (Key × StoredName)) (p : Key) (x : StoredName) → Gains es ds p x → Gains (es ++ fs) (ds ++ fs) p x
gains_front es ds fs p x names q =
    stored_either ds fs q ∙ ap (λ (o : Option StoredName). option_or o (stored_at fs q)) (names q) ∙ by (is_at (key_cmp p) q)
    ∙ ap (λ (o : Option StoredName). if is_at (key_cmp p) q then Some x else o) (sym (stored_either es fs q))
  where
    by : (b : Bool) → option_or (if b then Some x else stored_at es q) (stored_at fs q) ≡ (if b then Some x else option_or (stored_at es q) (stored_at fs q))
    by true = refl
    by false = refl

-- Equal keys have the same name.
pub same_stored : (es : List (Key × StoredName)) (p q : Key) → is_at (key_cmp q) p ≡ true → stored_at es q ≡ stored_at es p
same_stored es p q hit = ap (λ (test : Key → Bool). lookup test es) tests
  where
    tests : is_at (key_cmp q) ≡ is_at (key_cmp p)
    tests = λ j k. (eq_by_cmp_equiv key_total).congr q p k hit j

-- A name that the second list gains is gained by both lists together, if its key has no name in the first list.
pub gains_back : (es fs gs : List (Key × StoredName)) (p : Key) (x : StoredName) → stored_at es p ≡ None → Gains fs gs p x → Gains (es ++ fs) (es ++ gs) p x
gains_back es fs gs p x none names q =
    stored_either es gs q ∙ ap (option_or (stored_at es q)) (names q) ∙ by (is_at (key_cmp p) q) refl
    ∙ ap (λ (o : Option StoredName). if is_at (key_cmp p) q then Some x else o) (sym (stored_either es fs q))
  where
    by : (b : Bool) → is_at (key_cmp p) q ≡ b
        → option_or (stored_at es q) (if b then Some x else stored_at fs q) ≡ (if b then Some x else option_or (stored_at es q) (stored_at fs q))
    by true hit = ap (λ (o : Option StoredName). option_or o (Some x)) (sym (same_stored es q p hit) ∙ none)
    by false hit = refl

-- ---- A name that replaces another

-- The entry at a position is the first entry with its key.
set_first : (es : List (Key × StoredName)) (i : ℕ) (e : Key × StoredName) (p : Key) (x : StoredName) → Ascends es → i < length es → e ≡ get_or es i e
    → is_at (key_cmp p) e.0 ≡ true → set es i (e.0, x) ≡ set_value (is_at (key_cmp p)) es x
set_first [] i e p x s within at hit = absurd (omega (arith, within))
set_first (f ∷ es) zero e p x s within at hit =
    ap (λ (b : Bool). if b then (e.0, x) ∷ es else f ∷ set_value (is_at (key_cmp p)) es x) (sym hit)
    ∙ ap (λ (g : Key × StoredName). if is_at (key_cmp p) g.0 then (g.0, x) ∷ es else f ∷ set_value (is_at (key_cmp p)) es x) at
set_first (f ∷ es) (suc i) e p x s within at hit =
    ap (λ (l : List (Key × StoredName)). f ∷ l) (set_first es i e p x (sorted_tail key_cmp f.0 (keys_of es) s) (omega (arith, within)) at hit)
    ∙ ap (λ (b : Bool). if b then (f.0, x) ∷ es else f ∷ set_value (is_at (key_cmp p)) es x) (sym (other (is_at (key_cmp p) f.0) refl))
  where
    below : key_cmp f.0 e.0 ≡ Less
    below = ap (λ (g : Key × StoredName). key_cmp f.0 g.0) at ∙ rises (f ∷ es) s 0 (suc i) e (omega arith) within

    other : (b : Bool) → is_at (key_cmp p) f.0 ≡ b → b ≡ false
    other true h = absurd (true≢false (sym (sym ((eq_by_cmp_equiv key_total).congr p f.0 e.0 h) ∙ hit) ∙ ap is_eq below))
    other false h = refl

-- The entry at a position has this key, so that its name is replaced.
pub record Replaces (es : List (Key × StoredName)) (i : ℕ) (e : Key × StoredName) (p : Key) : Type 0 where
  pub within : i < length es
  pub at : e ≡ get_or es i e
  pub hit : is_at (key_cmp p) e.0 ≡ true

pub replaces_by : (es ds : List (Key × StoredName)) (i : ℕ) (d : Key × StoredName) (p : Key) → ds ≡ es → i < length ds → HoldsAt (λ (f : Key × StoredName). key_cmp f.0 p ≡ Equal) ds i
    → Replaces es i (get_or es i d) p
replaces_by es ds i d p same within equal = record {
  within = inside;
  at = get_or_default es i d (get_or es i d) inside;
  hit = (eq_by_cmp_equiv key_total).symm p (get_or es i d).0
      ∙ ap (λ (l : List (Key × StoredName)). is_eq (key_cmp (get_or l i d).0 p)) (sym same) ∙ ap is_eq (equal d);
}
  where
    inside : i < length es
    inside = omega (arith, ap length same, within)

module _ (es : List (Key × StoredName)) (i : ℕ) (e : Key × StoredName) (p : Key) (x : StoredName) (s : Ascends es) (r : Replaces es i e p) where
  is_set : set es i (e.0, x) ≡ set_value (is_at (key_cmp p)) es x
  is_set = set_first es i e p x s r.within r.at r.hit

  pub replaced_ascends : Ascends (set es i (e.0, x))
  replaced_ascends = subst (IsStrictlySortedBy key_cmp) (sym (ap keys_of is_set ∙ keys-set_value (is_at (key_cmp p)) es x)) s

  pub replaced_stored : IsSome (stored_at es p)
  replaced_stored = ap is_some (sym (found es s p i e r.within r.at ((eq_by_cmp_equiv key_total).symm e.0 p ∙ r.hit)))

  pub replaced_gains : Gains es (set es i (e.0, x)) p x
  replaced_gains q =
      ap (λ (l : List (Key × StoredName)). stored_at l q) is_set
      ∙ lookup-set_value (eq_by_cmp_equiv key_total) (is_at (key_cmp p)) (λ j k h. (eq_by_cmp_equiv key_total).congr p j k h) q x es replaced_stored

-- ---- Lists with different keys

pub disjoint_alone : (es fs : List (Key × StoredName)) → fs ≡ [] → AreDisjoint es fs
disjoint_alone es fs none q some = ap (λ (l : List (Key × StoredName)). stored_at l q) none

-- If a key that has a name in the first list gains another name there, the lists stay disjoint.
disjoint_replaced : (es ds fs : List (Key × StoredName)) (p : Key) (x : StoredName) → AreDisjoint es fs → IsSome (stored_at es p) → Gains es ds p x → AreDisjoint ds fs
disjoint_replaced es ds fs p x apart has names q some = apart q (by (is_at (key_cmp p) q) refl (ap is_some (sym (names q)) ∙ some))
  where
    by : (b : Bool) → is_at (key_cmp p) q ≡ b → is_some (if b then Some x else stored_at es q) ≡ true → is_some (stored_at es q) ≡ true
    by true hit t = ap is_some (sym (same_stored es q p hit)) ∙ has
    by false hit t = t

-- The same for the entry at a position.
pub replaced_disjoint : (es fs : List (Key × StoredName)) (i : ℕ) (e : Key × StoredName) (p : Key) (x : StoredName) → Ascends es → AreDisjoint es fs → Replaces es i e p
    → AreDisjoint (set es i (e.0, x)) fs
replaced_disjoint es fs i e p x s apart r = disjoint_replaced es (set es i (e.0, x)) fs p x apart (replaced_stored es i e p x s r) (replaced_gains es i e p x s r)

pub replaced_gains_all : (es fs : List (Key × StoredName)) (i : ℕ) (e : Key × StoredName) (p : Key) (x : StoredName) → Ascends es → AreDisjoint es fs → Replaces es i e p
    → Gains (fs ++ es) (fs ++ set es i (e.0, x)) p x
replaced_gains_all es fs i e p x s apart r = gains_back fs es (set es i (e.0, x)) p x (apart p (replaced_stored es i e p x s r)) (replaced_gains es i e p x s r)

-- If a key without a name in the first list gains one in the second, the lists stay disjoint.
pub disjoint_gains : (es fs gs : List (Key × StoredName)) (p : Key) (x : StoredName) → AreDisjoint es fs → stored_at es p ≡ None → Gains fs gs p x → AreDisjoint es gs
disjoint_gains es fs gs p x apart none names q some = names q ∙ by (is_at (key_cmp p) q) refl
  where
    by : (b : Bool) → is_at (key_cmp p) q ≡ b → (if b then Some x else stored_at fs q) ≡ None
    by true hit = absurd (true≢false (sym some ∙ ap is_some (sym (same_stored es q p hit) ∙ none)))
    by false hit = apart q some

-- A key without a name in both lists has no name in the two lists together.
pub none_either : (es fs : List (Key × StoredName)) (p : Key) → stored_at es p ≡ None → stored_at fs p ≡ None → is_some (stored_at (es ++ fs) p) ≡ false
none_either es fs p front back = ap is_some (stored_either es fs p ∙ ap (λ (o : Option StoredName). option_or o (stored_at fs p)) front) ∙ ap is_some back

-- A key above all others has no name.
pub none_above : (es : List (Key × StoredName)) (p : Key) → AllAreBefore es (length es) p → stored_at es p ≡ None
none_above es p before = sym (none_there es p (length es) before (λ k d low high. absurd (omega (arith, low, high))))

-- If both lists together are empty, so is the first list.
pub none_in_front : {P : Type 0} (es fs : List (Key × StoredName)) (b : Bool) → es ++ fs ≡ [] → (IsTrue b → length es ≡ 0) × (length es ≡ 0 → IsTrue b) → b ≡ false → P
none_in_front [] fs b none says some = absurd (true≢false (sym (says.1 refl) ∙ some))
none_in_front (e ∷ es) fs b none says some = absurd cc

-- `Gains` for lists that are equal to the given ones.
pub gains_by : (a b c d : List (Key × StoredName)) (p : Key) (x : StoredName) → a ≡ b → d ≡ c → Gains a c p x → Gains b d p x
gains_by a b c d p x old new h =
    subst (λ (es : List (Key × StoredName)). Gains b es p x) (sym new) (subst (λ (es : List (Key × StoredName)). Gains es c p x) old h)
