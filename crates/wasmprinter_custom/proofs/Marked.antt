-- The subsections that give names.
use Rattle.std.proofs.Common.{◌≡◌, ℕ, zero, suc, ◌+◌, ◌<◌, List, length, get_or, set, take, refl, sym, ap, ◌∙◌, arith, true≢false}
use Rattle.std.proofs.lemmas.Bool.{eqb-true, eq-eqb, or_right}
use Rattle.std.proofs.lemmas.Grind.{common_steps}
use Rattle.std.proofs.lemmas.List.{take_all, get_or_default, get_or-set_same, get_or-set_other}
use Rattle.std.proofs.lemmas.List.Folds.{list_any_more, Any-from_list_any, list_any-from_Any}
use Rattle.std.proofs.lemmas.Map.{lookup-none}
use Rattle.std.specs.Prelude.{replicate, Bool, true, false, nat_eq, ◌&&◌, ◌||◌, map, None, option_map}
use Rattle.std.specs.List.{Any, list_any}
use Rattle.std.specs.BTreeMap.{is_at}
use Rattle.wasmprinter_custom.specs.Views.{key_cmp, stored_view, item_view, name_at}
use Rattle.wasmprinter_custom.specs.Lookups.{AreUsed}
use Rattle.wasmprinter_custom.specs.declared.names.Key.{Key}
use Rattle.wasmprinter_custom.specs.declared.names.StoredName.{StoredName}
use Rattle.wasmprinter_custom.proofs.Adding.{same_key, name_at-lookup}
use Rattle.wasmprinter_custom.proofs.Lookups.{none_by}

-- Whether the entry belongs to the subsection.
abbrev pub is_of : ℕ → Key × StoredName → Bool
is_of s e = nat_eq e.0.subsection s

-- Each mark says whether one of the first i entries belongs to the subsection.
abbrev pub Marks : List (Key × StoredName) → ℕ → List Bool → Type 0
Marks es i marks = (s : ℕ) → get_or marks s false ≡ list_any (is_of s) (take i es)

-- Without entries no subsection is marked.
pub marks_none : (es : List (Key × StoredName)) (n : ℕ) → Marks es 0 (replicate n false)
marks_none es zero s = refl
marks_none es (suc n) zero = refl
marks_none es (suc n) (suc s) = marks_none es n s

-- One more entry marks its subsection.
pub marks_more : (es : List (Key × StoredName)) (marks : List Bool) (i n : ℕ) (e : Key × StoredName)
    → i < length es → e ≡ get_or es i e → n ≡ e.0.subsection → n < length marks → Marks es i marks → Marks es (i + 1) (set marks n true)
marks_more es marks i n e within at is fits before s =
    by (nat_eq e.0.subsection s) refl ∙ sym (list_any_more (is_of s) es i e within ∙ ap (λ (x : Key × StoredName). list_any (is_of s) (take i es) || is_of s x) (sym at))
  where
    or_false : (b : Bool) → b ≡ (b || false)
    or_false true = refl
    or_false false = refl

    by : (b : Bool) → nat_eq e.0.subsection s ≡ b → get_or (set marks n true) s false ≡ (list_any (is_of s) (take i es) || b)
    by true hit =
        ap (λ (k : ℕ). get_or (set marks n true) k false) (sym (is ∙ eqb-true e.0.subsection s hit)) ∙ get_or-set_same marks n true false fits
        ∙ sym (or_right (list_any (is_of s) (take i es)) true refl)
    by false miss = other ∙ before s ∙ or_false (list_any (is_of s) (take i es))
      where
        other : get_or (set marks n true) s false ≡ get_or marks s false
        other = grind (arith, common_steps, get_or-set_other)

-- After all entries, a subsection is marked exactly if an entry belongs to it.
pub marked : (es : List (Key × StoredName)) (marks : List Bool) → Marks es (length es) marks → AreUsed es marks
marked es marks h s = (λ t. of_subsection (Any-from_list_any (is_of s) es (sym all ∙ t)), λ some. all ∙ list_any-from_Any (is_of s) es (passes some))
  where
    all : get_or marks s false ≡ list_any (is_of s) es
    all = h s ∙ ap (list_any (is_of s)) (take_all (length es) es (omega arith))

    of_subsection : Any (λ e. is_of s e ≡ true) es → Any (λ e. e.0.subsection ≡ s) es
    of_subsection (k, e, low, at, hit) = (k, e, low, at, eqb-true e.0.subsection s hit)

    passes : Any (λ e. e.0.subsection ≡ s) es → Any (λ e. is_of s e ≡ true) es
    passes (k, e, low, at, same) = (k, e, low, at, eq-eqb e.0.subsection s same)

-- An item of a subsection that is not marked has no name.
pub none_unmarked : (es : List (Key × StoredName)) (marks : List Bool) (q : Key)
    → AreUsed es marks → get_or marks q.subsection false ≡ false
    → None ≡ name_at (map item_view es) q.subsection q.outer q.index
none_unmarked es marks q marked none =
    let passes = none_by es q (λ k d low. same_key q (get_or es k d).0
    ∙ ap (λ (b : Bool). (b && nat_eq q.outer (get_or es k d).0.outer) && nat_eq q.index (get_or es k d).0.index) (other k d low (nat_eq q.subsection (get_or es k d).0.subsection) refl)) in
    sym (ap (option_map stored_view) (lookup-none (is_at (key_cmp q)) es passes)) ∙ name_at-lookup es q
  where
    other : (k : ℕ) (d : Key × StoredName) → k < length es → (b : Bool) → nat_eq q.subsection (get_or es k d).0.subsection ≡ b → b ≡ false
    other k d low true hit =
        let e = get_or es k d in
        let some : get_or marks q.subsection false ≡ true =
        (marked q.subsection).1 (k, e, low, get_or_default es k e d low, sym (eqb-true q.subsection e.0.subsection hit)) in
        absurd (true≢false (sym some ∙ none))
    other k d low false miss = refl
