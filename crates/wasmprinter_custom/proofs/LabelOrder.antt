-- The labels that the store lists are in ascending order, and each label with a name is listed.
use Rattle.std.proofs.Common.{◌≡◌, ℕ, ◌<◌, ◌≤◌, List, [], ◌∷◌, ◌++◌, refl, sym, arith}
use Rattle.std.proofs.lemmas.Bool.{eqb-true}
use Rattle.std.specs.Prelude.{Bool, true, false, nat_eq, map, if◌then◌else◌}
use Rattle.std.specs.List.{AllByRecursion}
use Rattle.std.specs.List.Sorted.{IsStrictlySortedBy}
use Rattle.std.specs.declared.cmp.Ordering.{Ordering}
use Rattle.std.specs.declared.cmp.Ordering.TheVariants.{Less, Equal, Greater}
use Rattle.std.specs.Ordering.{nat_cmp, ordering_then}
use Rattle.std.proofs.lemmas.Cmp.{ranked}
use Rattle.std.specs.Map.{keys_of}
use Rattle.wasmprinter_spec.specs.Names.Section.{label_subsection}
use Rattle.wasmprinter_custom.specs.Views.{key_cmp, stored_view, item_view, NamedItem}
use Rattle.wasmprinter_custom.specs.Labels.{NamedLabel, labels_in, IsBefore, Ascend}
use Rattle.wasmprinter_custom.specs.declared.names.Key.{Key}
use Rattle.wasmprinter_custom.specs.declared.names.StoredName.{StoredName}

-- Labels are ordered by function, then by number.
less_then : (f g m n : ℕ) (r : Ordering) → nat_cmp f g ≡ r → ordering_then r (nat_cmp m n) ≡ Less → (f ≤ g) × (f ≡ g → m < n)
less_then f g m n Less e h = let lt : f < g = ranked f g Less (sym e) in (omega (arith, lt), λ q. absurd (omega (arith, lt, q)))
less_then f g m n Equal e h = let eq : f ≡ g = ranked f g Equal (sym e) in let lt : m < n = ranked m n Less (sym h) in (omega (arith, eq), λ q. lt)
less_then f g m n Greater e h = absurd cc

-- If the key of one label is less than that of another, its function is not greater, and in the same
-- function its number is less.
less_key : (p q : Key) (x y : NamedLabel) (r : Ordering) → p.subsection ≡ label_subsection → q.subsection ≡ label_subsection → nat_cmp p.subsection q.subsection ≡ r
    → ordering_then r (ordering_then (nat_cmp p.outer q.outer) (nat_cmp p.index q.index)) ≡ Less
    → (p.outer ≤ q.outer) × (p.outer ≡ q.outer → p.index < q.index)
less_key p q x y Less a b e h = let lt : p.subsection < q.subsection = ranked p.subsection q.subsection Less (sym e) in absurd (omega (arith, lt, a, b))
less_key p q x y Equal a b e h = less_then p.outer q.outer p.index q.index (nat_cmp p.outer q.outer) refl h
less_key p q x y Greater a b e h = absurd cc

-- The list with the label of an item prepended, if the item is a label.
abbrev only : Bool → NamedItem → List NamedLabel → List NamedLabel
only b x xs = if b then record { function = x.outer; number = x.index; name = x.name } ∷ xs else xs

label_of : Key × StoredName → NamedLabel
label_of e = record { function = e.0.outer; number = e.0.index; name = stored_view e.1 }

before_all : (p : Key × StoredName) (es : List (Key × StoredName)) → p.0.subsection ≡ label_subsection → AllByRecursion (λ q. key_cmp p.0 q ≡ Less) (keys_of es)
    → AllByRecursion (IsBefore (label_of p)) (labels_in (map item_view es))
unfolding label_of
before_all p [] a h = tt
before_all p (e ∷ es) a h = by (nat_eq e.0.subsection label_subsection) refl (before_all p es a h.1)
  where
    by : (b : Bool) → nat_eq e.0.subsection label_subsection ≡ b → AllByRecursion (IsBefore (label_of p)) (labels_in (map item_view es))
        → AllByRecursion (IsBefore (label_of p)) (only b (item_view e) (labels_in (map item_view es)))
    by true t r = (less_key p.0 e.0 (label_of p) (label_of e) (nat_cmp p.0.subsection e.0.subsection) a (eqb-true e.0.subsection label_subsection t) refl h.0, r)
    by false t r = r

pub ascend_labels : (es : List (Key × StoredName)) → IsStrictlySortedBy key_cmp (keys_of es) → Ascend (labels_in (map item_view es))
unfolding IsStrictlySortedBy label_of
ascend_labels [] h = tt
ascend_labels (e ∷ es) h = by (nat_eq e.0.subsection label_subsection) refl (ascend_labels es h.1)
  where
    by : (b : Bool) → nat_eq e.0.subsection label_subsection ≡ b → Ascend (labels_in (map item_view es)) → Ascend (only b (item_view e) (labels_in (map item_view es)))
    by true t r = (before_all e es (eqb-true e.0.subsection label_subsection t) h.0, r)
    by false t r = r

-- If an item is a label, the list of labels is not empty.
pub some_label : (p : Key × StoredName) (es rest : List (Key × StoredName)) (out all : List NamedLabel) → nat_eq p.0.subsection label_subsection ≡ true → es ≡ p ∷ rest
    → out ++ labels_in (map item_view es) ≡ all → all ≡ [] → ⊥
some_label p es rest [] all t e h n = absurd cc
some_label p es rest (x ∷ out) all t e h n = absurd cc
