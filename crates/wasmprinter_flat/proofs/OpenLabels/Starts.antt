-- The state at the start of an expression.
use Rattle.std.proofs.Common.{◌≡◌, ℕ, zero, suc, ◌<◌, ◌≤◌, List, [], ◌∷◌, length, get_or, refl, sym, ap, ◌∙◌, subst, arith}
use Rattle.std.proofs.lemmas.Bool.{eqb-false, ltb-true, ltb-false}
use Rattle.std.proofs.lemmas.List.Sorted.{IsPartitionedBy-ltb}
use Rattle.std.specs.Prelude.{Bool, true, false, ◌&&◌, nat_eq, nat_lt, map, Some, None, if◌then◌else◌}
use Rattle.std.specs.List.{AllByRecursion}
use Rattle.std.specs.List.Sorted.{IsNonDecreasingBy, IsPartitionedBy, IsPartitionPoint}
use Rattle.wasmprinter_spec.specs.Names.Section.{label_subsection}
use Rattle.wasmprinter_custom.specs.Views.{NamedItem, name_at}
use Rattle.wasmprinter_custom.specs.Labels.{NamedLabel, labels_in, label_at, IsBefore, Ascend, HaveLabelIdentifiers}
use Rattle.wasmprinter_custom.specs.LabelViews.{label_view}
use Rattle.wasmprinter_custom.specs.declared.names.LabelName.{LabelName}
use Rattle.wasmprinter_flat.specs.OpenLabels.Stack.{Stack}
use Rattle.wasmprinter_flat.specs.OpenLabels.Numbers.{AreNumbered}
use Rattle.wasmprinter_flat.specs.OpenLabels.Inside.{IsAhead, IsCursor, IsKept}
use Rattle.wasmprinter_flat.specs.declared.open_labels.label_numbering.NumberedLabel.{NumberedLabel}
use Rattle.wasmprinter_flat.proofs.OpenLabels.Cursors.{name_in}

abbrev function_of : NumberedLabel → ℕ
function_of x = x.label.function

abbrev view : NumberedLabel → NamedLabel
view x = label_view x.label

-- ---- Labels are sorted by function

rises_from : (x : NumberedLabel) (xs : List NumberedLabel) (j : ℕ) (e : NumberedLabel) → AllByRecursion (IsBefore (view x)) (map view xs) → j < length xs → function_of x ≤ function_of (get_or xs j e)
rises_from x [] j e h lt = absurd (omega (arith, lt))
rises_from x (y ∷ xs) zero e ((rise, less), later) lt = rise
rises_from x (y ∷ xs) (suc j) e h lt = rises_from x xs j e h.1 (omega (arith, lt))

rise : (xs : List NumberedLabel) → Ascend (map view xs) → IsNonDecreasingBy function_of xs
rise [] a i j e le lt = absurd (omega (arith, lt))
rise (x ∷ xs) a zero zero e le lt = omega arith
rise (x ∷ xs) a zero (suc j) e le lt = rises_from x xs j e a.0 (omega (arith, lt))
rise (x ∷ xs) a (suc i) zero e le lt = absurd (omega (arith, le))
rise (x ∷ xs) a (suc i) (suc j) e le lt = rise xs a.1 i j e (omega (arith, le)) (omega (arith, lt))

pub is_partitioned : (xs zs : List NumberedLabel) (ls : List NamedLabel) (f : ℕ) → zs ≡ xs → map view xs ≡ ls → Ascend ls → IsPartitionedBy (λ x. nat_lt (function_of x) f) zs
is_partitioned xs zs ls f same lists a =
    subst (IsPartitionedBy (λ x. nat_lt (function_of x) f)) (sym same) (IsPartitionedBy-ltb function_of xs f (rise xs (subst Ascend (sym lists) a)))

cursor_from : (f k : ℕ) (xs : List NumberedLabel) → k ≤ length xs → ((i : ℕ) (e : NumberedLabel) → i < k → function_of (get_or xs i e) < f)
    → ((i : ℕ) (e : NumberedLabel) → k ≤ i → i < length xs → f ≤ function_of (get_or xs i e)) → IsCursor f 0 k (map view xs)
cursor_from f zero [] le h g = tt
cursor_from f zero (x ∷ xs) le h g = (g 0 x (omega arith) (omega arith), λ e. omega arith)
cursor_from f (suc k) [] le h g = absurd (omega (arith, le))
cursor_from f (suc k) (x ∷ xs) le h g =
    let lt : function_of x < f = h 0 x (omega arith) in (
      (omega (arith, lt), λ e. absurd (omega (arith, lt, e))),
      cursor_from f k xs (omega (arith, le)) (λ i e l. h (suc i) e (omega (arith, l))) (λ i e l m. g (suc i) e (omega (arith, l)) (omega (arith, m))),
    )

pub cursor_begun : (f k : ℕ) (xs zs : List NumberedLabel) (ls : List NamedLabel) → zs ≡ xs → map view xs ≡ ls → k ≤ length zs
    → IsPartitionPoint (λ x. nat_lt (function_of x) f ≡ true) (λ x. nat_lt (function_of x) f ≡ false) zs k → IsCursor f 0 k ls
cursor_begun f k xs zs ls same lists le p =
    subst (IsCursor f 0 k) lists (subst (λ (l : List NumberedLabel). IsCursor f 0 k (map view l)) same
    (cursor_from f k zs le (λ i e lt. ltb-true (function_of (get_or zs i e)) f (p.0 i e (omega arith) lt)) (λ i e l m. ltb-false (function_of (get_or zs i e)) f (p.1 i e l m))))

pub kept_begun : (named : List NamedItem) (xs : List NumberedLabel) (next f n d limit k g : ℕ) (s : Stack) → IsKept named xs next f n d s → IsCursor g 0 k (labels_in named) → limit ≡ s.limit
    → IsKept named xs k g 0 0 (record { blocks = []; limit = limit })
kept_begun named xs next f n d limit k g s h c e = record {
  lists = h.lists;
  ascend = h.ascend;
  identifiers_of_labels = h.identifiers_of_labels;
  numbered = h.numbered;
  limit = e ∙ h.limit;
  cursor = c;
  few = omega arith;
  blocks = tt;
  below = tt;
  shallow = omega arith;
}

-- ---- A new state

map_map : (xs : List NumberedLabel) → map view xs ≡ map label_view (map (λ (x : NumberedLabel). x.label) xs)
map_map [] = refl
map_map (x ∷ xs) = ap (λ (ys : List NamedLabel). view x ∷ ys) (map_map xs)

ahead_first : (ls : List NamedLabel) → IsAhead 0 0 ls
ahead_first [] = tt
ahead_first (x ∷ xs) = (omega arith, λ e. omega arith)

pub kept_new : (named : List NamedItem) (xs : List NumberedLabel) (ys : List LabelName) (limit : ℕ) → map (λ x. x.label) xs ≡ ys → map label_view ys ≡ labels_in named → Ascend (labels_in named)
    → HaveLabelIdentifiers named → AreNumbered xs → limit ≡ length xs → IsKept named xs 0 0 0 0 (record { blocks = []; limit = limit })
kept_new named xs ys limit e lists a o m size = record {
  lists = map_map xs ∙ ap (map label_view) e ∙ lists;
  ascend = a;
  identifiers_of_labels = o;
  numbered = m;
  limit = size;
  cursor = ahead_first (labels_in named);
  few = omega arith;
  blocks = tt;
  below = tt;
  shallow = omega arith;
}

-- ---- Modules in which no label has a name

none_of : (ls : List NamedLabel) → ((f n : ℕ) → label_at ls f n ≡ None) → ls ≡ []
none_of [] h = refl
none_of (x ∷ ls) h = absurd (by (nat_eq x.function x.function) (nat_eq x.number x.number) refl refl (h x.function x.number))
  where
    by : (a b : Bool) → nat_eq x.function x.function ≡ a → nat_eq x.number x.number ≡ b → (if a && b then Some x.name else label_at ls x.function x.number) ≡ None → ⊥
    by true true s t e = absurd cc
    by true false s t e = eqb-false x.number x.number t refl
    by false b s t e = eqb-false x.function x.function s refl

pub no_labels : (named : List NamedItem) → ((f n : ℕ) → name_at named label_subsection f n ≡ None) → labels_in named ≡ []
no_labels named h = none_of (labels_in named) (λ f n. sym (name_in named f n) ∙ h f n)

pub none_listed : (ys : List LabelName) (ls : List NamedLabel) → map label_view ys ≡ ls → ls ≡ [] → ys ≡ []
none_listed [] ls e h = refl
none_listed (y ∷ ys) ls e h = absurd cc

pub length_none : (xs : List NumberedLabel) (ys : List LabelName) → map (λ (x : NumberedLabel). x.label) xs ≡ ys → ys ≡ [] → length xs ≡ 0
length_none [] ys e h = refl
length_none (x ∷ xs) ys e h = absurd cc
