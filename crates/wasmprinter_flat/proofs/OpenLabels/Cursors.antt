-- The label of the next block, found by a cursor into the list of labels with names.
use Rattle.std.proofs.Common.{◌≡◌, ◌≢◌, ℕ, zero, suc, ◌<◌, ◌≤◌, List, [], ◌∷◌, length, refl, sym, ap, ◌∙◌, subst, arith, true≢false}
use Rattle.std.proofs.lemmas.Bool.{eqb-true, eqb-false}
use Rattle.std.specs.Prelude.{Bool, true, false, ◌&&◌, nat_eq, map, Option, Some, None, option_map, if◌then◌else◌, slice_get, Contains}
use Rattle.std.proofs.lemmas.Option.{slice_get_within, get_or_from_slice_get}
use Rattle.std.specs.List.{AllByRecursion}
use Rattle.wasmprinter_spec.specs.Grammar.{◌>>=◌, some_is}
use Rattle.wasmprinter_spec.specs.Labels.{Named}
use Rattle.wasmprinter_spec.specs.LabelNames.{label_named}
use Rattle.wasmprinter_spec.specs.Names.Section.{label_subsection}
use Rattle.wasmprinter_custom.specs.Views.{NamedItem, name_view, name_at}
use Rattle.wasmprinter_custom.specs.Labels.{NamedLabel, labels_in, label_at, IsBefore, Ascend, HaveLabelIdentifiers}
use Rattle.wasmprinter_custom.specs.LabelViews.{label_view}
use Rattle.wasmprinter_flat.specs.OpenLabels.Stack.{unnamed_label}
use Rattle.wasmprinter_flat.specs.OpenLabels.Inside.{IsAhead, IsCursor, label_of}
use Rattle.wasmprinter_flat.specs.declared.open_labels.label_numbering.NumberedLabel.{NumberedLabel}

-- The label is that of block n of function f.
abbrev is_at : ℕ → ℕ → NamedLabel → Bool
is_at f n x = nat_eq x.function f && nat_eq x.number n

and_both : (a b : Bool) → (a && b) ≡ true → (a ≡ true) × (b ≡ true)
and_both true b e = (refl, e)
and_both false b e = absurd (true≢false (sym e))

at_both : (f n : ℕ) (x : NamedLabel) → is_at f n x ≡ true → (x.function ≡ f) × (x.number ≡ n)
at_both f n x e =
    let p = and_both (nat_eq x.function f) (nat_eq x.number n) e in
    (eqb-true x.function f p.0, eqb-true x.number n p.1)

not_at : (f n : ℕ) (x : NamedLabel) → (x.function ≡ f → x.number ≡ n → ⊥) → is_at f n x ≡ false
not_at f n x h = by (is_at f n x) refl
  where
    by : (b : Bool) → is_at f n x ≡ b → b ≡ false
    by true e = let p = at_both f n x e in absurd (h p.0 p.1)
    by false e = refl

other_at : (f n : ℕ) (x : NamedLabel) → is_at f n x ≡ false → x.function ≡ f → x.number ≢ n
other_at f n x e a b = absurd (true≢false (sym both ∙ e))
  where
    same : (p q : ℕ) → p ≡ q → nat_eq p q ≡ true
    same p q h = by (nat_eq p q) refl
      where
        by : (c : Bool) → nat_eq p q ≡ c → c ≡ true
        by true t = refl
        by false t = absurd (eqb-false p q t h)

    both : is_at f n x ≡ true
    both = rw (same x.function f a, same x.number n b) refl

-- ---- Look-ups

-- If a label is that of block n of function f or of a later block, no label after it is that of block n.
none_after : (f n : ℕ) (x : NamedLabel) (xs : List NamedLabel) → f ≤ x.function → (f ≡ x.function → n ≤ x.number) → AllByRecursion (IsBefore x) xs → label_at xs f n ≡ None
none_after f n x [] le lt h = refl
none_after f n x (y ∷ xs) le lt ((rise, less), later) =
    let miss = not_at f n y (λ a b. absurd (omega (arith, a, b, le, lt, rise, less))) in
    rw miss (none_after f n x xs le lt later)

-- The name of the label, if it is that of block n of function f.
abbrev picked : ℕ → ℕ → Option NamedLabel → Option Named
picked f n None = None
picked f n (Some x) = if is_at f n x then Some x.name else None

at_cursor : (f n k : ℕ) (xs : List NamedLabel) → IsCursor f n k xs → Ascend xs → picked f n (slice_get xs k) ≡ label_at xs f n
at_cursor f n zero [] c a = refl
at_cursor f n zero (x ∷ xs) c a = by (is_at f n x) refl
  where
    by : (hit : Bool) → is_at f n x ≡ hit → (if hit then Some x.name else None) ≡ (if hit then Some x.name else label_at xs f n)
    by true e = refl
    by false e = sym (none_after f n x xs c.0 c.1 a.0)
at_cursor f n (suc k) [] c a = absurd c
at_cursor f n (suc k) (x ∷ xs) ((le, lt), after) a =
    let miss = not_at f n x (λ p q. absurd (omega (arith, p, q, le, lt))) in
    at_cursor f n k xs after a.1 ∙ sym (ap (λ (b : Bool). if b then Some x.name else label_at xs f n) miss)

-- ---- The cursor after one more block

ahead_hit : (f n : ℕ) (x : NamedLabel) (xs : List NamedLabel) → x.function ≡ f → x.number ≡ n → AllByRecursion (IsBefore x) xs → IsAhead f (suc n) xs
ahead_hit f n x [] p q h = tt
ahead_hit f n x (y ∷ xs) p q ((rise, less), later) = (omega (arith, p, rise), λ e. let lt = less (p ∙ e) in omega (arith, lt, q))

cursor_hit : (f n k : ℕ) (xs : List NamedLabel) (x : NamedLabel) → IsCursor f n k xs → Ascend xs → slice_get xs k ≡ Some x → is_at f n x ≡ true → IsCursor f (suc n) (suc k) xs
cursor_hit f n zero [] x c a e h = absurd cc
cursor_hit f n zero (y ∷ xs) x c a e h =
    let p = at_both f n y (subst (λ (z : NamedLabel). is_at f n z ≡ true) (sym (some_is y x e)) h) in
    ((omega (arith, p.0), λ q. omega (arith, p.1)), ahead_hit f n y xs p.0 p.1 a.0)
cursor_hit f n (suc k) [] x c a e h = absurd c
cursor_hit f n (suc k) (y ∷ xs) x ((le, less), after) a e h =
    ((le, λ q. let lt = less q in omega (arith, lt)), cursor_hit f n k xs x after a.1 e h)

cursor_miss : (f n k : ℕ) (xs : List NamedLabel) → IsCursor f n k xs → ((x : NamedLabel) → slice_get xs k ≡ Some x → is_at f n x ≡ false) → IsCursor f (suc n) k xs
cursor_miss f n zero [] c h = tt
cursor_miss f n zero (x ∷ xs) c h = (c.0, λ e. let d = other_at f n x (h x refl) (sym e) in let le = c.1 e in omega (arith, d, le))
cursor_miss f n (suc k) [] c h = absurd c
cursor_miss f n (suc k) (x ∷ xs) ((le, less), after) h =
    ((le, λ e. let lt = less e in omega (arith, lt)), cursor_miss f n k xs after h)

-- ---- The labels as the program keeps them

abbrev view : NumberedLabel → NamedLabel
view x = label_view x.label

abbrev pub name_of_label : NumberedLabel → Named
name_of_label x = name_view x.label.name

picked_one : (f n k : ℕ) (xs : List NumberedLabel) → picked f n (slice_get (map view xs) k) ≡ option_map name_of_label (label_of xs k f n)
picked_one f n zero [] = refl
picked_one f n zero (x ∷ xs) = by (is_at f n (view x))
  where
    by : (b : Bool) → (if b then Some (name_view x.label.name) else None) ≡ option_map name_of_label (if b then Some x else None)
    by true = refl
    by false = refl
picked_one f n (suc k) [] = refl
picked_one f n (suc k) (x ∷ xs) = picked_one f n k xs

pub name_in : (named : List NamedItem) (f n : ℕ) → name_at named label_subsection f n ≡ label_at (labels_in named) f n
name_in [] f n = refl
name_in (x ∷ named) f n = by (nat_eq x.subsection label_subsection) (name_in named f n)
  where
    by : (b : Bool) → name_at named label_subsection f n ≡ label_at (labels_in named) f n
        → (if (b && nat_eq x.outer f) && nat_eq x.index n then Some x.name else name_at named label_subsection f n)
        ≡ label_at (if b then record { function = x.outer; number = x.index; name = x.name } ∷ labels_in named else labels_in named) f n
    by true h = ap (λ (o : Option Named). if nat_eq x.outer f && nat_eq x.index n then Some x.name else o) h
    by false h = h

-- The identifier of the next block, given the name of its label, if there is one.
abbrev pub own_by : Bool → ℕ → Option Named → Option Named
own_by synthesizes d None = unnamed_label synthesizes d
own_by synthesizes d (Some y) = Some y

module _ (named : List NamedItem) (xs : List NumberedLabel) (synthesizes : Bool) (f n k d : ℕ) (lists : map view xs ≡ labels_in named) (a : Ascend (labels_in named)) (identifiers_of_labels : HaveLabelIdentifiers named)
    (c : IsCursor f n k (labels_in named)) where
  next_is : name_at named label_subsection f n ≡ option_map name_of_label (label_of xs k f n)
  next_is = name_in named f n ∙ sym (at_cursor f n k (labels_in named) c a) ∙ ap (λ l. picked f n (slice_get l k)) (sym lists) ∙ picked_one f n k xs

  own_is : (o : Option Named) → name_at named label_subsection f n ≡ o → label_named synthesizes n d (o >>= λ y. y.given) ≡ own_by synthesizes d o
  own_is None e = by synthesizes
    where
      by : (b : Bool) → label_named b n d None ≡ unnamed_label b d
      by true = refl
      by false = refl
  own_is (Some y) e = identifiers_of_labels f n y e synthesizes d

  pub own_next : label_named synthesizes n d (name_at named label_subsection f n >>= λ y. y.given) ≡ own_by synthesizes d (option_map name_of_label (label_of xs k f n))
  own_next = own_is (name_at named label_subsection f n) refl ∙ ap (own_by synthesizes d) next_is

  own_of : (zs : List NumberedLabel) → zs ≡ xs → (o : Option NumberedLabel) → label_of zs k f n ≡ o
      → label_named synthesizes n d (name_at named label_subsection f n >>= λ y. y.given) ≡ own_by synthesizes d (option_map name_of_label o)
  own_of zs same o e =
      own_next ∙ ap (λ l. own_by synthesizes d (option_map name_of_label (label_of l k f n))) (sym same) ∙ ap (λ (r : Option NumberedLabel). own_by synthesizes d (option_map name_of_label r)) e

  pub own_some : (zs : List NumberedLabel) → zs ≡ xs → (x : NumberedLabel) → label_of zs k f n ≡ Some x
      → label_named synthesizes n d (name_at named label_subsection f n >>= λ y. y.given) ≡ Some (name_view x.label.name)
  own_some zs same x e = own_of zs same (Some x) e

  pub own_none : (zs : List NumberedLabel) → zs ≡ xs → label_of zs k f n ≡ None
      → label_named synthesizes n d (name_at named label_subsection f n >>= λ y. y.given) ≡ unnamed_label synthesizes d
  own_none zs same e = own_of zs same None e

-- If `label_of` returns a label, it is the label with that index and that of the block.
picked_view : (f n k : ℕ) (xs : List NumberedLabel) (x : NumberedLabel) → label_of xs k f n ≡ Some x → (slice_get (map view xs) k ≡ Some (view x)) × (is_at f n (view x) ≡ true) × (slice_get xs k ≡ Some x)
picked_view f n zero [] x e = absurd cc
picked_view f n zero (y ∷ xs) x e = by (is_at f n (view y)) refl e
  where
    by : (b : Bool) → is_at f n (view y) ≡ b → (if b then Some y else None) ≡ Some x → (◌≡◌ {A = Option NamedLabel} (Some (view y)) (Some (view x))) × (is_at f n (view x) ≡ true) × (◌≡◌ {A = Option NumberedLabel} (Some y) (Some x))
    by true t h = let s = some_is y x h in (ap (λ (z : NumberedLabel). Some (view z)) s, subst (λ (z : NumberedLabel). is_at f n (view z) ≡ true) s t, h)
    by false t h = absurd cc
picked_view f n (suc k) [] x e = absurd cc
picked_view f n (suc k) (y ∷ xs) x e = picked_view f n k xs x e

not_picked : (f n k : ℕ) (xs : List NumberedLabel) (x : NamedLabel) → label_of xs k f n ≡ None → slice_get (map view xs) k ≡ Some x → is_at f n x ≡ false
not_picked f n zero [] x e h = absurd cc
not_picked f n zero (y ∷ xs) x e h = by (is_at f n (view y)) refl e
  where
    by : (b : Bool) → is_at f n (view y) ≡ b → (if b then Some y else None) ≡ None → is_at f n x ≡ false
    by true t h = absurd cc
    by false t g = subst (λ (z : NamedLabel). is_at f n z ≡ false) (some_is (view y) x h) t
not_picked f n (suc k) [] x e h = absurd cc
not_picked f n (suc k) (y ∷ xs) x e h = not_picked f n k xs x e h

pub cursor_named : (f n k : ℕ) (xs : List NumberedLabel) (ls : List NamedLabel) (x : NumberedLabel) → map view xs ≡ ls → Ascend ls → label_of xs k f n ≡ Some x → IsCursor f n k ls → IsCursor f (suc n) (suc k) ls
cursor_named f n k xs ls x lists a e c =
    let (seen, hit, found) = picked_view f n k xs x e in
    cursor_hit f n k ls (view x) c a (ap (λ l. slice_get l k) (sym lists) ∙ seen) hit

pub cursor_unnamed : (f n k : ℕ) (xs : List NumberedLabel) (ls : List NamedLabel) → map view xs ≡ ls → label_of xs k f n ≡ None → IsCursor f n k ls → IsCursor f (suc n) k ls
cursor_unnamed f n k xs ls lists e c = cursor_miss f n k ls c (λ x h. not_picked f n k xs x e (ap (λ l. slice_get l k) lists ∙ h))

-- If `label_of` returns a label, it is one of the list and its index is within the list.
pub next_is_one : (f n k : ℕ) (xs : List NumberedLabel) (x : NumberedLabel) → label_of xs k f n ≡ Some x → Contains xs x × (k < length xs)
next_is_one f n k xs x e =
    let (seen, hit, found) = picked_view f n k xs x e in
    let lt = slice_get_within xs k x found in
    ((k, lt, get_or_from_slice_get xs k x x found), lt)
