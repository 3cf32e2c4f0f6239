-- Lists of places in which the places of an interval increase: each of these occurs once. Also the index at which
-- a part of a list starts.
use Rattle.std.proofs.Common.{◌≡◌, Bool, true, false, cond, ℕ, zero, suc, ◌+◌, ◌<◌, ◌≤◌, ◌⊎◌, inl, inr, List, [], ◌∷◌, ◌++◌, length, Option, Some, None, refl, sym, ap, ◌∙◌, subst, arith, append_assoc}
use Rattle.std.specs.Prelude.{slice_get}
use Rattle.std.specs.List.{AllByRecursion, flat_map}
use Rattle.wasmprinter_spec.specs.Grammar.{some_is}
use Rattle.wasmprinter_spec.specs.Apart.{Rises, IsOutside}
use Rattle.wasmprinter_spec.specs.Lines.{is_among, lines_without}
use Rattle.wasmprinter_laws.proofs.Lines.Order.{rises_from, rises_ends}

-- ---- parts of lists

pub get_left : {A : Type 0} (xs ys : List A) (n : ℕ) (x : A) → slice_get xs n ≡ Some x → slice_get (xs ++ ys) n ≡ Some x
get_left [] ys n x e = absurd cc
get_left (y ∷ xs) ys zero x e = e
get_left (y ∷ xs) ys (suc n) x e = get_left xs ys n x e

pub get_right : {A : Type 0} (xs ys : List A) (n : ℕ) (x : A) → slice_get ys n ≡ Some x → slice_get (xs ++ ys) (length xs + n) ≡ Some x
get_right [] ys n x e =
    let same : 0 + n ≡ n = omega arith in
    ap (slice_get ys) same ∙ e
get_right (y ∷ xs) ys n x e =
    let next : suc (length xs) + n ≡ suc (length xs + n) = omega arith in
    ap (slice_get (y ∷ (xs ++ ys))) next ∙ get_right xs ys n x e

-- The part occurs in the list, starting at index `k`.
abbrev pub StandsAt : {A : Type 0} → ℕ → List A → List A → Type 0
StandsAt k part xs = (n : ℕ) (x : _) → slice_get part n ≡ Some x → slice_get xs (k + n) ≡ Some x

pub stands_left : {A : Type 0} (k : ℕ) (part xs ys : List A) → StandsAt k part xs → StandsAt k part (xs ++ ys)
stands_left k part xs ys h n x e = get_left xs ys (k + n) x (h n x e)

pub stands_right : {A : Type 0} (k : ℕ) (part xs ys : List A) → StandsAt k part ys → StandsAt (length xs + k) part (xs ++ ys)
stands_right k part xs ys h n x e =
    let same : length xs + k + n ≡ length xs + (k + n) = omega arith in
    ap (slice_get (xs ++ ys)) same ∙ get_right xs ys (k + n) x (h n x e)

-- ---- the places of an interval increase

abbrev pub IsElsewhere : ℕ → ℕ → Option ℕ → Type 0
IsElsewhere low high None = Unit {0}
IsElsewhere low high (Some p) = IsOutside low high p

abbrev pub RisesAmong : ℕ → ℕ → ℕ → List (Option ℕ) → Type 0
RisesAmong low high p [] = Unit {0}
RisesAmong low high p (x ∷ xs) =
    (IsElsewhere low high x × RisesAmong low high p xs) ⊎ ((q : ℕ) × (x ≡ Some q) × (p ≤ q) × RisesAmong low high (q + 1) xs)

module _ (low high : ℕ) where
  abbrev pub AreElsewhere : List (Option ℕ) → Type 0
  AreElsewhere xs = AllByRecursion (IsElsewhere low high) xs

  pub elsewhere_first : (p : ℕ) (xs ys : List (Option ℕ)) → AreElsewhere xs → RisesAmong low high p ys → RisesAmong low high p (xs ++ ys)
  elsewhere_first p [] ys h k = k
  elsewhere_first p (x ∷ xs) ys h k = inl (h.0, elsewhere_first p xs ys h.1 k)

  -- A place of the interval that occurs in the list is not below the bound.
  at_least : (xs : List (Option ℕ)) (p n x : ℕ) → RisesAmong low high p xs → low ≤ x → x < high → slice_get xs n ≡ Some (Some x) → p ≤ x
  at_least [] p n x h above below e = absurd cc
  at_least (y ∷ xs) p zero x h above below e =
      let here : y ≡ Some x = some_is y (Some x) e in
      elim h [
        | inl out ↦
            let o : IsOutside low high x = subst (IsElsewhere low high) here out.0 in
            elim o [ inl less ↦ absurd (omega (arith, less, above)) | inr past ↦ absurd (omega (arith, past, below)) ]
        | inr (place, stands, from, rises) ↦
            let same : place ≡ x = some_is place x (sym stands ∙ here) in
            omega (arith, from, same)
      ]
  at_least (y ∷ xs) p (suc n) x h above below e = elim h [
    | inl out ↦ at_least xs p n x out.1 above below e
    | inr (place, stands, from, rises) ↦ omega (arith, from, at_least xs (place + 1) n x rises above below e)
  ]

  once_first : (y : Option ℕ) (xs : List (Option ℕ)) (p n x : ℕ) → RisesAmong low high p (y ∷ xs) → low ≤ x → x < high → ◌≡◌ {A = Option (Option ℕ)} (Some y) (Some (Some x)) → slice_get xs n ≡ Some (Some x) → ⊥
  once_first y xs p n x h above below e f =
      let here : y ≡ Some x = some_is y (Some x) e in
      elim h [
        | inl out ↦
            let o : IsOutside low high x = subst (IsElsewhere low high) here out.0 in
            elim o [ inl less ↦ omega (arith, less, above) | inr past ↦ omega (arith, past, below) ]
        | inr (place, stands, from, rises) ↦
            let same : place ≡ x = some_is place x (sym stands ∙ here) in
            omega (arith, same, at_least xs (place + 1) n x rises above below f)
      ]

  -- A place of the interval occurs at most once.
  pub once : (xs : List (Option ℕ)) (p n k x : ℕ) → RisesAmong low high p xs → low ≤ x → x < high → slice_get xs n ≡ Some (Some x) → slice_get xs k ≡ Some (Some x) → n ≡ k
  once [] p n k x h above below e f = absurd cc
  once (y ∷ xs) p zero zero x h above below e f = refl
  once (y ∷ xs) p zero (suc k) x h above below e f = absurd (once_first y xs p k x h above below e f)
  once (y ∷ xs) p (suc n) zero x h above below e f = absurd (once_first y xs p n x h above below f e)
  once (y ∷ xs) p (suc n) (suc k) x h above below e f = elim h [
    | inl out ↦ ap suc (once xs p n k x out.1 above below e f)
    | inr (place, stands, from, rises) ↦ ap suc (once xs (place + 1) n k x rises above below e f)
  ]

  -- The lower bound may be lowered.
  among_from : (xs : List (Option ℕ)) (p q : ℕ) → p ≤ q → RisesAmong low high q xs → RisesAmong low high p xs
  among_from [] p q le h = tt
  among_from (x ∷ xs) p q le h = elim h [
    | inl out ↦ inl (out.0, among_from xs p q le out.1)
    | inr (place, stands, from, rises) ↦ inr (place, stands, omega (arith, le, from), rises)
  ]

  dropped : (drop : Bool) (x : Option ℕ) (xs ys : List (Option ℕ)) (p : ℕ) → RisesAmong low high p (x ∷ xs) → ((q : ℕ) → RisesAmong low high q xs → RisesAmong low high q ys) →
      RisesAmong low high p (cond drop ys (x ∷ ys))
  dropped false x xs ys p h rest = elim h [
    | inl out ↦ inl (out.0, rest p out.1)
    | inr (place, stands, from, rises) ↦ inr (place, stands, from, rest (place + 1) rises)
  ]
  dropped true x xs ys p h rest = elim h [
    | inl out ↦ rest p out.1
    | inr (place, stands, from, rises) ↦ among_from ys p (place + 1) (omega (arith, from)) (rest (place + 1) rises)
  ]

  -- If the places of an interval increase, they also do without the lines with some places.
  pub rises_kept : (ps : List ℕ) (xs : List (Option ℕ)) (p : ℕ) → RisesAmong low high p xs → RisesAmong low high p (lines_without ps xs)
  rises_kept ps [] p h = tt
  rises_kept ps (x ∷ xs) p h = dropped (is_among ps x) x xs (lines_without ps xs) p h (λ q rest. rises_kept ps xs q rest)

  -- ---- lines that follow increasing places, some of which may be left out

  abbrev pub Follows : List ℕ → List (Option ℕ) → Type 0
  Follows ps ls =
      (p : ℕ) (more : List ℕ) (others : List (Option ℕ)) → Rises p (ps ++ more) high →
      ((q : ℕ) → Rises q more high → RisesAmong low high q others) → RisesAmong low high p (ls ++ others)

  pub follows_none : Follows [] []
  follows_none p more others h k = k p h

  pub follows_one : (x : ℕ) → Follows (x ∷ []) (Some x ∷ [])
  follows_one x p more others h k = inr (x, refl, h.0, k (x + 1) h.1)

  pub follows_skip : (x : ℕ) → Follows (x ∷ []) []
  follows_skip x p more others h k = k p (rises_from p (x + 1) high more (omega (arith, h.0)) h.1)

  -- Lines with places elsewhere may occur in between.
  pub follows_elsewhere : (ls : List (Option ℕ)) → AreElsewhere ls → Follows [] ls
  follows_elsewhere ls out p more others h k = elsewhere_first p ls others out (k p h)

  -- Lines with places elsewhere may occur after the others.
  pub follows_then : (ps : List ℕ) (ls ms : List (Option ℕ)) → Follows ps ls → AreElsewhere ms → Follows ps (ls ++ ms)
  follows_then ps ls ms first out p more others h k =
      subst (RisesAmong low high p) (sym (append_assoc ls ms others))
      (first p more (ms ++ others) h (λ q rest. elsewhere_first q ms others out (k q rest)))

  pub follows_both : (ps qs : List ℕ) (ls ms : List (Option ℕ)) → Follows ps ls → Follows qs ms → Follows (ps ++ qs) (ls ++ ms)
  follows_both ps qs ls ms first second p more others h k =
      subst (RisesAmong low high p) (sym (append_assoc ls ms others))
      (first p (qs ++ more) (ms ++ others) (subst (λ (xs : List ℕ). Rises p xs high) (append_assoc ps qs more) h) (λ q rest. second q more others rest k))

-- ---- parts of increasing places

pub rises_left : (p q : ℕ) (xs ys : List ℕ) → Rises p (xs ++ ys) q → Rises p xs q
rises_left p q [] ys h = rises_ends p q ys h
rises_left p q (x ∷ xs) ys h = (h.0, rises_left (x + 1) q xs ys h.1)

pub rises_right : (p q : ℕ) (xs ys : List ℕ) → Rises p (xs ++ ys) q → Rises p ys q
rises_right p q [] ys h = h
rises_right p q (x ∷ xs) ys h = rises_from p (x + 1) q ys (omega (arith, h.0)) (rises_right (x + 1) q xs ys h.1)

-- If the places of all items together increase, so do those of each item.
pub rises_each : {A : Type 0} (shown : A → List ℕ) (xs : List A) (p q i : ℕ) (x : A) → Rises p (flat_map shown xs) q → slice_get xs i ≡ Some x → Rises p (shown x) q
rises_each shown [] p q i x h e = absurd cc
rises_each shown (y ∷ xs) p q zero x h e =
    subst (λ (z : _). Rises p (shown z) q) (some_is y x e) (rises_left p q (shown y) (flat_map shown xs) h)
rises_each shown (y ∷ xs) p q (suc i) x h e = rises_each shown xs p q i x (rises_right p q (shown y) (flat_map shown xs) h) e
