-- Items that are read one after the other.
use Rattle.std.proofs.Common.{◌≡◌, ℕ, ◌+◌, ◌-◌, ◌<◌, ◌≤◌, ◌^◌, ltb, length, get_or, drop, List, [], ◌∷◌, ◌++◌, refl, sym, ap, ◌∙◌, arith, inl, inr, append_assoc, append-nil}
use Rattle.std.proofs.lemmas.Bool.{cases_lt, le-ltb, cond-false}
use Rattle.std.proofs.lemmas.List.{at_drop_more, drop_all}
use Rattle.wasmprinter_spec.specs.Grammar.{Placed}
use Rattle.wasmprinter_hidden.specs.Findings.{finding, if_longer}
use Rattle.wasmprinter_hidden.specs.Hidden.{first_place, in_items}
use Rattle.wasmprinter_hidden.specs.OpenParts.{capped, open_part, lengths, in_open, in_run, HasRead}
use Rattle.wasmprinter_hidden.specs.declared.finding.Part.{Part}
use Rattle.wasmprinter_hidden.specs.declared.finding.Finding.{Finding}
use Rattle.wasmprinter_hidden.specs.declared.findings.OpenPart.{OpenPart}

-- A part that is not longer than its shortest encoding has no finding.
pub not_longer : (part : Part) (place end len : ℕ) → end - place ≤ len → if_longer part place end len ≡ []
not_longer part place end len le =
    cond-false (ltb len (end - place)) (finding place part (end - place - len) ∷ []) [] (le-ltb len (end - place) le)

-- Below the greatest number of 64 bits, the cap makes no difference.
pub if_longer-capped : (part : Part) (place end len : ℕ) → end < 2 ^ 64 → if_longer part place end (capped len) ≡ if_longer part place end len
if_longer-capped part place end len lt =
    elim (cases_lt (2 ^ 64 - 1) len) [
      | inl above ↦ not_longer part place end (capped len) (omega arith) ∙ sym (not_longer part place end len (omega arith))
      | inr within ↦ let same : capped len ≡ len = omega arith in ap (if_longer part place end) same
    ]

-- The items xs are left of these items, which follow the part `first`. At any end, once it is known where the open part
-- ends, the findings are those of the whole.
abbrev pub HasLeft : Part → List Finding → OpenPart → List (Placed ℕ) → List Finding → OpenPart → List (Placed ℕ) → Type 0
HasLeft part old first all found last xs =
    (end : ℕ) → first_place xs end < 2 ^ 64
    → (first_place all end < 2 ^ 64) × (found ++ in_run last part xs end ≡ old ++ in_run first part all end)

module _ (part : Part) (old : List Finding) (first : OpenPart) (all : List (Placed ℕ)) where
  -- No item was read.
  pub left_all : HasLeft part old first all old first all
  left_all end lt = (lt, refl)

  -- One item more is read.
  pub left_more : (found more : List Finding) (last next : OpenPart) (place len : ℕ) (ys xs : List (Placed ℕ)) → place < 2 ^ 64 →
      more ≡ found ++ in_open last place → next ≡ open_part part place len → ys ≡ record { place = place; value = len } ∷ xs →
      HasLeft part old first all found last ys → HasLeft part old first all more next xs
  left_more found more last next place len ys xs lt is_more is_next step left end le =
      let closed : in_open next (first_place xs end) ≡ if_longer part place (first_place xs end) len =
      ap (λ (o : OpenPart). in_open o (first_place xs end)) is_next ∙ if_longer-capped part place (first_place xs end) len le in
      let rest = in_items part (λ n. n) xs end in
      let before = rw step at left end lt in (
        before.0,
        ap (λ (f : List Finding). f ++ in_run next part xs end) is_more
            ∙ append_assoc found (in_open last place) (in_run next part xs end)
            ∙ ap (λ (f : List Finding). found ++ (in_open last place ++ (f ++ rest))) closed
            ∙ before.1,
      )

  -- No item is left.
  pub left_none : (found : List Finding) (last : OpenPart) (ys : List (Placed ℕ)) → ys ≡ [] → HasLeft part old first all found last ys →
      HasRead part old first all found last
  left_none found last ys none left end lt =
      let all_read = rw none at left end lt in
      (all_read.0, ap (λ (f : List Finding). found ++ f) (sym (append-nil (in_open last end))) ∙ all_read.1)

module _ {A : Type 0} (place len : A → ℕ) where
  -- The first of the items that are left.
  pub lengths-drop : (xs : List A) (i : ℕ) (x : A) → i < length xs → x ≡ get_or xs i x →
      lengths place len (drop i xs) ≡ record { place = place x; value = len x } ∷ lengths place len (drop (i + 1) xs)
  lengths-drop xs i x lt is =
      at_drop_more (lengths place len) xs i x lt
      ∙ ap (λ (y : A). lengths place len (y ∷ drop (i + 1) xs)) (sym is)

  pub lengths-all : (xs : List A) (i : ℕ) → length xs ≤ i → lengths place len (drop i xs) ≡ []
  lengths-all xs i le = ap (lengths place len) (drop_all i xs le)

module _ {A : Type 0} (len : A → ℕ) where
  -- Items with their places are the same as the places and lengths of the items.
  pub first_place-lengths : (xs : List (Placed A)) (end : ℕ) → first_place (lengths (λ x. x.place) (λ x. len x.value) xs) end ≡ first_place xs end
  first_place-lengths [] end = refl
  first_place-lengths (x ∷ xs) end = refl

  pub in_items-lengths : (part : Part) (xs : List (Placed A)) (end : ℕ) →
      in_items part (λ n. n) (lengths (λ x. x.place) (λ x. len x.value) xs) end ≡ in_items part len xs end
  in_items-lengths part [] end = refl
  in_items-lengths part (x ∷ xs) end =
      ap (λ (p : ℕ). if_longer part x.place p (len x.value) ++ in_items part (λ n. n) (lengths (λ y. y.place) (λ y. len y.value) xs) end)
      (first_place-lengths xs end)
      ∙ ap (λ (f : List Finding). if_longer part x.place (first_place xs end) (len x.value) ++ f) (in_items-lengths part xs end)
