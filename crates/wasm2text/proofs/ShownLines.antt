-- The line that shows a byte, among the first lines.
use Rattle.std.specs.Prelude.{◌≡◌, ℕ, ◌+◌, ◌<◌, ◌≤◌, List, Bool, true, false, Option, Some, None, length, slice_get, nat_le, nat_lt, ◌&&◌, if◌then◌else◌}
use Rattle.std.specs.Borrow.{Bor}
use Rattle.std.specs.Option.{option_map}
use Rattle.std.proofs.Common.{refl, ap, ◌∙◌, get_or, arith, inl, inr, below_more}
use Rattle.std.proofs.lemmas.Bool.{leb-true, leb-false, ltb-true, ltb-false, and_parts, and_cases}
use Rattle.std.proofs.lemmas.Option.{slice_get_within, slice_get-get_or, slice_get-map}
use Rattle.wasmprinter_spec.specs.Lines.{TextLine, line_places}
use Rattle.wasmprinter.specs.Found.{text_lines}
use Rattle.wasm2text.specs.Excerpt.{ShowsByte, nearer}

-- Of the first `k` lines with these places, the line with this index and this place is the one found.
abbrev pub NearestBelow : List (Option ℕ) → ℕ → ℕ → ℕ × ℕ → Type 0
NearestBelow places offset k shown =
    (slice_get places shown.0 ≡ Some (Some shown.1)) × (shown.1 ≤ offset) × (shown.0 ≤ k)
    × ((i : ℕ) → i < k → (q : ℕ) → slice_get places i ≡ Some (Some q) → q ≤ offset → q ≤ shown.1)
    × ((i : ℕ) → i < k → slice_get places i ≡ Some (Some shown.1) → shown.0 ≤ i)

same : (o : Option (Option ℕ)) (p q : ℕ) → o ≡ Some (Some p) → o ≡ Some (Some q) → q ≡ p
same o p q e f = cc

clash : (o : Option (Option ℕ)) (q : ℕ) → o ≡ Some None → o ≡ Some (Some q) → ⊥
clash o q e f = cc

-- A line without a place changes nothing.
unplaced : (places : List (Option ℕ)) (offset k : ℕ) (b : ℕ × ℕ) → slice_get places k ≡ Some None →
    NearestBelow places offset k b → NearestBelow places offset (k + 1) b
unplaced places offset k b e h = (
  h.0,
  h.1,
  omega (arith, h.2),
  below_more _ _ h.3 (λ q f le. absurd (clash (slice_get places k) q e f)),
  below_more _ _ h.4 (λ f. absurd (clash (slice_get places k) b.1 e f)),
)

-- A line whose place is nearer becomes the line found.
taken : (places : List (Option ℕ)) (offset k p : ℕ) (b : ℕ × ℕ) → slice_get places k ≡ Some (Some p) → p ≤ offset → b.1 < p →
    NearestBelow places offset k b → NearestBelow places offset (k + 1) (k, p)
taken places offset k p b e le above h = (
  e,
  le,
  omega arith,
  below_more _ _ (λ i lt q f within. let below : q ≤ b.1 = h.3 i lt q f within in omega (arith, below, above))
      (λ q f within. let is : q ≡ p = same (slice_get places k) p q e f in omega (arith, is)),
  below_more _ _ (λ i lt f. let below : p ≤ b.1 = h.3 i lt p f le in absurd (omega (arith, below, above))) (λ f. omega arith),
)

-- A line whose place is after the byte changes nothing.
later : (places : List (Option ℕ)) (offset k p : ℕ) (b : ℕ × ℕ) → slice_get places k ≡ Some (Some p) → offset < p →
    NearestBelow places offset k b → NearestBelow places offset (k + 1) b
later places offset k p b e after h = (
  h.0,
  h.1,
  omega (arith, h.2),
  below_more _ _ h.3 (λ q f within. let is : q ≡ p = same (slice_get places k) p q e f in absurd (omega (arith, is, after, within))),
  below_more _ _ h.4 (λ f. h.2),
)

-- A line whose place is not greater than that of the line found changes nothing.
lesser : (places : List (Option ℕ)) (offset k p : ℕ) (b : ℕ × ℕ) → slice_get places k ≡ Some (Some p) → p ≤ b.1 →
    NearestBelow places offset k b → NearestBelow places offset (k + 1) b
lesser places offset k p b e below h = (
  h.0,
  h.1,
  omega (arith, h.2),
  below_more _ _ h.3 (λ q f within. let is : q ≡ p = same (slice_get places k) p q e f in omega (arith, is, below)),
  below_more _ _ h.4 (λ f. h.2),
)

by_test : {A : Type 0} (t : Bool) (new old : A) (P : A → Type 0) → (t ≡ true → P new) → (t ≡ false → P old) → P (if t then new else old)
by_test true new old P f g = f refl
by_test false new old P f g = g refl

-- A line with a place or without changes the line found as `nearer` says.
at_place : (places : List (Option ℕ)) (offset k : ℕ) (b : ℕ × ℕ) (place : Option ℕ) → slice_get places k ≡ Some place →
    NearestBelow places offset k b → NearestBelow places offset (k + 1) (nearer b k place offset)
at_place places offset k b None e h = unplaced places offset k b e h
at_place places offset k b (Some p) e h =
    by_test (nat_le p offset && nat_lt b.1 p) (k, p) b (NearestBelow places offset (k + 1))
    (λ t. let both = and_parts (nat_le p offset) (nat_lt b.1 p) t in taken places offset k p b e (leb-true p offset both.0) (ltb-true b.1 p both.1) h)
    (λ t. elim (and_cases (nat_le p offset) (nat_lt b.1 p) t) [
      | inl after ↦ later places offset k p b e (leb-false p offset after) h
      | inr less ↦ lesser places offset k p b e (ltb-false b.1 p less) h
    ])

-- The place of a line.
pub place_of_line : (lines : List (Option ℕ × Bor (List ℕ))) (k : ℕ) (d : Option ℕ × Bor (List ℕ)) → k < length lines →
    slice_get (line_places (text_lines lines)) k ≡ Some (get_or lines k d).0
place_of_line lines k d lt =
    slice_get-map (λ (line : TextLine). line.0) (text_lines lines) k
    ∙ ap (option_map (λ (line : TextLine). line.0)) (slice_get-map (λ (line : Option ℕ × Bor (List ℕ)). (line.0, line.1.now)) lines k
    ∙ ap (option_map (λ (line : Option ℕ × Bor (List ℕ)). (line.0, line.1.now))) (slice_get-get_or lines k d lt))

-- The next line is added to the lines before it.
pub next_line : (lines : List (Option ℕ × Bor (List ℕ))) (offset k : ℕ) (b : ℕ × ℕ) (d : Option ℕ × Bor (List ℕ)) → k < length lines →
    NearestBelow (line_places (text_lines lines)) offset k b →
    NearestBelow (line_places (text_lines lines)) offset (k + 1) (nearer b k (get_or lines k d).0 offset)
next_line lines offset k b d lt h =
    at_place (line_places (text_lines lines)) offset k b (get_or lines k d).0 (place_of_line lines k d lt) h

-- The line found among all lines.
pub all_lines : (places : List (Option ℕ)) (offset k : ℕ) (b : ℕ × ℕ) → length places ≤ k → NearestBelow places offset k b → ShowsByte places offset b.0
all_lines places offset k b all h = record {
  place = b.1;
  placed = h.0;
  before = h.1;
  greatest = λ i q f within. h.3 i (let lt : i < length places = slice_get_within places i (Some q) f in omega (arith, lt, all)) q f within;
  first = λ i f. h.4 i (let lt : i < length places = slice_get_within places i (Some b.1) f in omega (arith, lt, all)) f;
}
