-- The custom sections at each position, one position after the other, are all custom sections in their order.
use Rattle.std.proofs.Common.{◌≡◌, ℕ, suc, ◌<◌, ◌≤◌, Bool, true, false, ◌&&◌, ◌||◌, leb, List, [], ◌∷◌, ◌++◌, Option, Some, None, refl, sym, ap, ◌∙◌, map, true≢false, arith}
use Rattle.std.proofs.lemmas.Bool.{and_parts, leb-true}
use Rattle.wasmprinter_spec.specs.Kinds.{Kind, CustomSection, DataCountSection}
use Rattle.wasmprinter_spec.specs.Placed.{CustomEntry}
use Rattle.wasmprinter_spec.specs.Customs.{RawCustom, raw_customs}
use Rattle.wasmprinter_spec.specs.Layout.{section_order}
use Rattle.wasmprinter_spec.specs.Layout.Customs.{same_after}
use Rattle.wasmprinter_spec.proofs.SameKinds.{same_kind-is}
use Rattle.wasmprinter_laws.proofs.Customs.Ordered.{after_rank, is_custom_position, AreInOrder}
use Rattle.wasmprinter_laws.proofs.Customs.Notes.{customs_after_kind, raw_customs-append, AreAnywhere}

-- All positions, in the order of the layout
abbrev pub custom_positions : List (Option Kind)
custom_positions = None ∷ map Some section_order

-- The custom sections at these positions, in the order of this list
abbrev pub over : List (Option Kind) → List CustomEntry → List CustomEntry
over [] cs = []
over (p ∷ ps) cs = customs_after_kind p cs ++ over ps cs

-- The raw custom sections at these positions
abbrev pub raws_over : List (Option Kind) → List CustomEntry → List RawCustom
raws_over [] cs = []
raws_over (p ∷ ps) cs = raw_customs (customs_after_kind p cs) ++ raws_over ps cs

-- Reports whether the ranks of positions increase and none is below `low`.
abbrev rises : ℕ → List (Option Kind) → Bool
rises low [] = true
rises low (p ∷ ps) = leb low (after_rank p) && rises (suc (after_rank p)) ps

abbrev is_among : Option Kind → List (Option Kind) → Bool
is_among k [] = false
is_among k (p ∷ ps) = same_after k p || is_among k ps

-- ---- one position

same_rank : (a b : Option Kind) → same_after a b ≡ true → after_rank a ≡ after_rank b
same_rank None None e = refl
same_rank (Some j) (Some k) e = ap (λ x. after_rank (Some x)) (same_kind-is j k e)
same_rank None (Some k) e = absurd cc
same_rank (Some j) None e = absurd cc

-- Places with different ranks are different.
other_place : (a b : Option Kind) → (after_rank a ≡ after_rank b → ⊥) → same_after a b ≡ false
other_place a b apart = by (same_after a b) refl
  where
    by : (t : Bool) → same_after a b ≡ t → t ≡ false
    by true e = absurd (apart (same_rank a b e))
    by false e = refl

-- A position with a rank below those of all sections has none of them.
none_at : (p : Option Kind) (low : ℕ) (cs : List CustomEntry) → after_rank p < low → AreInOrder low cs → customs_after_kind p cs ≡ []
none_at p low [] lt h = refl
none_at p low (c ∷ cs) lt (from, any, others) =
    rw (other_place c.after p (λ e. omega (arith, from, lt, e)), none_at p (after_rank c.after) cs (omega (arith, from, lt)) others)

-- ---- all positions

-- A section with a rank below those of all positions is at none of them.
absent : (ps : List (Option Kind)) (low : ℕ) (c : CustomEntry) (cs : List CustomEntry) → rises low ps ≡ true → after_rank c.after < low → over ps (c ∷ cs) ≡ over ps cs
absent [] low c cs up lt = refl
absent (p ∷ ps) low c cs up lt =
    let parts = and_parts (leb low (after_rank p)) (rises (suc (after_rank p)) ps) up in
    let le : low ≤ after_rank p = leb-true low (after_rank p) parts.0 in
    rw (other_place c.after p (λ e. omega (arith, le, lt, e)), absent ps (suc (after_rank p)) c cs parts.1 (omega (arith, le, lt)))

-- The rank of a section at one of these positions is not below `low`.
among_rank : (ps : List (Option Kind)) (low : ℕ) (k : Option Kind) → rises low ps ≡ true → is_among k ps ≡ true → low ≤ after_rank k
among_rank [] low k up i = absurd (true≢false (sym i))
among_rank (p ∷ ps) low k up i =
    let parts = and_parts (leb low (after_rank p)) (rises (suc (after_rank p)) ps) up in
    by (same_after k p) refl i (leb-true low (after_rank p) parts.0) (λ j. among_rank ps (suc (after_rank p)) k parts.1 j)
  where
    by : (t : Bool) → same_after k p ≡ t → (t || is_among k ps) ≡ true → low ≤ after_rank p → (is_among k ps ≡ true → suc (after_rank p) ≤ after_rank k) → low ≤ after_rank k
    by true e j le more = omega (arith, le, same_rank k p e)
    by false e j le more = omega (arith, le, more j)

-- The first of sections in order comes first.
first_over : (ps : List (Option Kind)) (low : ℕ) (c : CustomEntry) (cs : List CustomEntry) → rises low ps ≡ true → is_among c.after ps ≡ true →
    AreInOrder (after_rank c.after) cs → over ps (c ∷ cs) ≡ c ∷ over ps cs
first_over [] low c cs up i h = absurd (true≢false (sym i))
first_over (p ∷ ps) low c cs up i h =
    let parts = and_parts (leb low (after_rank p)) (rises (suc (after_rank p)) ps) up in
    by (same_after c.after p) refl i parts.1 (λ j. first_over ps (suc (after_rank p)) c cs parts.1 j h)
  where
    by : (t : Bool) → same_after c.after p ≡ t → (t || is_among c.after ps) ≡ true → rises (suc (after_rank p)) ps ≡ true →
        (is_among c.after ps ≡ true → over ps (c ∷ cs) ≡ c ∷ over ps cs) → over (p ∷ ps) (c ∷ cs) ≡ c ∷ over (p ∷ ps) cs
    by true e j higher more = rw (e, absent ps (suc (after_rank p)) c cs higher (omega (arith, same_rank c.after p e)))
    by false e j higher more =
        let above : suc (after_rank p) ≤ after_rank c.after = among_rank ps (suc (after_rank p)) c.after higher j in
        rw (e, none_at p (after_rank c.after) cs (omega (arith, above)) h, more j)

is_among_positions : (k : Option Kind) → is_custom_position k ≡ true → is_among k custom_positions ≡ true
is_among_positions (Some CustomSection) h = absurd cc
is_among_positions (Some DataCountSection) h = absurd cc
is_among_positions _ h = refl

pub over_all : (low : ℕ) (cs : List CustomEntry) → AreInOrder low cs → over custom_positions cs ≡ cs
over_all low [] h = refl
over_all low (c ∷ cs) (from, any, others) =
    first_over custom_positions 0 c cs refl (is_among_positions c.after any) others ∙ ap (λ t. c ∷ t) (over_all (after_rank c.after) cs others)

raws_over-over : (ps : List (Option Kind)) (cs : List CustomEntry) → raws_over ps cs ≡ raw_customs (over ps cs)
raws_over-over [] cs = refl
raws_over-over (p ∷ ps) cs = ap (λ t. raw_customs (customs_after_kind p cs) ++ t) (raws_over-over ps cs) ∙ sym (raw_customs-append (customs_after_kind p cs) (over ps cs))

pub raws_over_all : (low : ℕ) (cs : List CustomEntry) → AreInOrder low cs → raws_over custom_positions cs ≡ raw_customs cs
raws_over_all low cs h = raws_over-over custom_positions cs ∙ ap raw_customs (over_all low cs h)

pub ordered_anywhere : (low : ℕ) (cs : List CustomEntry) → AreInOrder low cs → AreAnywhere cs
ordered_anywhere low [] h = tt
ordered_anywhere low (c ∷ cs) (from, any, others) = (any, ordered_anywhere (after_rank c.after) cs others)
