-- Subsections of `dylink.0`, checked one after the other.
use Rattle.std.proofs.Common.{◌≡◌, ◌≢◌, ℕ, zero, suc, ◌-◌, ◌<◌, ◌≤◌, List, [], ◌∷◌, length, Bool, true, false, Option, Some, None, refl, sym, ap, ◌∙◌, subst, arith}
use Rattle.std.specs.Prelude.{◌==◌}
use Rattle.std.proofs.lemmas.Bool.{eqb-true, eqb-false, eq-eqb, ne_eqb}
use Rattle.std.proofs.lemmas.List.{length-append, nil_from_length}
use Rattle.wasmprinter_spec.specs.Grammar.{Input}
use Rattle.wasmprinter_spec.specs.Lenient.{give, read_after, repeat_at, continue_with}
use Rattle.wasmprinter_spec.specs.Customs.Dylink.{Subsection, subsection, one_subsection, Judged, Whole, Unknown, Faulty, other_of, first_some, first_other, judgement_by, judgement_of}
use Rattle.wasmprinter_custom.specs.Sound.{subsections_in, IsFaultless}

-- Each subsection takes at least one byte.
pub shrinks : (at : Input) (x : Subsection × Input) → subsection.parse at ≡ Some x → length x.1.bytes < length at.bytes
shrinks at x e =
    let s = subsection.sound at x e in
    let (begins, (value, kept, (front, after, joined, id_spelled, spelled))) = s.spelled in
    omega (arith, ap length s.parts, length-append s.text x.1.bytes, ap length joined, length-append front after, ap length id_spelled)

-- ---- The bound on the number of subsections suffices

-- At the end of the bytes there is no subsection.
none_at_end : (n : ℕ) (at : Input) → length at.bytes ≡ 0 → repeat_at one_subsection n at ≡ ([], Some at)
none_at_end zero at e = refl
none_at_end (suc n) at e = rw (eq-eqb (length at.bytes) 0 e, none_at_end n at e) refl

-- A subsection, followed by those that are read after it.
abbrev on_from : (Input → List Subsection × Option Input) → Option (Subsection × Input) → List Subsection × Option Input
on_from k None = ([], None)
on_from k (Some x) = (x.0 ∷ (k x.1).0, (k x.1).1)

on_by : (k : Input → List Subsection × Option Input) (r : Option (Subsection × Input)) → continue_with one_subsection (read_after subsection (λ s. give (s ∷ [])) r) k ≡ on_from k r
on_by k None = refl
on_by k (Some x) = refl

on_same : (j k : Input → List Subsection × Option Input) (r : Option (Subsection × Input)) → ((x : Subsection × Input) → r ≡ Some x → j x.1 ≡ k x.1) → on_from j r ≡ on_from k r
on_same j k None h = refl
on_same j k (Some x) h = ap (λ (r : List Subsection × Option Input). (x.0 ∷ r.0, r.1)) (h x refl)

step : (n : ℕ) (at : Input) → length at.bytes ≢ 0 → repeat_at one_subsection (suc n) at ≡ on_from (λ mid. repeat_at one_subsection n mid) (subsection.parse at)
step n at some = rw (ne_eqb (length at.bytes) 0 some) (on_by (λ mid. repeat_at one_subsection n mid) (subsection.parse at))

-- Any two bounds that are at least the number of bytes give the same subsections.
enough : (n m : ℕ) (at : Input) → length at.bytes ≤ n → length at.bytes ≤ m → repeat_at one_subsection n at ≡ repeat_at one_subsection m at
enough zero m at le more = sym (none_at_end m at (omega (arith, le)))
enough (suc n) zero at le more = none_at_end (suc n) at (omega (arith, more))
enough (suc n) (suc m) at le more = by (length at.bytes == 0) refl (λ x e. enough n m x.1 (omega (arith, le, shrinks at x e)) (omega (arith, more, shrinks at x e)))
  where
    by : (t : Bool) → (length at.bytes == 0) ≡ t → ((x : Subsection × Input) → subsection.parse at ≡ Some x → repeat_at one_subsection n x.1 ≡ repeat_at one_subsection m x.1)
        → repeat_at one_subsection (suc n) at ≡ repeat_at one_subsection (suc m) at
    by true none same =
        let e = eqb-true (length at.bytes) 0 none in
        none_at_end (suc n) at e ∙ sym (none_at_end (suc m) at e)
    by false some same =
        let ne = eqb-false (length at.bytes) 0 some in
        step n at ne ∙ on_same (λ mid. repeat_at one_subsection n mid) (λ mid. repeat_at one_subsection m mid) (subsection.parse at) same ∙ sym (step m at ne)

-- ---- The first subsection, then the others

abbrev judged_read : List Subsection × Option Input → Judged
judged_read r = judgement_by r.0 (first_other r.0) r.1

-- The result for a section, by its first subsection, whose id may be unknown, and the result for the others.
abbrev decided : Subsection → Option ℕ → Judged → Judged
decided s (Some id) others = Unknown id
decided s None (Whole ss) = Whole (s ∷ ss)
decided s None (Unknown id) = Unknown id
decided s None Faulty = Faulty

abbrev judged_from : (Input → Judged) → Option (Subsection × Input) → Judged
judged_from k None = Faulty
judged_from k (Some x) = decided x.0 (other_of x.0.value) (k x.1)

decided_by : (s : Subsection) (ss : List Subsection) (here after : Option ℕ) (end : Option Input) → judgement_by (s ∷ ss) (first_some here after) end ≡ decided s here (judgement_by ss after end)
decided_by s ss (Some id) after end = refl
decided_by s ss None (Some id) end = refl
decided_by s ss None None (Some at) = refl
decided_by s ss None None None = refl

judged_on : (k : Input → List Subsection × Option Input) (r : Option (Subsection × Input)) → judged_read (on_from k r) ≡ judged_from (λ at. judged_read (k at)) r
judged_on k None = refl
judged_on k (Some x) = decided_by x.0 (k x.1).0 (other_of x.0.value) (first_other (k x.1).0) (k x.1).1

judged_some : (at : Input) → length at.bytes ≢ 0 → judgement_of at ≡ judged_from judgement_of (subsection.parse at)
judged_some at some =
    let all : Input → List Subsection × Option Input = λ mid. repeat_at one_subsection (length mid.bytes) mid in
    let n : ℕ = length at.bytes - 1 in
    let more : length at.bytes ≡ suc n = omega (arith, some) in
    let read : repeat_at one_subsection (length at.bytes) at ≡ on_from all (subsection.parse at) =
    ap (λ (k : ℕ). repeat_at one_subsection k at) more ∙ step n at some
    ∙ on_same (λ mid. repeat_at one_subsection n mid) all (subsection.parse at) (λ x e. enough n (length x.1.bytes) x.1 (omega (arith, more, shrinks at x e)) (omega arith)) in
    ap judged_read read ∙ judged_on all (subsection.parse at)

pub judged_none : (at : Input) → at.bytes ≡ [] → judgement_of at ≡ Whole []
judged_none at none = ap judged_read (none_at_end (length at.bytes) at (ap length none))

-- ---- A loop over the subsections

-- The result without the subsections.
abbrev pub outcome : Judged → Judged
outcome (Whole ss) = Whole []
outcome (Unknown id) = Unknown id
outcome Faulty = Faulty

module _ (at : Input) (some : at.bytes ≢ []) where
  longer : length at.bytes ≢ 0
  longer e = some (nil_from_length at.bytes e)

  pub fault_decides : subsection.parse at ≡ None → judgement_of at ≡ Faulty
  fault_decides e = judged_some at longer ∙ ap (judged_from judgement_of) e

  module _ (x : Subsection × Input) (read : subsection.parse at ≡ Some x) where
    judged_front : judgement_of at ≡ decided x.0 (other_of x.0.value) (judgement_of x.1)
    judged_front = judged_some at longer ∙ ap (judged_from judgement_of) read

    pub other_decides : (id : ℕ) → other_of x.0.value ≡ Some id → judgement_of at ≡ Unknown id
    other_decides id e = judged_front ∙ ap (λ o. decided x.0 o (judgement_of x.1)) e

    judged_known : other_of x.0.value ≡ None → judgement_of at ≡ decided x.0 None (judgement_of x.1)
    judged_known e = judged_front ∙ ap (λ o. decided x.0 o (judgement_of x.1)) e

    outcome_by : (others : Judged) → outcome others ≡ outcome (decided x.0 None others)
    outcome_by (Whole ss) = refl
    outcome_by (Unknown id) = refl
    outcome_by Faulty = refl

    pub outcome_goes_on : other_of x.0.value ≡ None → outcome (judgement_of x.1) ≡ outcome (judgement_of at)
    outcome_goes_on e = outcome_by (judgement_of x.1) ∙ ap outcome (sym (judged_known e))

    whole_by : (others : Judged) → IsFaultless (decided x.0 None others) → IsFaultless others × (subsections_in (decided x.0 None others) ≡ x.0 ∷ subsections_in others)
    whole_by (Whole ss) w = (tt, refl)
    whole_by (Unknown id) w = absurd w
    whole_by Faulty w = absurd w

    -- If a section is well-formed, so is the rest after its first subsection.
    pub whole_goes_on : other_of x.0.value ≡ None → IsFaultless (judgement_of at) → IsFaultless (judgement_of x.1) × (subsections_in (judgement_of at) ≡ x.0 ∷ subsections_in (judgement_of x.1))
    whole_goes_on e w =
        let known : judgement_of at ≡ decided x.0 None (judgement_of x.1) = judged_known e in
        let p = whole_by (judgement_of x.1) (subst IsFaultless known w) in
        (p.0, ap subsections_in known ∙ p.1)

    pub other_not_whole : (id : ℕ) → other_of x.0.value ≡ Some id → IsFaultless (judgement_of at) → ⊥
    other_not_whole id e w = subst IsFaultless (other_decides id e) w

  pub fault_not_whole : subsection.parse at ≡ None → IsFaultless (judgement_of at) → ⊥
  fault_not_whole e w = subst IsFaultless (fault_decides e) w

-- ---- The result, given its outcome

pub whole_is : (j : Judged) → outcome j ≡ Whole [] → IsFaultless j × (j ≡ Whole (subsections_in j))
whole_is (Whole ss) e = (tt, refl)
whole_is (Unknown id) e = absurd cc
whole_is Faulty e = absurd cc

pub unknown_is : (j : Judged) (id : ℕ) → outcome j ≡ Unknown id → j ≡ Unknown id
unknown_is (Whole ss) id e = absurd cc
unknown_is (Unknown i) id e = e
unknown_is Faulty id e = e

pub faulty_is : (j : Judged) → outcome j ≡ Faulty → j ≡ Faulty
faulty_is (Whole ss) e = absurd cc
faulty_is (Unknown id) e = e
faulty_is Faulty e = e
