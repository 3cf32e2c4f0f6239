-- Custom sections at one position: only the answers to their claims decide what is printed of them.
use Rattle.std.specs.Prelude.{◌≡◌, ℕ, suc, ◌+◌, ◌<◌, ◌≤◌, ◌==◌, drop, length, List, [], ◌∷◌, Bool, true, false, Option, Some, None, slice_get, cond, refl}
use Rattle.std.proofs.Common.{sym, ap, ap₂, ◌∙◌, arith, get_or}
use Rattle.std.proofs.lemmas.Bool.{eq-eqb, ne_eqb}
use Rattle.std.proofs.lemmas.List.{at_drop_more, at_drop_all}
use Rattle.wasmprinter_spec.specs.Kinds.{Kind}
use Rattle.wasmprinter_spec.specs.Placed.{CustomEntry}
use Rattle.wasmprinter_spec.specs.Options.{Answers}
use Rattle.wasmprinter_spec.specs.Layout.Customs.{Part, custom_part, same_after, parts_at}
use Rattle.wasmprinter_spec.proofs.SameKinds.{same_kind-is, same_kind-refl}

-- ---- One position

-- If two positions are the same by the test, they are equal.
pub same_after-is : (a b : Option Kind) → same_after a b ≡ true → a ≡ b
same_after-is None None e = refl
same_after-is (Some j) (Some k) e = ap (λ (x : Kind). Some x) (same_kind-is j k e)
same_after-is None (Some k) e = absurd cc
same_after-is (Some j) None e = absurd cc

same_after-refl : (a : Option Kind) → same_after a a ≡ true
same_after-refl None = refl
same_after-refl (Some k) = same_kind-refl k

pub after-same : (a b : Option Kind) → a ≡ b → same_after a b ≡ true
after-same a b e = ap (λ (x : Option Kind). same_after x b) e ∙ same_after-refl b

pub after-other : (a b : Option Kind) → (a ≡ b → ⊥) → same_after a b ≡ false
after-other a b other = by (same_after a b) refl
  where
    by : (t : Bool) → same_after a b ≡ t → t ≡ false
    by true e = absurd (other (same_after-is a b e))
    by false e = refl

-- ---- Answers

module _ (skeleton : Bool) (after : Option Kind) where
  -- The parts at a position depend only on the answers to the sections at that position.
  pub parts_at-agree : (a b : Answers) (n : ℕ) (cs : List CustomEntry) →
      ((i : ℕ) (c : CustomEntry) → slice_get cs i ≡ Some c → same_after c.after after ≡ true → a (n + i) ≡ b (n + i)) →
      parts_at skeleton a after n cs ≡ parts_at skeleton b after n cs
  parts_at-agree a b n [] agree = refl
  parts_at-agree a b n (c ∷ cs) agree =
      let others : parts_at skeleton a after (n + 1) cs ≡ parts_at skeleton b after (n + 1) cs =
      parts_at-agree a b (n + 1) cs (λ i d at same.
      let number : (n + 1) + i ≡ n + suc i = omega arith in
      ap a number ∙ agree (suc i) d at same ∙ sym (ap b number)) in
      by (same_after c.after after) refl others
    where
      by : (t : Bool) → same_after c.after after ≡ t → parts_at skeleton a after (n + 1) cs ≡ parts_at skeleton b after (n + 1) cs →
          parts_at skeleton a after n (c ∷ cs) ≡ parts_at skeleton b after n (c ∷ cs)
      by true e others =
          let number : n + 0 ≡ n = omega arith in
          let first : a n ≡ b n = sym (ap a number) ∙ agree 0 c refl e ∙ ap b number in
          rw (e, first, others) refl
      by false e others = rw (e, others) refl

  -- ---- One section, and those after it

  -- A section at another position is skipped.
  pub parts_at-passed : (a : Answers) (n : ℕ) (c : CustomEntry) (cs : List CustomEntry) → (c.after ≡ after → ⊥) →
      parts_at skeleton a after n (c ∷ cs) ≡ parts_at skeleton a after (n + 1) cs
  parts_at-passed a n c cs other = rw (after-other c.after after other) refl

  -- A section at this position is the first part.
  pub parts_at-here : (a : Answers) (n : ℕ) (c : CustomEntry) (cs : List CustomEntry) → c.after ≡ after →
      parts_at skeleton a after n (c ∷ cs) ≡ custom_part skeleton (a n) c ∷ parts_at skeleton a after (n + 1) cs
  parts_at-here a n c cs here = rw (after-same c.after after here) refl

-- ---- Answers that are given one by one

-- The answers with this answer to section n.
abbrev pub with_answer : ℕ → Bool → Answers → Answers
with_answer n answer others = λ k. cond (k == n) answer (others k)

with_answer-at : (n : ℕ) (answer : Bool) (others : Answers) → with_answer n answer others n ≡ answer
with_answer-at n answer others = rw (eq-eqb n n refl) refl

with_answer-after : (n i : ℕ) (answer : Bool) (others : Answers) → with_answer n answer others ((n + 1) + i) ≡ others ((n + 1) + i)
with_answer-after n i answer others = rw (ne_eqb ((n + 1) + i) n (λ e. omega (arith, e))) refl

-- The parts from a section at the position on are that section's, by its own answer, and those after it.
pub parts_at-answered : (skeleton : Bool) (after : Option Kind) (answer : Bool) (others : Answers) (n : ℕ) (c : CustomEntry) (cs : List CustomEntry) → c.after ≡ after →
    parts_at skeleton (with_answer n answer others) after n (c ∷ cs) ≡ custom_part skeleton answer c ∷ parts_at skeleton others after (n + 1) cs
parts_at-answered skeleton after answer others n c cs here =
    let agree = parts_at-agree skeleton after (with_answer n answer others) others (n + 1) cs (λ i d at same. with_answer-after n i answer others) in
    parts_at-here skeleton after (with_answer n answer others) n c cs here
    ∙ ap₂ (λ (x : Bool) (ps : List Part). custom_part skeleton x c ∷ ps) (with_answer-at n answer others) agree

-- ---- The sections left in a loop

module _ (skeleton : Bool) (after : Option Kind) (others : Answers) (i : ℕ) (cs : List CustomEntry) where
  -- After the last section no part is left.
  pub left-none : length cs ≤ i → parts_at skeleton others after i (drop i cs) ≡ []
  left-none le = at_drop_all (parts_at skeleton others after i) cs i le

  module _ (c d : CustomEntry) (lt : i < length cs) (is : c ≡ get_or cs i d) where
    left-more : (answers : Answers) → parts_at skeleton answers after i (drop i cs) ≡ parts_at skeleton answers after i (c ∷ drop (i + 1) cs)
    left-more answers =
        at_drop_more (parts_at skeleton answers after i) cs i d lt
        ∙ ap (λ (x : CustomEntry). parts_at skeleton answers after i (x ∷ drop (i + 1) cs)) (sym is)

    -- If the next section is at another position, the parts that are left are those after it.
    pub left-passed : (c.after ≡ after → ⊥) → parts_at skeleton others after i (drop i cs) ≡ parts_at skeleton others after (i + 1) (drop (i + 1) cs)
    left-passed other = left-more others ∙ parts_at-passed skeleton after others i c (drop (i + 1) cs) other

    -- If the next section is at this position, the parts that are left are its part, by its own answer, and those after
    -- it.
    pub left-answered : (answer : Bool) → c.after ≡ after →
        parts_at skeleton (with_answer i answer others) after i (drop i cs) ≡ custom_part skeleton answer c ∷ parts_at skeleton others after (i + 1) (drop (i + 1) cs)
    left-answered answer here =
        left-more (with_answer i answer others) ∙ parts_at-answered skeleton after answer others i c (drop (i + 1) cs) here

-- ---- One table of answers for all positions

abbrev answer_of : (Option Kind → Answers) → ℕ → Option CustomEntry → Bool
answer_of table n None = false
answer_of table n (Some c) = table c.after n

-- If each position has answers to its sections, there are answers to all sections that agree with them at each position.
pub one_table : (skeleton : Bool) (table : Option Kind → Answers) (cs : List CustomEntry) →
    (answers : Answers) × ((after : Option Kind) → parts_at skeleton answers after 0 cs ≡ parts_at skeleton (table after) after 0 cs)
one_table skeleton table cs =
    let answers : Answers = λ n. answer_of table n (slice_get cs n) in (
      answers,
      λ after. parts_at-agree skeleton after answers (table after) 0 cs (λ i c at same.
          let number : 0 + i ≡ i = omega arith in
          ap answers number ∙ ap (answer_of table i) at ∙ ap (λ (q : Option Kind). table q i) (same_after-is c.after after same) ∙ sym (ap (table after) number)),
    )
