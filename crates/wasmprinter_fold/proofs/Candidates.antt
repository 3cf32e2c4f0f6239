-- The candidates of a row, and the search for operands among them.
use Rattle.std.proofs.Common.{◌≡◌, ◌≢◌, ℕ, zero, suc, ◌+◌, ◌-◌, ◌*◌, ◌<◌, ◌≤◌, Bool, true, false, cond, ltb, eqb, leb, min, ⊎_elim, List, [], ◌∷◌, ◌++◌, length, take, get_or, refl, sym, ◌∙◌, ap, subst, ◌^◌, ◌⊎◌, inl, inr, arith, append_assoc, length-append}
use Rattle.std.proofs.lemmas.Bool.{ne_eqb, eqb-true, eqb-false, le-ltb, ltb-true, ltb-false, le-leb, lt-leb, cond-true, cond-false}
use Rattle.std.proofs.lemmas.Bool.Decides.{leb_tells}
use Rattle.std.proofs.lemmas.List.{take_at, append-nil, get_or_append_left, same_from_push}
use Rattle.std.proofs.Math.Seq.{get_or-append_seam}
use Rattle.std.specs.List.Sorted.{IsNonDecreasingBy}
use Rattle.std.proofs.lemmas.List.Sorted.{IsNonDecreasingBy-short, IsNonDecreasingBy-push}
use Rattle.wasmprinter_spec.specs.Folding.Arities.{greatest, saturating_sum}
use Rattle.wasmprinter_spec.specs.Folding.Tree.{NodesOf, Nil, Snoc, row_of_both, count, front, results_of, OperandsOf, Fit, Overshot, TooFew, with_last, operands_from, operand_search}
use Rattle.wasmprinter_spec.proofs.Folding.{AreLast, AreLast-operand_search}
use Rattle.wasmprinter_fold.specs.declared.nodes.NodeText.{NodeText}
use Rattle.wasmprinter_fold.specs.declared.nodes.candidates.Candidate.{Candidate}
use Rattle.wasmprinter_fold.specs.declared.nodes.candidates.Cut.{Cut}
use Rattle.wasmprinter_fold.specs.declared.nodes.candidates.Taken.TheVariants as taken
use Rattle.wasmprinter_fold.specs.Candidates.{width, candidate_after, candidates, total_of, sum_at, IsSplit, outcome, IsCut, IsOperandsCut, IsEndOf, IsLimited}

by_le : {A : Type 0} (a b : ℕ) → (a ≤ b → A) → (b < a → A) → A
by_le a b f g = ⊎_elim (λ h. f h.1) (λ h. g h.1) (leb_tells a b)

-- ---- The list of candidates

pub length-candidates : (first : ℕ) (f : NodesOf NodeText) → length (candidates first f) ≡ width f
length-candidates first Nil = refl
length-candidates first (Snoc b h r held) =
    omega (arith, length-append (candidates first b) (candidate_after first b r ∷ []), length-candidates first b)

pub width-row_of_both : (a b : NodesOf NodeText) → width (row_of_both a b) ≡ width a + width b
width-row_of_both a Nil = omega arith
width-row_of_both a (Snoc b h r held) = omega (arith, width-row_of_both a b)

pub total-push : (xs : List Candidate) (x : Candidate) → total_of (xs ++ x ∷ []) ≡ x.sum
total-push [] x = refl
total-push (y ∷ []) x = refl
total-push (y ∷ (z ∷ zs)) x = total-push (z ∷ zs) x

pub total-candidates : (first : ℕ) (f : NodesOf NodeText) → total_of (candidates first f) ≡ results_of f
total-candidates first Nil = refl
total-candidates first (Snoc b h r held) = total-push (candidates first b) (candidate_after first b r)

-- The last candidate of a row, and those before it.
pub earlier-is : (first : ℕ) (f : NodesOf NodeText) (row earlier : List Candidate) (last : Candidate) → row ≡ candidates first f → row ≡ earlier ++ last ∷ []
    → earlier ≡ candidates first (front f)
earlier-is first Nil row earlier last h e = absurd (omega (arith, ap length (sym h ∙ e), length-append earlier (last ∷ [])))
earlier-is first (Snoc b x r held) row earlier last h e =
    sym (same_from_push (candidates first b) earlier (candidate_after first b r) last (sym h ∙ e)).0

pub last-is : (first : ℕ) (f : NodesOf NodeText) (row earlier : List Candidate) (last : Candidate) → row ≡ candidates first f → row ≡ earlier ++ last ∷ []
    → last.sum ≡ results_of f
last-is first f row earlier last h e = sym (total-push earlier last) ∙ (ap total_of (sym e ∙ h) ∙ total-candidates first f)

-- The sum of the last candidate is that of the row.
last-sum : (first : ℕ) (f : NodesOf NodeText) (d : Candidate) → 0 < length (candidates first f)
    → (get_or (candidates first f) (length (candidates first f) - 1) d).sum ≡ results_of f
last-sum first Nil d h = absurd (omega (arith, h))
last-sum first (Snoc b h r held) d lt =
    let n : length (candidates first b ++ candidate_after first b r ∷ []) - 1 ≡ length (candidates first b) =
    omega (arith, length-append (candidates first b) (candidate_after first b r ∷ [])) in
    ap (λ (i : ℕ). (get_or (candidates first b ++ candidate_after first b r ∷ []) i d).sum) n
    ∙ ap (λ (c : Candidate). c.sum) (get_or-append_seam (candidates first b) (candidate_after first b r) [] d)

pub rising : (first : ℕ) (f : NodesOf NodeText) → IsNonDecreasingBy (λ (c : Candidate). c.sum) (candidates first f)
rising first Nil = IsNonDecreasingBy-short (λ (c : Candidate). c.sum) [] (omega arith)
rising first (Snoc b h r held) =
    IsNonDecreasingBy-push (λ (c : Candidate). c.sum) (candidates first b) (candidate_after first b r) (rising first b)
    (λ d lt. omega (arith, last-sum first b d lt))

-- The candidates of the first nodes of a row are the first candidates.
pub record Extends (first : ℕ) (a b : NodesOf NodeText) : Type 0 where
  pub rest : List Candidate
  pub whole : candidates first (row_of_both a b) ≡ candidates first a ++ rest

extends : (first : ℕ) (a b : NodesOf NodeText) → Extends first a b
extends first a Nil = record { rest = []; whole = sym (append-nil (candidates first a)) }
extends first a (Snoc b h r held) =
    let shorter : Extends first a b = extends first a b in
    let next : Candidate = candidate_after first (row_of_both a b) r in
    record {
      rest = shorter.rest ++ next ∷ [];
      whole =
          ap (λ (l : List Candidate). l ++ next ∷ []) shorter.whole
          ∙ append_assoc (candidates first a) shorter.rest (next ∷ []);
    }

pub take-candidates : (first : ℕ) (a b : NodesOf NodeText) → take (width a) (candidates first (row_of_both a b)) ≡ candidates first a
take-candidates first a b =
    let e : Extends first a b = extends first a b in
    ap (take (width a)) e.whole ∙ take_at (candidates first a) e.rest (width a) (length-candidates first a)

-- The candidate of the first node after others says where that node begins.
module _ (first : ℕ) (a : NodesOf NodeText) (d : Candidate) where
  start-step : (b : NodesOf NodeText) (h : NodeText) (r : ℕ) (held : NodesOf NodeText)
      → (b ≢ Nil → (get_or (candidates first (row_of_both a b)) (width a) d).start ≡ first + count a)
      → (get_or (candidates first (row_of_both a (Snoc b h r held))) (width a) d).start ≡ first + count a
  start-step Nil h r held earlier =
      ap (λ (i : ℕ). (get_or (candidates first a ++ candidate_after first a r ∷ []) i d).start) (sym (length-candidates first a))
      ∙ ap (λ (c : Candidate). c.start) (get_or-append_seam (candidates first a) (candidate_after first a r) [] d)
  start-step (Snoc b g q parts) h r held earlier =
      let all : List Candidate = candidates first (row_of_both a (Snoc b g q parts)) in
      let lt : width a < length all =
      omega (arith, length-candidates first (row_of_both a (Snoc b g q parts)), width-row_of_both a b) in
      ap (λ (c : Candidate). c.start)
      (get_or_append_left all (candidate_after first (row_of_both a (Snoc b g q parts)) r ∷ []) d (width a) lt)
      ∙ earlier (λ e. cc)

  pub start-candidate : (b : NodesOf NodeText) → b ≢ Nil → (get_or (candidates first (row_of_both a b)) (width a) d).start ≡ first + count a
  start-candidate Nil ne = absurd (ne refl)
  start-candidate (Snoc b h r held) ne = start-step b h r held (start-candidate b)

-- ---- The search

-- The nodes of a row up to the last one whose sum is at most the limit.
abbrev within : ℕ → NodesOf NodeText → NodesOf NodeText
within limit Nil = Nil
within limit (Snoc b h r held) = cond (leb (results_of b + r) limit) (Snoc b h r held) (within limit b)

within-all : (limit : ℕ) (f : NodesOf NodeText) → results_of f ≤ limit → within limit f ≡ f
within-all limit Nil le = refl
within-all limit (Snoc b h r held) le = cond-true (leb (results_of b + r) limit) (Snoc b h r held) (within limit b) (le-leb (results_of b + r) limit le)

within-fewer : (limit : ℕ) (b held : NodesOf NodeText) (h : NodeText) (r : ℕ) → limit < results_of b + r → within limit (Snoc b h r held) ≡ within limit b
within-fewer limit b held h r lt = cond-false (leb (results_of b + r) limit) (Snoc b h r held) (within limit b) (lt-leb (results_of b + r) limit lt)

within-front : (limit : ℕ) (f : NodesOf NodeText) → limit < results_of f → within limit f ≡ within limit (front f)
within-front limit Nil lt = refl
within-front limit (Snoc b h r held) lt = within-fewer limit b held h r lt

-- A split of the candidates comes after these nodes.
pub split-is : (first limit index : ℕ) (f : NodesOf NodeText) → IsSplit (candidates first f) limit index → index ≡ width (within limit f)
split-is first limit index Nil h = omega (arith, h.within)
split-is first limit index (Snoc b x r held) h =
    let n : length (candidates first b) ≡ width b = length-candidates first b in
    let next : Candidate = candidate_after first b r in
    let none : Candidate = record { start = 0; sum = 0 } in
    let all : length (candidates first b ++ next ∷ []) ≡ suc (width b) = omega (arith, length-append (candidates first b) (next ∷ []), n) in
    let sum : sum_at (candidates first b ++ next ∷ []) (width b) ≡ results_of b + r =
    ap (λ (i : ℕ). sum_at (candidates first b ++ next ∷ []) i) (sym n)
    ∙ ap (λ (c : Candidate). c.sum) (get_or-append_seam (candidates first b) next [] none) in
    by_le (results_of b + r) limit
    (λ le.
    let more : index ≡ suc (width b) =
    by_le index (width b) (λ i. absurd (omega (arith, h.above (width b) i (omega (arith, all)), sum, le))) (λ i. omega (arith, i, h.within, all)) in
    more ∙ ap width (sym (within-all limit (Snoc b x r held) le)))
    (λ lt.
    let fewer : index ≤ width b =
    by_le index (width b) (λ i. i) (λ i. absurd (omega (arith, h.below (width b) i, sum, lt))) in
    let same : (k : ℕ) → k < length (candidates first b) → sum_at (candidates first b ++ next ∷ []) k ≡ sum_at (candidates first b) k =
    λ k i. ap (λ (c : Candidate). c.sum) (get_or_append_left (candidates first b) (next ∷ []) none k i) in
    let inner : IsSplit (candidates first b) limit index =
    record {
      within = omega (arith, fewer, n);
      below = λ k i. omega (arith, h.below k i, same k (omega (arith, i, fewer, n)));
      above = λ k i j. omega (arith, h.above k i (omega (arith, j, all, n)), same k j);
    } in
    split-is first limit index b inner ∙ ap width (sym (within-fewer limit b held x r lt)))

-- The outcome of a search in a row whose results reach the number of operands.
abbrev IsFound : ℕ → ℕ → NodesOf NodeText → OperandsOf NodeText → Type 0
IsFound limit wanted f (Fit before run) = (before ≡ within limit f) × ((results_of before ≡ limit) ⊎ (wanted ≡ greatest))
IsFound limit wanted f Overshot = (results_of (within limit f) ≢ limit) × (wanted ≢ greatest)
IsFound limit wanted f TooFew = ⊥

IsFound-deeper : (limit wanted : ℕ) (b held : NodesOf NodeText) (h : NodeText) (r : ℕ) (o : OperandsOf NodeText) → limit < results_of b + r
    → IsFound limit wanted b o → IsFound limit wanted (Snoc b h r held) (with_last h r held o)
IsFound-deeper limit wanted b held h r (Fit before run) lt i = (i.0 ∙ sym (within-fewer limit b held h r lt), i.1)
IsFound-deeper limit wanted b held h r Overshot lt i = rw (within-fewer limit b held h r lt) i
IsFound-deeper limit wanted b held h r TooFew lt i = i

IsFound-cond : (limit wanted : ℕ) (f : NodesOf NodeText) (t : Bool) (o p : OperandsOf NodeText) → (t ≡ true → IsFound limit wanted f o) → (t ≡ false → IsFound limit wanted f p)
    → IsFound limit wanted f (cond t o p)
IsFound-cond limit wanted f true o p x y = x refl
IsFound-cond limit wanted f false o p x y = y refl

-- `sum` results come after the row, and with the row's they are `limit` more than the number of operands.
found : (limit wanted sum : ℕ) (f : NodesOf NodeText) → wanted ≤ greatest → sum < wanted → limit + wanted ≡ sum + results_of f
    → IsFound limit wanted f (operands_from wanted sum f)
found limit wanted sum Nil most less e = absurd (omega (arith, less, e))
found limit wanted sum (Snoc b h r held) most less e =
    let next : ℕ = saturating_sum sum r in
    let f : NodesOf NodeText = Snoc b h r held in
    let over : limit < results_of b + r = omega (arith, less, e) in
    let deeper : OperandsOf NodeText = with_last h r held (operands_from wanted next b) in
    IsFound-cond limit wanted f (eqb next wanted) (Fit b (Snoc Nil h r held)) (cond (ltb wanted next) Overshot deeper)
    (λ t.
    let same : min (sum + r) greatest ≡ wanted = eqb-true next wanted t in
    let le : results_of b ≤ limit = omega (arith, same, e) in (
      sym (within-fewer limit b held h r over ∙ within-all limit b le),
      by_le (sum + r) greatest (λ i. inl (omega (arith, same, i, e))) (λ i. inr (omega (arith, same, i))),
    ))
    (λ t.
    IsFound-cond limit wanted f (ltb wanted next) Overshot deeper
    (λ u.
    let more : wanted < min (sum + r) greatest = ltb-true wanted next u in
    let le : results_of b ≤ limit = omega (arith, more, e) in (
      rw (within-fewer limit b held h r over, within-all limit b le) (λ s. omega (arith, s, more, e)),
      λ s. omega (arith, s, more),
    ))
    (λ u.
    let less : min (sum + r) greatest < wanted = omega (arith, eqb-false next wanted t, ltb-false wanted next u) in
    let plain : next ≡ sum + r = omega (arith, less, most) in
    IsFound-deeper limit wanted b held h r (operands_from wanted next b) over
    (found limit wanted next b most less (omega (arith, e, plain)))))

-- Too few results.
few : (wanted sum : ℕ) (f : NodesOf NodeText) → wanted ≤ greatest → sum + results_of f < wanted → operands_from wanted sum f ≡ TooFew
few wanted sum Nil most less = refl
few wanted sum (Snoc b h r held) most less =
    let next : ℕ = saturating_sum sum r in
    let plain : min (sum + r) greatest ≡ sum + r = omega (arith, less, most) in
    let deeper : OperandsOf NodeText = with_last h r held (operands_from wanted next b) in
    let here : OperandsOf NodeText = Fit b (Snoc Nil h r held) in
    cond-false (eqb next wanted) here (cond (ltb wanted next) Overshot deeper) (ne_eqb next wanted (λ s. omega (arith, s, plain, less)))
    ∙ (cond-false (ltb wanted next) Overshot deeper (le-ltb wanted next (omega (arith, plain, less)))
    ∙ ap (with_last h r held) (few wanted next b most (omega (arith, plain, less))))

-- The nodes up to the limit are the first of the row.
pub record Leads (limit : ℕ) (f : NodesOf NodeText) : Type 0 where
  pub rest : NodesOf NodeText
  pub whole : f ≡ row_of_both (within limit f) rest

leads : (limit : ℕ) (f : NodesOf NodeText) → Leads limit f
leads limit Nil = record { rest = Nil; whole = refl }
leads limit (Snoc b h r held) =
    let f : NodesOf NodeText = Snoc b h r held in
    by_le (results_of b + r) limit
    (λ le. record { rest = Nil; whole = sym (within-all limit f le) })
    (λ lt.
    let inner : Leads limit b = leads limit b in
    record {
      rest = Snoc inner.rest h r held;
      whole =
          ap (λ (g : NodesOf NodeText). Snoc g h r held) inner.whole
          ∙ ap (λ (g : NodesOf NodeText). Snoc (row_of_both g inner.rest) h r held) (sym (within-fewer limit b held h r lt));
    })

total-within : (first limit : ℕ) (f : NodesOf NodeText) → total_of (take (width (within limit f)) (candidates first f)) ≡ results_of (within limit f)
total-within first limit f =
    let g : NodesOf NodeText = within limit f in
    let l : Leads limit f = leads limit f in
    ap (λ (x : NodesOf NodeText). total_of (take (width g) (candidates first x))) l.whole
    ∙ (ap total_of (take-candidates first g l.rest) ∙ total-candidates first g)

outcome-found : (limit wanted : ℕ) (f : NodesOf NodeText) (o : OperandsOf NodeText) → IsFound limit wanted f o
    → (results_of (within limit f) ≡ limit) ⊎ (wanted ≡ greatest) → outcome o ≡ taken.From (width (within limit f))
outcome-found limit wanted f (Fit before run) i h = ap (λ (g : NodesOf NodeText). taken.From (width g)) i.0
outcome-found limit wanted f Overshot i h = ⊎_elim (λ e. absurd (i.0 e)) (λ e. absurd (i.1 e)) h
outcome-found limit wanted f TooFew i h = absurd i

outcome-over : (limit wanted : ℕ) (f : NodesOf NodeText) (o : OperandsOf NodeText) → IsFound limit wanted f o
    → results_of (within limit f) ≢ limit → wanted ≢ greatest → outcome o ≡ taken.Overshot
outcome-over limit wanted f (Fit before run) i ne nm = ⊎_elim (λ e. absurd (ne (sym (ap results_of i.0) ∙ e))) (λ e. absurd (nm e)) i.1
outcome-over limit wanted f Overshot i ne nm = refl
outcome-over limit wanted f TooFew i ne nm = absurd i

pub search-none : (operands : ℕ) (f : NodesOf NodeText) → operands ≡ 0 → taken.TooFew ≡ outcome (operand_search operands f)
search-none zero f e = refl
search-none (suc n) f e = absurd (omega (arith, e))

pub search-empty : (operands first : ℕ) (f : NodesOf NodeText) → length (candidates first f) ≡ 0 → taken.TooFew ≡ outcome (operand_search operands f)
search-empty zero first Nil e = refl
search-empty (suc n) first Nil e = refl
search-empty operands first (Snoc b h r held) e = absurd (omega (arith, e, length-append (candidates first b) (candidate_after first b r ∷ [])))

pub search-few : (operands : ℕ) (f : NodesOf NodeText) → operands ≤ greatest → results_of f < operands
    → taken.TooFew ≡ outcome (operand_search operands f)
search-few zero f most less = refl
search-few (suc n) f most less = sym (ap outcome (few (suc n) 0 f most (omega (arith, less))))

module _ (first operands limit index : ℕ) (f : NodesOf NodeText) (ne : operands ≢ 0) (most : operands ≤ greatest)
    (sums : limit + operands ≡ results_of f) (split : IsSplit (candidates first (front f)) limit index) where
  is_found : IsFound limit operands f (operands_from operands 0 f)
  is_found = found limit operands 0 f most (omega (arith, ne)) (omega (arith, sums))

  searches : (n : ℕ) → n ≢ 0 → operand_search n f ≡ operands_from n 0 f
  searches zero z = absurd (z refl)
  searches (suc n) z = refl

  same : within limit f ≡ within limit (front f)
  same = within-front limit f (omega (arith, sums, ne))

  at : index ≡ width (within limit f)
  at = split-is first limit index (front f) split ∙ ap width (sym same)

  total-at : total_of (take index (candidates first (front f))) ≡ results_of (within limit f)
  total-at =
      ap (λ (n : ℕ). total_of (take n (candidates first (front f)))) (split-is first limit index (front f) split)
      ∙ (total-within first limit (front f) ∙ ap results_of (sym same))

  pub search-found : (total_of (take index (candidates first (front f))) ≡ limit) ⊎ (operands ≡ greatest)
      → taken.From index ≡ outcome (operand_search operands f)
  search-found h =
      ap taken.From at
      ∙ sym
      (ap outcome (searches operands ne)
      ∙ outcome-found limit operands f (operands_from operands 0 f) is_found (⊎_elim (λ e. inl (sym total-at ∙ e)) (λ e. inr e) h))

  pub search-over : total_of (take index (candidates first (front f))) ≢ limit → operands ≢ greatest
      → taken.Overshot ≡ outcome (operand_search operands f)
  search-over h nm =
      sym
      (ap outcome (searches operands ne)
      ∙ outcome-over limit operands f (operands_from operands 0 f) is_found (λ e. h (total-at ∙ e)) nm)

-- ---- Where operands begin

-- Operands that were found are at least one node.
abbrev pub TakesSome : OperandsOf NodeText → Type 0
TakesSome (Fit before run) = run ≢ Nil
TakesSome Overshot = Unit {0}
TakesSome TooFew = Unit {0}

TakesSome-with_last : (h : NodeText) (r : ℕ) (held : NodesOf NodeText) (o : OperandsOf NodeText) → TakesSome (with_last h r held o)
TakesSome-with_last h r held (Fit before run) = λ e. cc
TakesSome-with_last h r held Overshot = tt
TakesSome-with_last h r held TooFew = tt

TakesSome-cond : (t : Bool) (o p : OperandsOf NodeText) → TakesSome o → TakesSome p → TakesSome (cond t o p)
TakesSome-cond true o p x y = x
TakesSome-cond false o p x y = y

takes_some-from : (wanted sum : ℕ) (f : NodesOf NodeText) → TakesSome (operands_from wanted sum f)
takes_some-from wanted sum Nil = tt
takes_some-from wanted sum (Snoc b h r held) =
    let next : ℕ = saturating_sum sum r in
    let deeper : OperandsOf NodeText = with_last h r held (operands_from wanted next b) in
    let here : OperandsOf NodeText = Fit b (Snoc Nil h r held) in
    let some : TakesSome here = λ e. cc in
    TakesSome-cond (eqb next wanted) here (cond (ltb wanted next) Overshot deeper) some
    (TakesSome-cond (ltb wanted next) Overshot deeper tt (TakesSome-with_last h r held (operands_from wanted next b)))

takes_some : (wanted : ℕ) (f : NodesOf NodeText) → TakesSome (operand_search wanted f)
takes_some zero f = tt
takes_some (suc n) f = takes_some-from (suc n) 0 f

pub left-limited : (f b : NodesOf NodeText) (t : NodesOf NodeText) → f ≡ row_of_both b t → IsLimited f → IsLimited b
left-limited f b Nil e h = subst IsLimited e h
left-limited f b (Snoc t x r held) e h =
    let both : IsLimited (row_of_both b t) × (r ≤ greatest) = subst IsLimited e h in
    left-limited (row_of_both b t) b t refl both.0

pub front-limited : (f : NodesOf NodeText) → IsLimited f → IsLimited (front f)
front-limited Nil h = tt
front-limited (Snoc b x r held) h = h.0

-- The index of the first operand is that of a candidate, which says where it begins.
pub record Begins (first kept own : ℕ) (f : NodesOf NodeText) (o : OperandsOf NodeText) : Type 0 where
  pub fits : kept < length (candidates first f)
  pub cut : (d : Candidate)
      → IsOperandsCut first f own o (record { kept = kept; start = (get_or (candidates first f) kept d).start; sum = total_of (take kept (candidates first f)) }) own

positive : (f : NodesOf NodeText) → f ≢ Nil → 0 < width f
positive Nil ne = absurd (ne refl)
positive (Snoc b x r held) ne = omega arith

begins-at : (first kept own : ℕ) (f : NodesOf NodeText) (o : OperandsOf NodeText) → AreLast f o → TakesSome o → taken.From kept ≡ outcome o
    → Begins first kept own f o
begins-at first kept own f (Fit before run) last some e =
    let here : kept ≡ width before = cc in
    let wide : 0 < width run = positive run some in
    record {
      fits = omega (arith, length-candidates first f, ap width last, width-row_of_both before run, here, wide);
      cut =
          λ d. record {
            before = before;
            taken = run;
            whole = last;
            cuts = record {
              kept = here;
              start =
                  ap (λ (i : ℕ). (get_or (candidates first f) i d).start) here
                  ∙ (ap (λ (g : NodesOf NodeText). (get_or (candidates first g) (width before) d).start) last
                  ∙ start-candidate first before d run some);
              sum =
                  ap (λ (i : ℕ). total_of (take i (candidates first f))) here
                  ∙ (ap (λ (g : NodesOf NodeText). total_of (take (width before) (candidates first g))) last
                  ∙ (ap total_of (take-candidates first before run) ∙ total-candidates first before));
            };
            folds = λ head. refl;
          };
    }
begins-at first kept own f Overshot last some e = absurd cc
begins-at first kept own f TooFew last some e = absurd cc

pub begins : (first kept own operands : ℕ) (f : NodesOf NodeText) → taken.From kept ≡ outcome (operand_search operands f)
    → Begins first kept own f (operand_search operands f)
begins first kept own operands f e =
    begins-at first kept own f (operand_search operands f) (AreLast-operand_search operands f) (takes_some operands f) e

-- The position after all nodes.
pub end-is : (row : List Candidate) (end first sum : ℕ) (f : NodesOf NodeText) → IsEndOf row end first f → sum ≡ total_of row
    → IsCut first f (record { kept = length row; start = end; sum = sum })
end-is row end first sum f h s =
    record {
      kept = ap length h.whole ∙ length-candidates first f;
      start = h.ends;
      sum = s ∙ (ap total_of h.whole ∙ total-candidates first f);
    }

-- An operator that takes no node comes after all of them.
module _ (first own : ℕ) (f : NodesOf NodeText) (cut : Cut) (cuts : IsCut first f cut) where
  pub cut-over : (o : OperandsOf NodeText) → taken.Overshot ≡ outcome o → IsOperandsCut first f own o cut greatest
  cut-over (Fit before run) e = absurd cc
  cut-over Overshot e = record { before = f; taken = Nil; whole = refl; cuts = cuts; folds = λ head. refl }
  cut-over TooFew e = absurd cc

  pub cut-few : (o : OperandsOf NodeText) → taken.TooFew ≡ outcome o → IsOperandsCut first f own o cut own
  cut-few (Fit before run) e = absurd cc
  cut-few Overshot e = absurd cc
  cut-few TooFew e = record { before = f; taken = Nil; whole = refl; cuts = cuts; folds = λ head. refl }

-- The predicate of an `if` is the last node.
pub front-ends : (row before : List Candidate) (predicate : Candidate) (first : ℕ) (f : NodesOf NodeText) → row ≡ candidates first f
    → row ≡ before ++ predicate ∷ [] → IsEndOf before predicate.start first (front f)
front-ends row before predicate first Nil h e = absurd (omega (arith, ap length (sym h ∙ e), length-append before (predicate ∷ [])))
front-ends row before predicate first (Snoc b x r held) h e =
    let same = same_from_push (candidates first b) before (candidate_after first b r) predicate (sym h ∙ e) in
    record { whole = sym same.0; ends = ap (λ (c : Candidate). c.start) (sym same.1) }

pub front-none : (row : List Candidate) (end first : ℕ) (f : NodesOf NodeText) → IsEndOf row end first f → length row ≡ 0 → IsEndOf row end first (front f)
front-none row end first Nil h e = h
front-none row end first (Snoc b x r held) h e =
    absurd (omega (arith, e, ap length h.whole, length-append (candidates first b) (candidate_after first b r ∷ [])))

-- ---- One more candidate

-- Nodes that are limited have fewer results than nodes times 2^32.
pub limited-results : (f : NodesOf NodeText) → IsLimited f → results_of f ≤ greatest * count f
limited-results Nil h = omega arith
limited-results (Snoc b x r held) h = omega (arith, limited-results b h.0, h.1)

pub sum_fits : (first results : ℕ) (f : NodesOf NodeText) (cut : Cut) → IsCut first f cut → IsLimited f → cut.start < 2 ^ 64 → results < 2 ^ 32
    → cut.sum + results < 2 ^ 128
sum_fits first results f cut is limited s r = omega (arith, is.sum, limited-results f limited, is.start, s, r)

pub next-is : (first results : ℕ) (f : NodesOf NodeText) (cut : Cut) → IsCut first f cut
    → record { start = cut.start; sum = cut.sum + results } ≡ candidate_after first f results
next-is first results f cut is =
    ap (λ (n : ℕ). record { start = n; sum = cut.sum + results }) is.start
    ∙ ap (λ (n : ℕ). record { start = first + count f; sum = n + results }) is.sum
