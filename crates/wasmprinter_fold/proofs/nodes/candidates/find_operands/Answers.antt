use Rattle.std.proofs.Common.{◌≡◌, ◌-◌, ℕ, List, length, take, arith, ap, subst, ⊎_elim, inl, inr, ◌∙◌, sym}
use Rattle.std.specs.List.Sorted.{IsNonDecreasingBy}
use Rattle.wasmprinter_spec.specs.Folding.Tree.{front, results_of}
use Rattle.wasmprinter_fold.specs.declared.nodes.candidates.Candidate.{Candidate}
use Rattle.wasmprinter_fold.specs.Candidates.{candidates, total_of, IsSplit}
use Rattle.wasmprinter_fold.proofs.Candidates.{rising, earlier-is, last-is, search-none, search-few, search-empty, search-found, search-over}
use Rattle.wasmprinter_fold.proofs.nodes.candidates.find_operands.Goals as goal
use Rattle.wasmprinter_fold.proofs.nodes.candidates.find_operands.Goals.{then-operands-eq0-via-then-operands-eq0, then-operands-eq0-via-else-operands-eq0+then-last-needed}

pub returns-in_default : goal.returns-in_default
returns-in_default c = λ first f e. search-empty c.args.operands first f (omega (arith, ap length e, c.in_default.ensures.cases))

pub returns-then-operands-eq0 : goal.returns-then-operands-eq0
returns-then-operands-eq0 c =
    λ first f e.
    let last : c.in-Some.last.now.sum ≡ results_of f = last-is first f _ _ _ e c.in-Some.ensures.cases.0 in
    elim c.then-operands-eq0.branch [
      | then-operands-eq0-via-then-operands-eq0 w ↦ search-none c.args.operands f w.if-operands-eq0.true
      | then-operands-eq0-via-else-operands-eq0+then-last-needed w ↦
          search-few c.args.operands f (omega arith) (omega (arith, w.if-last-needed.true, last, c.from-needed.ensures))
    ]

pub count_within-kept-requires : goal.count_within-kept-requires
count_within-kept-requires c =
    let P : List Candidate → Type 0 = λ l. IsNonDecreasingBy (λ (c : Candidate). c.sum) l in
    let f = c.requires.1 in
    subst P (sym (earlier-is c.requires.0 f _ _ _ c.requires.2 c.in-Some.ensures.cases.0)) (rising c.requires.0 (front f))

pub returns-then-operands-eq4294967295 : goal.returns-then-operands-eq4294967295
returns-then-operands-eq4294967295 c =
    λ first f e.
    let last : c.in-Some.last.now.sum ≡ results_of f = last-is first f _ _ _ e c.in-Some.ensures.cases.0 in
    let limit : ℕ = c.in-Some.last.now.sum - c.from-needed.result in
    let here : c.in-Some.earlier.now ≡ candidates first (front f) = earlier-is first f _ _ _ e c.in-Some.ensures.cases.0 in
    let kept : c.total.result ≡ total_of (take c.count_within-kept.result (candidates first (front f))) =
    c.total.ensures ∙ ap (λ (l : List Candidate). total_of (take c.count_within-kept.result l)) here in
    let P : List Candidate → Type 0 = λ l. IsSplit l limit c.count_within-kept.result in
    search-found first c.args.operands limit c.count_within-kept.result f c.if-operands-eq0.false (omega arith)
    (omega (arith, last, c.from-needed.ensures, c.if-last-needed.false)) (subst P here c.count_within-kept.ensures)
    (⊎_elim (λ x. inl (sym kept ∙ x)) (λ x. inr x.1) c.if-operands-eq4294967295.either)

pub returns-else-operands-eq4294967295 : goal.returns-else-operands-eq4294967295
returns-else-operands-eq4294967295 c =
    λ first f e.
    let last : c.in-Some.last.now.sum ≡ results_of f = last-is first f _ _ _ e c.in-Some.ensures.cases.0 in
    let limit : ℕ = c.in-Some.last.now.sum - c.from-needed.result in
    let here : c.in-Some.earlier.now ≡ candidates first (front f) = earlier-is first f _ _ _ e c.in-Some.ensures.cases.0 in
    let kept : c.total.result ≡ total_of (take c.count_within-kept.result (candidates first (front f))) =
    c.total.ensures ∙ ap (λ (l : List Candidate). total_of (take c.count_within-kept.result l)) here in
    let P : List Candidate → Type 0 = λ l. IsSplit l limit c.count_within-kept.result in
    search-over first c.args.operands limit c.count_within-kept.result f c.if-operands-eq0.false (omega arith)
    (omega (arith, last, c.from-needed.ensures, c.if-last-needed.false)) (subst P here c.count_within-kept.ensures)
    (λ x. c.if-operands-eq4294967295.false.0 (kept ∙ x))
    c.if-operands-eq4294967295.false.1
