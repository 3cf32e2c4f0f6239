-- Nodes unfold to the operators of their code, and the search for operands ends as the rule says.
use Rattle.std.proofs.Common.{◌≡◌, ℕ, zero, suc, ◌+◌, ◌<◌, ◌≤◌, List, [], ◌∷◌, ◌++◌, refl, sym, ◌∙◌, ap, arith, append_assoc, Bool, true, false, cond, ltb, eqb, Some}
use Rattle.std.proofs.lemmas.List.{append-nil}
use Rattle.std.proofs.lemmas.Bool.{eqb-true, eqb-false, ltb-true, ltb-false, cond_both}
use Rattle.wasmprinter_spec.specs.Row as row
use Rattle.wasmprinter_spec.specs.Folding.Arities.{greatest, saturating_sum}
use Rattle.wasmprinter_spec.specs.Folding.Code.{Item, NestedCode, Done, Plain, Block, If, IfElse, flat, role, IsFit}
use Rattle.wasmprinter_spec.specs.Folding.Tree.{Of, ThenCase, ElseCase, NodesOf, Nodes, Nil, Snoc, row_of_both, front, last, OperandsOf, Operands, Fit, Overshot, TooFew, with_last, operands_from, operand_search, with_operands, with_operator, results_of, IsFirst, IsAnswer, tree_after}
use Rattle.wasmprinter_spec.specs.Folding.Unfolding.{Told, told_by_role, told_of, unfolding_of, UnfoldingRule}

saturating_sum-zero : (s : ℕ) → s ≤ greatest → saturating_sum s 0 ≡ s
saturating_sum-zero s h = omega arith

saturated_assoc : (s q n : ℕ) → saturating_sum (saturating_sum s q) n ≡ saturating_sum s (n + q)
saturated_assoc s q n = omega arith

module _ {H : Type 0} where
  -- ---- sequences of nodes

  pub row_of_both-nil : (f : NodesOf H) → row_of_both Nil f ≡ f
  row_of_both-nil Nil = refl
  row_of_both-nil (Snoc b h r held) = ap (λ (x : NodesOf H). Snoc x h r held) (row_of_both-nil b)

  pub joined_assoc : (a b c : NodesOf H) → row_of_both (row_of_both a b) c ≡ row_of_both a (row_of_both b c)
  joined_assoc a b Nil = refl
  joined_assoc a b (Snoc c h r held) = ap (λ (x : NodesOf H). Snoc x h r held) (joined_assoc a b c)

  pub row_of_both-front-last : (f : NodesOf H) → row_of_both (front f) (last f) ≡ f
  row_of_both-front-last Nil = refl
  row_of_both-front-last (Snoc b h r held) = refl

  -- ---- the search for operands

  nil_joined : (a b : NodesOf H) → Nil ≡ row_of_both a b → a ≡ Nil
  nil_joined a Nil e = sym e
  nil_joined a (Snoc b h r held) e = absurd (cc)

  -- If a run consists of one node, every shorter run has fewer results than needed.
  one_first : (wanted s : ℕ) (h : H) (q : ℕ) (held : NodesOf H) → s < wanted → s ≤ greatest → IsFirst wanted s (Snoc Nil h q held)
  one_first wanted s h q held lt le before Nil e ne = omega (arith, saturating_sum-zero s le)
  one_first wanted s h q held lt le before (Snoc last g r inner) e ne = absurd (ne (nil_joined before last (ap front e)))

  more_first : (wanted s : ℕ) (run : NodesOf H) (h : H) (q : ℕ) (held : NodesOf H) → s < wanted → s ≤ greatest → IsFirst wanted (saturating_sum s q) run → IsFirst wanted s (Snoc run h q held)
  more_first wanted s run h q held lt le first before Nil e ne = omega (arith, saturating_sum-zero s le)
  more_first wanted s run h q held lt le first before (Snoc last g r inner) e ne =
      let same : q ≡ r = cc in
      let below : saturating_sum (saturating_sum s q) (results_of last) < wanted = first before last (ap front e) ne in
      omega (arith, same, below, saturated_assoc s q (results_of last))

  -- If the search among earlier nodes ends as the rule says, so does the search that starts with one more node
  -- after them.
  more : (wanted s : ℕ) (b : NodesOf H) (h : H) (q : ℕ) (held : NodesOf H) (o : OperandsOf H)
      → s < wanted → s ≤ greatest → IsAnswer wanted (saturating_sum s q) b o → IsAnswer wanted s (Snoc b h q held) (with_last h q held o)
  more wanted s b h q held (Fit before run) lt le a =
      let (joined, sum, first) = a in (
        ap (λ (x : NodesOf H). Snoc x h q held) joined,
        sym (saturated_assoc s q (results_of run)) ∙ sum,
        more_first wanted s run h q held lt le first,
      )
  more wanted s b h q held Overshot lt le a =
      let (before, run, joined, passed, first) = a in (
        before,
        Snoc run h q held,
        ap (λ (x : NodesOf H). Snoc x h q held) joined,
        omega (arith, passed, saturated_assoc s q (results_of run)),
        more_first wanted s run h q held lt le first,
      )
  more wanted s b h q held TooFew lt le a =
      λ before run e. short before run e
    where
      short : (before run : NodesOf H) → Snoc b h q held ≡ row_of_both before run → saturating_sum s (results_of run) < wanted
      short before Nil e = omega (arith, saturating_sum-zero s le)
      short before (Snoc run g r inner) e =
          let same : q ≡ r = cc in
          let below : saturating_sum (saturating_sum s q) (results_of run) < wanted = a before run (ap front e) in
          omega (arith, same, below, saturated_assoc s q (results_of run))

  pub IsAnswer-operands_from : (wanted s : ℕ) (f : NodesOf H) → s < wanted → s ≤ greatest → IsAnswer wanted s f (operands_from wanted s f)
  IsAnswer-operands_from wanted s Nil lt le = none
    where
      none : (before run : NodesOf H) → Nil ≡ row_of_both before run → saturating_sum s (results_of run) < wanted
      none before Nil e = omega (arith, saturating_sum-zero s le)
      none before (Snoc run h r inner) e = absurd (cc)
  IsAnswer-operands_from wanted s (Snoc b h q held) lt le =
      let next : ℕ = saturating_sum s q in
      let deeper : OperandsOf H = with_last h q held (operands_from wanted next b) in
      cond_both (eqb next wanted) (Fit b (Snoc Nil h q held)) (cond (ltb wanted next) Overshot deeper)
      (IsAnswer wanted s (Snoc b h q held))
      (λ e. (refl, omega (arith, eqb-true next wanted e), one_first wanted s h q held lt le))
      (λ ne. cond_both (ltb wanted next) Overshot deeper
      (IsAnswer wanted s (Snoc b h q held))
      (λ e. (b, Snoc Nil h q held, refl, omega (arith, ltb-true wanted next e), one_first wanted s h q held lt le))
      (λ e. more wanted s b h q held (operands_from wanted next b) lt le
      (IsAnswer-operands_from wanted next b (omega (arith, eqb-false next wanted ne, ltb-false wanted next e)) (omega arith))))

  -- The search for one or more operands ends as the rule says.
  pub IsAnswer-operand_search : (wanted : ℕ) (f : NodesOf H) → 0 < wanted → IsAnswer wanted 0 f (operand_search wanted f)
  IsAnswer-operand_search zero f lt = absurd (omega arith)
  IsAnswer-operand_search (suc n) f lt = IsAnswer-operands_from (suc n) 0 f lt (omega arith)

-- ---- unfolding of nodes

pub unfolding_of-row_of_both : (a b : Nodes) → unfolding_of (row_of_both a b) ≡ unfolding_of a ++ unfolding_of b
unfolding_of-row_of_both a Nil = sym (append-nil (unfolding_of a))
unfolding_of-row_of_both a (Snoc b (Of x) r held) = simp (unfolding_of-row_of_both a b, append_assoc)
unfolding_of-row_of_both a (Snoc b (ThenCase x) r held) = unfolding_of-row_of_both a b
unfolding_of-row_of_both a (Snoc b (ElseCase x) r held) = unfolding_of-row_of_both a b

module _ {H : Type 0} where
  -- If operands were found, they are the last nodes.
  abbrev pub AreLast : NodesOf H → OperandsOf H → Type 0
  AreLast f (Fit before run) = f ≡ row_of_both before run
  AreLast f Overshot = Unit {0}
  AreLast f TooFew = Unit {0}

  AreLast-with_last : (b held : NodesOf H) (h : H) (r : ℕ) (o : OperandsOf H) → AreLast b o → AreLast (Snoc b h r held) (with_last h r held o)
  AreLast-with_last b held h r (Fit before run) e = ap (λ (x : NodesOf H). Snoc x h r held) e
  AreLast-with_last b held h r Overshot e = tt
  AreLast-with_last b held h r TooFew e = tt

  AreLast-cond : (f : NodesOf H) (t : Bool) (o p : OperandsOf H) → AreLast f o → AreLast f p → AreLast f (cond t o p)
  AreLast-cond f true o p x y = x
  AreLast-cond f false o p x y = y

  AreLast-operands_from : (wanted sum : ℕ) (f : NodesOf H) → AreLast f (operands_from wanted sum f)
  AreLast-operands_from wanted sum Nil = tt
  AreLast-operands_from wanted sum (Snoc b h r held) =
      let next : ℕ = saturating_sum sum r in
      let deeper : OperandsOf H = with_last h r held (operands_from wanted next b) in
      let found : AreLast (Snoc b h r held) (Fit b (Snoc Nil h r held)) = refl in
      let over : AreLast (Snoc b h r held) (cond (ltb wanted next) Overshot deeper) =
      AreLast-cond (Snoc b h r held) (ltb wanted next) Overshot deeper tt
      (AreLast-with_last b held h r (operands_from wanted next b) (AreLast-operands_from wanted next b)) in
      AreLast-cond (Snoc b h r held) (eqb next wanted) (Fit b (Snoc Nil h r held)) (cond (ltb wanted next) Overshot deeper) found over

  pub AreLast-operand_search : (wanted : ℕ) (f : NodesOf H) → AreLast f (operand_search wanted f)
  AreLast-operand_search zero f = tt
  AreLast-operand_search (suc n) f = AreLast-operands_from (suc n) 0 f

unfolding_of-with_operands : (f : Nodes) (x : Item) (o : Operands) → role x ≡ row.Plain → AreLast f o → unfolding_of (with_operands f (Of x) x.results o) ≡ unfolding_of f ++ Some x ∷ []
unfolding_of-with_operands f x (Fit before run) p e =
    rw p
    (sym (append_assoc (unfolding_of before) (unfolding_of run) (Some x ∷ []))
    ∙ ap (λ (l : List Told). l ++ Some x ∷ []) (sym (unfolding_of-row_of_both before run) ∙ ap unfolding_of (sym e)))
unfolding_of-with_operands f x Overshot p e = rw p refl
unfolding_of-with_operands f x TooFew p e = rw p refl

-- An operator after a sequence of nodes unfolds to that sequence and the operator, whatever its operand and result
-- counts are.
pub unfolding_of-with_operator : (f : Nodes) (x : Item) → role x ≡ row.Plain → unfolding_of (with_operator f x) ≡ unfolding_of f ++ Some x ∷ []
unfolding_of-with_operator f x p = unfolding_of-with_operands f x (operand_search x.operands f) p (AreLast-operand_search x.operands f)

unfolding_of-front-last : (f : Nodes) → unfolding_of (front f) ++ unfolding_of (last f) ≡ unfolding_of f
unfolding_of-front-last f = sym (unfolding_of-row_of_both (front f) (last f)) ∙ ap unfolding_of (row_of_both-front-last f)

told_of-append : (a b : List Item) → told_of (a ++ b) ≡ told_of a ++ told_of b
told_of-append [] b = refl
told_of-append (x ∷ a) b = ap (λ (l : List Told). told_by_role (role x) x ∷ l) (told_of-append a b)

-- Code after a sequence of nodes unfolds to that sequence and the code.
pub unfolding_of-tree_after : (f : Nodes) (code : NestedCode) → IsFit code → unfolding_of (tree_after f code) ≡ unfolding_of f ++ told_of (flat code)
unfolding_of-tree_after f Done h = sym (append-nil (unfolding_of f))
unfolding_of-tree_after f (Plain x rest) h =
    unfolding_of-tree_after (with_operator f x) rest h.1
    ∙ rw (unfolding_of-with_operator f x h.0, h.0) (append_assoc (unfolding_of f) (Some x ∷ []) (told_of (flat rest)))
unfolding_of-tree_after f (Block x body end rest) h =
    let (opens, fit_body, ends, fit_rest) = h in
    unfolding_of-tree_after (Snoc f (Of x) x.results (tree_after Nil body)) rest fit_rest
    ∙ simp (unfolding_of-tree_after Nil body fit_body, told_of-append, append_assoc, opens, ends)
unfolding_of-tree_after f (If x body end rest) h =
    let (opens, fit_body, ends, fit_rest) = h in
    unfolding_of-tree_after (Snoc (front f) (Of x) x.results (Snoc (last f) (ThenCase x) 0 (tree_after Nil body))) rest fit_rest
    ∙ simp (unfolding_of-tree_after Nil body fit_body, told_of-append, append_assoc, opens, ends, ← unfolding_of-front-last f)
unfolding_of-tree_after f (IfElse x body turn other end rest) h =
    let (opens, fit_body, turns, fit_other, ends, fit_rest) = h in
    let cases : Nodes = Snoc (Snoc (last f) (ThenCase x) 0 (tree_after Nil body)) (ElseCase turn) 0 (tree_after Nil other) in
    unfolding_of-tree_after (Snoc (front f) (Of x) x.results cases) rest fit_rest
    ∙ simp (
      unfolding_of-tree_after Nil body fit_body,
      unfolding_of-tree_after Nil other fit_other,
      told_of-append,
      append_assoc,
      opens,
      turns,
      ends,
      ← unfolding_of-front-last f,
    )

-- The tree of code unfolds to the operators of the code.
pub unfolding_of-tree : UnfoldingRule
unfolding_of-tree code h = unfolding_of-tree_after Nil code h
