-- The steps of the builder do not depend on the heads of nodes.
use Rattle.std.proofs.Common.{◌≡◌, ℕ, zero, suc, List, [], ◌∷◌, map, refl, sym, ◌∙◌, ap, Bool, true, false, cond, ltb, eqb}
use Rattle.wasmprinter_spec.specs.Folding.Arities.{saturating_sum}
use Rattle.wasmprinter_spec.specs.Folding.Tree.{NodesOf, Nil, Snoc, front, last, OperandsOf, Fit, Overshot, TooFew, with_last, operands_from, operand_search, with_operands}
use Rattle.wasmprinter_fold.specs.Building.{OpenNodes, Top, InBlock, InThen, InElse, StateOf, Step, Plain, Opens, OpensIf, Else, Ends, state_at, state_after_else, state_after_end, step, run_all}
use Rattle.wasmprinter_fold.specs.Mapping.{map_nodes, map_operands, map_open, map_state, map_step}

module _ {H K : Type 0} (v : H → K) where
  pub front-map : (f : NodesOf H) → front (map_nodes v f) ≡ map_nodes v (front f)
  front-map Nil = refl
  front-map (Snoc b h r held) = refl

  pub last-map : (f : NodesOf H) → last (map_nodes v f) ≡ map_nodes v (last f)
  last-map Nil = refl
  last-map (Snoc b h r held) = refl

  with_last-map : (h : H) (r : ℕ) (held : NodesOf H) (o : OperandsOf H)
      → with_last (v h) r (map_nodes v held) (map_operands v o) ≡ map_operands v (with_last h r held o)
  with_last-map h r held (Fit before run) = refl
  with_last-map h r held Overshot = refl
  with_last-map h r held TooFew = refl

  cond-map : (t : Bool) (o p : OperandsOf H) → cond t (map_operands v o) (map_operands v p) ≡ map_operands v (cond t o p)
  cond-map true o p = refl
  cond-map false o p = refl

  operands_from-map : (wanted sum : ℕ) (f : NodesOf H)
      → operands_from wanted sum (map_nodes v f) ≡ map_operands v (operands_from wanted sum f)
  operands_from-map wanted sum Nil = refl
  operands_from-map wanted sum (Snoc b h r held) =
      let next : ℕ = saturating_sum sum r in
      let found : OperandsOf H = Fit b (Snoc Nil h r held) in
      let deeper : OperandsOf H = with_last h r held (operands_from wanted next b) in
      ap (λ (o : OperandsOf K). cond (eqb next wanted) (map_operands v found) (cond (ltb wanted next) Overshot o))
      (ap (with_last (v h) r (map_nodes v held)) (operands_from-map wanted next b) ∙ with_last-map h r held (operands_from wanted next b))
      ∙ (ap (λ (o : OperandsOf K). cond (eqb next wanted) (map_operands v found) o) (cond-map (ltb wanted next) Overshot deeper)
      ∙ cond-map (eqb next wanted) found (cond (ltb wanted next) Overshot deeper))

  pub operand_search-map : (wanted : ℕ) (f : NodesOf H) → operand_search wanted (map_nodes v f) ≡ map_operands v (operand_search wanted f)
  operand_search-map zero f = refl
  operand_search-map (suc n) f = operands_from-map (suc n) 0 f

  with_operands-map : (f : NodesOf H) (h : H) (results : ℕ) (o : OperandsOf H)
      → with_operands (map_nodes v f) (v h) results (map_operands v o) ≡ map_nodes v (with_operands f h results o)
  with_operands-map f h results (Fit before run) = refl
  with_operands-map f h results Overshot = refl
  with_operands-map f h results TooFew = refl

  -- Adding an operator with its operands commutes with a map of heads.
  pub folded-map : (f : NodesOf H) (h : H) (operands results : ℕ)
      → with_operands (map_nodes v f) (v h) results (operand_search operands (map_nodes v f)) ≡ map_nodes v (with_operands f h results (operand_search operands f))
  folded-map f h operands results =
      ap (with_operands (map_nodes v f) (v h) results) (operand_search-map operands f) ∙ with_operands-map f h results (operand_search operands f)

  state_after_else-map : (otherwise : H) (o : OpenNodes H) (f : NodesOf H)
      → map_state v (state_after_else otherwise o f) ≡ state_after_else (v otherwise) (map_open v o) (map_nodes v f)
  state_after_else-map otherwise Top f = refl
  state_after_else-map otherwise (InBlock o b x q) f = refl
  state_after_else-map otherwise (InThen o b d x y q) f = refl
  state_after_else-map otherwise (InElse o b d x y q) f = refl

  state_after_end-map : (o : OpenNodes H) (f : NodesOf H) → map_state v (state_after_end o f) ≡ state_after_end (map_open v o) (map_nodes v f)
  state_after_end-map Top f = refl
  state_after_end-map (InBlock o b x q) f = refl
  state_after_end-map (InThen o b d x y q) f = refl
  state_after_end-map (InElse o b d x y q) f = refl

  pub step-map : (s : StateOf H) (t : Step H) → map_state v (step s t) ≡ step (map_state v s) (map_step v t)
  step-map s (Plain h operands results) = ap (state_at (map_open v s.outer)) (sym (folded-map s.groups h operands results))
  step-map s (Opens h results) = refl
  step-map s (OpensIf h case results) =
      ap (λ (f : NodesOf K). state_at (InThen (map_open v s.outer) f (map_nodes v (last s.groups)) (v h) (v case) results) Nil) (sym (front-map s.groups))
      ∙ ap (λ (f : NodesOf K). state_at (InThen (map_open v s.outer) (front (map_nodes v s.groups)) f (v h) (v case) results) Nil) (sym (last-map s.groups))
  step-map s (Else otherwise) = state_after_else-map otherwise s.outer s.groups
  step-map s Ends = state_after_end-map s.outer s.groups

  pub run_all-map : (s : StateOf H) (ts : List (Step H)) → map_state v (run_all s ts) ≡ run_all (map_state v s) (map (map_step v) ts)
  run_all-map s [] = refl
  run_all-map s (t ∷ ts) =
      run_all-map (step s t) ts ∙ ap (λ (u : StateOf K). run_all u (map (map_step v) ts)) (step-map s t)
