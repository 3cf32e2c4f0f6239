-- A property of all heads is kept by each step, and two maps that agree on all heads give the same nodes.
use Rattle.std.proofs.Common.{◌≡◌, ℕ, refl, subst}
use Rattle.wasmprinter_spec.specs.Folding.Tree.{NodesOf, Nil, Snoc, row_of_both, front, last, OperandsOf, Fit, Overshot, TooFew, operand_search, with_operands}
use Rattle.wasmprinter_spec.proofs.Folding.{AreLast, AreLast-operand_search}
use Rattle.wasmprinter_fold.specs.Building.{OpenNodes, Top, InBlock, InThen, InElse, StateOf, Step, Plain, Opens, OpensIf, Else, Ends, state_after_else, state_after_end, step}
use Rattle.wasmprinter_fold.specs.Mapping.{map_nodes, map_open, map_state}
use Rattle.wasmprinter_fold.specs.Heads.{AllNodes, AllOpen, AllState, AllStep}

module _ {H : Type 0} (P : H → Type 0) where
  pub all_joined : (a b : NodesOf H) → AllNodes P (row_of_both a b) → AllNodes P a × AllNodes P b
  all_joined a Nil h = (h, tt)
  all_joined a (Snoc b x r held) h =
      let both = all_joined a b h.0 in
      (both.0, (both.1, h.1, h.2))

  all_front : (f : NodesOf H) → AllNodes P f → AllNodes P (front f)
  all_front Nil h = tt
  all_front (Snoc b x r held) h = h.0

  all_last : (f : NodesOf H) → AllNodes P f → AllNodes P (last f)
  all_last Nil h = tt
  all_last (Snoc b x r held) h = (tt, h.1, h.2)

  all_with_operands : (f : NodesOf H) (x : H) (results : ℕ) (o : OperandsOf H)
      → AreLast f o → AllNodes P f → P x → AllNodes P (with_operands f x results o)
  all_with_operands f x results (Fit before run) e h p =
      let both = all_joined before run (subst (AllNodes P) e h) in
      (both.0, p, both.1)
  all_with_operands f x results Overshot e h p = (h, p, tt)
  all_with_operands f x results TooFew e h p = (h, p, tt)

  all_turned : (otherwise : H) (o : OpenNodes H) (f : NodesOf H) → AllOpen P o → AllNodes P f → P otherwise → AllState P (state_after_else otherwise o f)
  all_turned otherwise Top f h g p = (h, g)
  all_turned otherwise (InBlock o b x q) f h g p = (h, g)
  all_turned otherwise (InThen o b d x y q) f h g p = ((h.0, h.1, (h.2, h.4, g), h.3, p), tt)
  all_turned otherwise (InElse o b d x y q) f h g p = (h, g)

  all_closed : (o : OpenNodes H) (f : NodesOf H) → AllOpen P o → AllNodes P f → AllState P (state_after_end o f)
  all_closed Top f h g = (h, g)
  all_closed (InBlock o b x q) f h g = (h.0, (h.1, h.2, g))
  all_closed (InThen o b d x y q) f h g = (h.0, (h.1, h.3, (h.2, h.4, g)))
  all_closed (InElse o b d x y q) f h g = (h.0, (h.1, h.3, (h.2, h.4, g)))

  pub all_step : (s : StateOf H) (t : Step H) → AllState P s → AllStep P t → AllState P (step s t)
  all_step s (Plain x operands results) h p =
      (h.0, all_with_operands s.groups x results (operand_search operands s.groups) (AreLast-operand_search operands s.groups) h.1 p)
  all_step s (Opens x results) h p = ((h.0, h.1, p), tt)
  all_step s (OpensIf x y results) h p = ((h.0, all_front s.groups h.1, all_last s.groups h.1, p.0, p.1), tt)
  all_step s (Else otherwise) h p = all_turned otherwise s.outer s.groups h.0 h.1 p
  all_step s Ends h p = all_closed s.outer s.groups h.0 h.1

module _ {H : Type 0} (P Q : H → Type 0) (weaker : (x : H) → P x → Q x) where
  pub AllNodes-weaker : (f : NodesOf H) → AllNodes P f → AllNodes Q f
  AllNodes-weaker Nil h = tt
  AllNodes-weaker (Snoc b x r held) h = (AllNodes-weaker b h.0, weaker x h.1, AllNodes-weaker held h.2)

  AllOpen-weaker : (o : OpenNodes H) → AllOpen P o → AllOpen Q o
  AllOpen-weaker Top h = tt
  AllOpen-weaker (InBlock o b x q) h = (AllOpen-weaker o h.0, AllNodes-weaker b h.1, weaker x h.2)
  AllOpen-weaker (InThen o b d x y q) h =
      (AllOpen-weaker o h.0, AllNodes-weaker b h.1, AllNodes-weaker d h.2, weaker x h.3, weaker y h.4)
  AllOpen-weaker (InElse o b d x y q) h =
      (AllOpen-weaker o h.0, AllNodes-weaker b h.1, AllNodes-weaker d h.2, weaker x h.3, weaker y h.4)

  pub AllState-weaker : (s : StateOf H) → AllState P s → AllState Q s
  AllState-weaker s h = (AllOpen-weaker s.outer h.0, AllNodes-weaker s.groups h.1)

-- Two maps that agree on all heads give the same result.
module _ {H K : Type 0} (v w : H → K) where
  pub map_nodes-same : (f : NodesOf H) → AllNodes (λ x. v x ≡ w x) f → map_nodes v f ≡ map_nodes w f
  map_nodes-same Nil h = refl
  map_nodes-same (Snoc b x r held) h = rw (map_nodes-same b h.0, h.1, map_nodes-same held h.2) refl

  map_open-same : (o : OpenNodes H) → AllOpen (λ x. v x ≡ w x) o → map_open v o ≡ map_open w o
  map_open-same Top h = refl
  map_open-same (InBlock o b x q) h = rw (map_open-same o h.0, map_nodes-same b h.1, h.2) refl
  map_open-same (InThen o b d x y q) h =
      rw (map_open-same o h.0, map_nodes-same b h.1, map_nodes-same d h.2, h.3, h.4) refl
  map_open-same (InElse o b d x y q) h =
      rw (map_open-same o h.0, map_nodes-same b h.1, map_nodes-same d h.2, h.3, h.4) refl

  pub map_state-same : (s : StateOf H) → AllState (λ x. v x ≡ w x) s → map_state v s ≡ map_state w s
  map_state-same s h = rw (map_open-same s.outer h.0, map_nodes-same s.groups h.1) refl

-- Mapping twice is mapping by the composed map.
module _ {H K L : Type 0} (v : H → K) (w : K → L) where
  pub map_nodes-map : (f : NodesOf H) → map_nodes w (map_nodes v f) ≡ map_nodes (λ x. w (v x)) f
  map_nodes-map Nil = refl
  map_nodes-map (Snoc b x r held) = rw (map_nodes-map b, map_nodes-map held) refl
