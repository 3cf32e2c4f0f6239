-- A fact about all operators of code holds for all heads of its tree.
use Rattle.std.proofs.Common.{◌∷◌, ◌++◌, subst}
use Rattle.std.specs.List.{AllByRecursion}
use Rattle.wasmprinter_spec.specs.Folding.Code.{Item, NestedCode, Done, Plain, Block, If, IfElse, flat}
use Rattle.wasmprinter_spec.specs.Folding.Tree.{Head, Of, ThenCase, ElseCase, Nodes, Nil, Snoc, row_of_both, front, last, Operands, Fit, Overshot, TooFew, operand_search, with_operands, with_operator, tree_after, tree}
use Rattle.wasmprinter_spec.proofs.Folding.{AreLast, AreLast-operand_search}
use Rattle.wasmprinter_spec.proofs.Each.{all_parts}

module _ (P : Item → Type 0) where
  -- The fact about the operator of a head; `then` has no operator of its own.
  abbrev pub OnHead : Head → Type 0
  OnHead (Of x) = P x
  OnHead (ThenCase x) = Unit {0}
  OnHead (ElseCase x) = P x

  abbrev pub AllHeads : Nodes → Type 0
  AllHeads Nil = Unit {0}
  AllHeads (Snoc b h r held) = OnHead h × AllHeads b × AllHeads held

  parts : (a b : Nodes) → AllHeads (row_of_both a b) → AllHeads a × AllHeads b
  parts a Nil h = (h, tt)
  parts a (Snoc b g r held) (own, before, inside) = let ps = parts a b before in (ps.0, (own, ps.1, inside))

  ends : (f : Nodes) → AllHeads f → AllHeads (front f) × AllHeads (last f)
  ends Nil h = (tt, tt)
  ends (Snoc b g r held) (own, before, inside) = (before, (own, tt, inside))

  heads-operand_search : (f : Nodes) (x : Item) (o : Operands) → P x → AreLast f o → AllHeads f → AllHeads (with_operands f (Of x) x.results o)
  heads-operand_search f x (Fit before run) p l h = let ps = parts before run (subst AllHeads l h) in (p, ps.0, ps.1)
  heads-operand_search f x Overshot p l h = (p, h, tt)
  heads-operand_search f x TooFew p l h = (p, h, tt)

  heads-tree_after : (f : Nodes) (code : NestedCode) → AllByRecursion P (flat code) → AllHeads f → AllHeads (tree_after f code)
  heads-tree_after f Done p h = h
  heads-tree_after f (Plain x rest) p h = heads-tree_after (with_operator f x) rest p.1 (heads-operand_search f x (operand_search x.operands f) p.0 (AreLast-operand_search x.operands f) h)
  heads-tree_after f (Block x body end rest) p h =
      let (in_body, (of_end, after)) = all_parts P (flat body) (end ∷ flat rest) p.1 in
      heads-tree_after (Snoc f (Of x) x.results (tree_after Nil body)) rest after (p.0, h, heads-tree_after Nil body in_body tt)
  heads-tree_after f (If x body end rest) p h =
      let (in_body, (of_end, after)) = all_parts P (flat body) (end ∷ flat rest) p.1 in
      let es = ends f h in
      heads-tree_after (Snoc (front f) (Of x) x.results (Snoc (last f) (ThenCase x) 0 (tree_after Nil body))) rest after
      (p.0, es.0, (tt, es.1, heads-tree_after Nil body in_body tt))
  heads-tree_after f (IfElse x body turn other end rest) p h =
      let (in_body, (of_turn, after_turn)) = all_parts P (flat body) (turn ∷ (flat other ++ end ∷ flat rest)) p.1 in
      let (in_other, (of_end, after)) = all_parts P (flat other) (end ∷ flat rest) after_turn in
      let es = ends f h in
      let body_case : Nodes = Snoc (last f) (ThenCase x) 0 (tree_after Nil body) in
      heads-tree_after (Snoc (front f) (Of x) x.results (Snoc body_case (ElseCase turn) 0 (tree_after Nil other))) rest after
      (p.0, es.0, (of_turn, (tt, es.1, heads-tree_after Nil body in_body tt), heads-tree_after Nil other in_other tt))

  pub heads-tree : (code : NestedCode) → AllByRecursion P (flat code) → AllHeads (tree code)
  heads-tree code p = heads-tree_after Nil code p tt
