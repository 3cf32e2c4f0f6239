-- The steps of a whole list of operators.
use Rattle.std.proofs.Common.{◌≡◌, List, [], ◌∷◌, ◌++◌, map, refl, sym, ◌∙◌, ap, subst}
use Rattle.wasmprinter_spec.specs.Row as row
use Rattle.wasmprinter_spec.specs.Folding.Code.{Item, NestedCode, Done, Plain, Block, If, IfElse, flat, role, IsFit}
use Rattle.wasmprinter_spec.specs.Folding.Tree.{Head, Of, ThenCase, ElseCase, NodesOf, Nodes, Nil, Snoc, row_of_both, front, last, with_operator, tree_after, tree}
use Rattle.wasmprinter_fold.specs.declared.nodes.NodeText.{NodeText}
use Rattle.wasmprinter_fold.specs.declared.nodes.Node.{Node}
use Rattle.wasmprinter_fold.specs.declared.nodes.builder.Frame.{Frame}
use Rattle.wasmprinter_fold.specs.declared.nodes.candidates.Candidate.{Candidate}
use Rattle.wasmprinter_fold.specs.Postorder.{postorder, forest_of, IsPostorder}
use Rattle.wasmprinter_fold.specs.Building.{OpenNodes, Top, InBlock, InThen, InElse, StateOf, Step, start, state_at, step, step_of, steps, run_all}
use Rattle.wasmprinter_fold.specs.Mapping.{map_nodes, map_step}
use Rattle.wasmprinter_fold.specs.Frames.{State, base, AreListsOf}
use Rattle.wasmprinter_fold.proofs.Postorders.{postorder-row_of_both, forest_of-postorder, IsPostorder-postorder}
use Rattle.wasmprinter_fold.proofs.Maps.{front-map, last-map, folded-map}

-- ---- The nodes of a state

-- The nodes before those of the open part, one row after another.
abbrev pub base_row : OpenNodes NodeText → NodesOf NodeText
base_row Top = Nil
base_row (InBlock o b x q) = row_of_both (base_row o) b
base_row (InThen o b d x y q) = row_of_both (row_of_both (base_row o) b) d
base_row (InElse o b d x y q) = row_of_both (row_of_both (base_row o) b) d

postorder-base_row : (o : OpenNodes NodeText) → base o ≡ postorder (base_row o)
postorder-base_row Top = refl
postorder-base_row (InBlock o b x q) =
    ap (λ (l : List Node). l ++ postorder b) (postorder-base_row o) ∙ sym (postorder-row_of_both (base_row o) b)
postorder-base_row (InThen o b d x y q) =
    ap (λ (l : List Node). (l ++ postorder b) ++ postorder d) (postorder-base_row o)
    ∙ (ap (λ (l : List Node). l ++ postorder d) (sym (postorder-row_of_both (base_row o) b))
    ∙ sym (postorder-row_of_both (row_of_both (base_row o) b) d))
postorder-base_row (InElse o b d x y q) =
    ap (λ (l : List Node). (l ++ postorder b) ++ postorder d) (postorder-base_row o)
    ∙ (ap (λ (l : List Node). l ++ postorder d) (sym (postorder-row_of_both (base_row o) b))
    ∙ sym (postorder-row_of_both (row_of_both (base_row o) b) d))

-- The list represents nodes, whatever blocks are open.
pub stands_whole : (nodes : List Node) (row : List Candidate) (blocks : List Frame) (s : State) → AreListsOf nodes row blocks s → IsPostorder nodes
stands_whole nodes row blocks s h =
    subst IsPostorder
    (sym
    (h.rows
    ∙ (ap (λ (l : List Node). l ++ postorder s.groups) (postorder-base_row s.outer)
    ∙ sym (postorder-row_of_both (base_row s.outer) s.groups))))
    (IsPostorder-postorder (row_of_both (base_row s.outer) s.groups))

-- If no block is open, the list represents the nodes of the state.
pub stands_closed : (nodes : List Node) (row : List Candidate) (blocks : List Frame) (s : State) → AreListsOf nodes row blocks s → s.outer ≡ Top
    → forest_of nodes ≡ s.groups
stands_closed nodes row blocks s h e =
    ap forest_of (h.rows ∙ ap (λ (o : OpenNodes NodeText). base o ++ postorder s.groups) e) ∙ forest_of-postorder s.groups

-- ---- Code

module _ {H : Type 0} where
  pub run_all-append : (s : StateOf H) (a b : List (Step H)) → run_all s (a ++ b) ≡ run_all (run_all s a) b
  run_all-append s [] b = refl
  run_all-append s (t ∷ a) b = run_all-append (step s t) a b

  pub run_all-push : (s : StateOf H) (ts : List (Step H)) (t : Step H) → run_all s (ts ++ t ∷ []) ≡ step (run_all s ts) t
  run_all-push s ts t = run_all-append s ts (t ∷ [])

module _ {H : Type 0} (v : Head → H) where
  pub steps-append : (a b : List Item) → steps v (a ++ b) ≡ steps v a ++ steps v b
  steps-append [] b = refl
  steps-append (x ∷ a) b = ap (λ (l : List (Step H)). step_of v (role x) x ∷ l) (steps-append a b)

  -- The steps of an item and others are the step of the item and then those of the others.
  run-item : (s : StateOf H) (x : Item) (xs : List Item) (r : row.Role) → role x ≡ r
      → run_all s (steps v (x ∷ xs)) ≡ run_all (step s (step_of v r x)) (steps v xs)
  run-item s x xs r e = ap (λ (q : row.Role). run_all (step s (step_of v q x)) (steps v xs)) e

  -- The steps of code and other items are those of the code and then those of the items.
  run-after : (s t : StateOf H) (code : NestedCode) (xs : List Item) → run_all s (steps v (flat code)) ≡ t
      → run_all s (steps v (flat code ++ xs)) ≡ run_all t (steps v xs)
  run-after s t code xs e =
      ap (run_all s) (steps-append (flat code) xs)
      ∙ (run_all-append s (steps v (flat code)) (steps v xs) ∙ ap (λ (u : StateOf H). run_all u (steps v xs)) e)

  -- Well-nested operators leave the open blocks unchanged and add their nodes after those that were there.
  pub run-flat : (o : OpenNodes H) (f : Nodes) (code : NestedCode) → IsFit code
      → run_all (state_at o (map_nodes v f)) (steps v (flat code)) ≡ state_at o (map_nodes v (tree_after f code))
  run-flat o f Done h = refl
  run-flat o f (Plain x rest) h =
      run-item (state_at o (map_nodes v f)) x (flat rest) row.Plain h.0
      ∙ (ap (λ (g : NodesOf H). run_all (state_at o g) (steps v (flat rest))) (folded-map v f (Of x) x.operands x.results)
      ∙ run-flat o (with_operator f x) rest h.1)
  run-flat o f (Block x body end rest) h =
      let inner : OpenNodes H = InBlock o (map_nodes v f) (v (Of x)) x.results in
      run-item (state_at o (map_nodes v f)) x (flat body ++ end ∷ flat rest) row.Opens h.0
      ∙ (run-after (state_at inner Nil) (state_at inner (map_nodes v (tree_after Nil body))) body (end ∷ flat rest) (run-flat inner Nil body h.1)
      ∙ (run-item (state_at inner (map_nodes v (tree_after Nil body))) end (flat rest) row.Ends h.2
      ∙ run-flat o (Snoc f (Of x) x.results (tree_after Nil body)) rest h.3))
  run-flat o f (If x body end rest) h =
      let inner : NodesOf H → NodesOf H → OpenNodes H = λ a b. InThen o a b (v (Of x)) (v (ThenCase x)) x.results in
      let mine : OpenNodes H = inner (map_nodes v (front f)) (map_nodes v (last f)) in
      run-item (state_at o (map_nodes v f)) x (flat body ++ end ∷ flat rest) row.OpensIf h.0
      ∙ (ap (λ (a : NodesOf H). run_all (state_at (inner a (last (map_nodes v f))) Nil) (steps v (flat body ++ end ∷ flat rest))) (front-map v f)
      ∙ (ap (λ (b : NodesOf H). run_all (state_at (inner (map_nodes v (front f)) b) Nil) (steps v (flat body ++ end ∷ flat rest))) (last-map v f)
      ∙ (run-after (state_at mine Nil) (state_at mine (map_nodes v (tree_after Nil body))) body (end ∷ flat rest) (run-flat mine Nil body h.1)
      ∙ (run-item (state_at mine (map_nodes v (tree_after Nil body))) end (flat rest) row.Ends h.2
      ∙ run-flat o (Snoc (front f) (Of x) x.results (Snoc (last f) (ThenCase x) 0 (tree_after Nil body))) rest h.3))))
  run-flat o f (IfElse x body turn other end rest) h =
      let inner : NodesOf H → NodesOf H → OpenNodes H = λ a b. InThen o a b (v (Of x)) (v (ThenCase x)) x.results in
      let mine : OpenNodes H = inner (map_nodes v (front f)) (map_nodes v (last f)) in
      let cases : Nodes = Snoc (last f) (ThenCase x) 0 (tree_after Nil body) in
      let second : OpenNodes H = InElse o (map_nodes v (front f)) (map_nodes v cases) (v (Of x)) (v (ElseCase turn)) x.results in
      let after : List Item = turn ∷ (flat other ++ end ∷ flat rest) in
      run-item (state_at o (map_nodes v f)) x (flat body ++ after) row.OpensIf h.0
      ∙ (ap (λ (a : NodesOf H). run_all (state_at (inner a (last (map_nodes v f))) Nil) (steps v (flat body ++ after))) (front-map v f)
      ∙ (ap (λ (b : NodesOf H). run_all (state_at (inner (map_nodes v (front f)) b) Nil) (steps v (flat body ++ after))) (last-map v f)
      ∙ (run-after (state_at mine Nil) (state_at mine (map_nodes v (tree_after Nil body))) body after (run-flat mine Nil body h.1)
      ∙ (run-item (state_at mine (map_nodes v (tree_after Nil body))) turn (flat other ++ end ∷ flat rest) row.Else h.2
      ∙ (run-after (state_at second Nil) (state_at second (map_nodes v (tree_after Nil other))) other (end ∷ flat rest) (run-flat second Nil other h.3)
      ∙ (run-item (state_at second (map_nodes v (tree_after Nil other))) end (flat rest) row.Ends h.4
      ∙ run-flat o (Snoc (front f) (Of x) x.results (Snoc cases (ElseCase turn) 0 (tree_after Nil other))) rest h.5))))))

  -- From the start, the steps of code build its nodes and leave no block open.
  pub run-tree : (code : NestedCode) → IsFit code → run_all start (steps v (flat code)) ≡ state_at Top (map_nodes v (tree code))
  run-tree code h = run-flat Top Nil code h

-- Steps with other heads.
module _ {H K : Type 0} (v : Head → H) (w : H → K) where
  pub step_of-map : (r : row.Role) (x : Item) → map_step w (step_of v r x) ≡ step_of (λ h. w (v h)) r x
  step_of-map row.Plain x = refl
  step_of-map row.Opens x = refl
  step_of-map row.OpensIf x = refl
  step_of-map row.OpensTry x = refl
  step_of-map row.Else x = refl
  step_of-map row.Catches x = refl
  step_of-map row.CatchesAll x = refl
  step_of-map row.Delegates x = refl
  step_of-map row.Ends x = refl

  pub steps-map : (xs : List Item) → map (map_step w) (steps v xs) ≡ steps (λ h. w (v h)) xs
  steps-map [] = refl
  steps-map (x ∷ xs) = rw (step_of-map (role x) x, steps-map xs) refl
