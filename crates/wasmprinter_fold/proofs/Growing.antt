-- A tree grows by the steps of its operators.
use Rattle.std.proofs.Common.{◌≡◌, ℕ, List, refl, sym, ◌∙◌, ap, subst, Option, Result, OnOk, ◌⊎◌, ⊎_elim}
use Rattle.wasmprinter_spec.specs.Row as row
use Rattle.wasmprinter_spec.specs.Row.{Role}
use Rattle.wasmprinter_spec.specs.Labels.{labels_after}
use Rattle.wasmprinter_spec.specs.Folding.Arities.{OperandCounts}
use Rattle.wasmprinter_spec.specs.Folding.Tree.{NodesOf}
use Rattle.wasmprinter_ops.specs.declared.opcode_shapes_arities_and_roles.Role.{Role as OpsRole}
use Rattle.wasmprinter_ops.specs.declared.opcode_shapes_arities_and_roles.Role.TheVariants as ops
use Rattle.wasmprinter_ops.specs.Shapes.{role_view}
use Rattle.wasmprinter_fold.specs.declared.nodes.NodeText.{NodeText}
use Rattle.wasmprinter_fold.specs.declared.nodes.Node.{Node}
use Rattle.wasmprinter_fold.specs.declared.nodes.builder.Builder.{Builder}
use Rattle.wasmprinter_fold.specs.Building.{OpenNodes, Top, InBlock, InThen, InElse, StateOf, Step, Ends, state_at, step}
use Rattle.wasmprinter_fold.specs.Heads.{AllStep}
use Rattle.wasmprinter_fold.specs.Mapping.{map_nodes, map_open, map_step}
use Rattle.wasmprinter_fold.specs.Frames.{State, Represents}
use Rattle.wasmprinter_fold.specs.Postorder.{IsPostorder, forest_of}
use Rattle.wasmprinter_fold.proofs.Maps.{step-map}
use Rattle.wasmprinter_fold.proofs.AllHeads.{all_step, AllState-weaker, map_state-same}
use Rattle.wasmprinter_fold.specs.Shown.{ShownNode, shown_of_head, IsIn, AreIn}
use Rattle.wasmprinter_fold.specs.Buffers.{GrowsText}
use Rattle.wasmprinter_fold.specs.declared.growing_tree.GrowingTree.{GrowingTree}
use Rattle.wasmprinter_fold.specs.Growing.{ShowsIn, GrowsByStep, shown_step}
use Rattle.wasmprinter_fold.proofs.NodeTexts.{in_grown, shown_grown}

-- The printed texts stay the same when the buffer grows.
pub shows-more : (old new : List ℕ) (b : Builder) (s : StateOf ShownNode) → GrowsText old new → ShowsIn old b s → ShowsIn new b s
shows-more old new b s g h = record {
  state = h.state;
  stands = h.stands;
  inside = AllState-weaker (IsIn old) (IsIn new) (λ l. in_grown old new l g) h.state h.inside;
  shows =
      map_state-same (shown_of_head new) (shown_of_head old) h.state
      (AllState-weaker (IsIn old) (λ l. shown_of_head new l ≡ shown_of_head old l) (λ l. shown_grown old new l g) h.state h.inside)
      ∙ h.shows;
}

-- A step of the builder is a step of the printed texts.
pub shows-step : (buffer : List ℕ) (b c : Builder) (x : Step NodeText) (y : Step ShownNode) (s : StateOf ShownNode) →
    AllStep (IsIn buffer) x → map_step (shown_of_head buffer) x ≡ y → ((t : State) → Represents b t → Represents c (step t x)) → ShowsIn buffer b s → ShowsIn buffer c (step s y)
shows-step buffer b c x y s i e f h = record {
  state = step h.state x;
  stands = f h.state h.stands;
  inside = all_step (IsIn buffer) h.state x h.inside i;
  shows = step-map (shown_of_head buffer) h.state x ∙ rw (h.shows, e) refl;
}

-- ---- The end of a list

only_top : {H K : Type 0} (v : H → K) (o : OpenNodes H) → map_open v o ≡ Top → o ≡ Top
only_top v Top e = refl
only_top v (InBlock o b x q) e = absurd cc
only_top v (InThen o b d x y q) e = absurd cc
only_top v (InElse o b d x y q) e = absurd cc

-- The printed texts of nodes, when no block is open.
pub record IsWholeTree (buffer : List ℕ) (nodes : List Node) (f : NodesOf ShownNode) : Type 0 where
  pub row : IsPostorder nodes
  pub inside : AreIn buffer (forest_of nodes)
  pub shows : map_nodes (shown_of_head buffer) (forest_of nodes) ≡ f

pub whole : (buffer : List ℕ) (b : Builder) (nodes : List Node) (f : NodesOf ShownNode) →
    ((s : State) → Represents b s → IsPostorder nodes) → ((s : State) → Represents b s → s.outer ≡ Top → forest_of nodes ≡ s.groups) →
    ShowsIn buffer b (state_at Top f) → IsWholeTree buffer nodes f
whole buffer b nodes f p q h =
    let e = q h.state h.stands (only_top (shown_of_head buffer) h.state.outer (ap (λ (s : StateOf ShownNode). s.outer) h.shows)) in
    record {
      row = p h.state h.stands;
      inside = rw e h.inside.1;
      shows = rw e (ap (λ (s : StateOf ShownNode). s.groups) h.shows);
    }

-- ---- Roles

pub same_step : {T E : Type 0} (r : Result T E) (old new : GrowingTree) (a b : Step ShownNode) → a ≡ b → OnOk r (GrowsByStep old new a) → OnOk r (GrowsByStep old new b)
same_step r old new a b e h = subst (λ (x : Step ShownNode). OnOk r (GrowsByStep old new x)) e h

-- Equal roles have equal steps.
pub by_role : (r s : Role) (x then otherwise : ShownNode) (counts : OperandCounts) → r ≡ s → shown_step r x then otherwise counts ≡ shown_step s x then otherwise counts
by_role r s x then otherwise counts e = ap (λ (q : Role). shown_step q x then otherwise counts) e

-- The step of an operator with any other role is that of an `end`.
pub ends_role : (r : OpsRole) (s : Role) (x then otherwise : ShownNode) (counts : OperandCounts) →
    (r ≡ ops.OpensTry) ⊎ ((r ≡ ops.Catches) ⊎ ((r ≡ ops.CatchesAll) ⊎ ((r ≡ ops.Delegates) ⊎ (r ≡ ops.Ends)))) → role_view r ≡ s →
    Ends ≡ shown_step s x then otherwise counts
ends_role r s x then otherwise counts h e =
    ⊎_elim (λ q. by_role row.OpensTry s x then otherwise counts (ap role_view (sym q) ∙ e)) (λ h.
    ⊎_elim (λ q. by_role row.Catches s x then otherwise counts (ap role_view (sym q) ∙ e)) (λ h.
    ⊎_elim (λ q. by_role row.CatchesAll s x then otherwise counts (ap role_view (sym q) ∙ e)) (λ h.
    ⊎_elim (λ q. by_role row.Delegates s x then otherwise counts (ap role_view (sym q) ∙ e))
    (λ q. by_role row.Ends s x then otherwise counts (ap role_view (sym q) ∙ e)) h) h) h) h

-- Equal roles and counts lead to equal counts of labels.
pub same_counts : (a b : Role) (x y : Option ℕ) (k l : List (Option ℕ)) → a ≡ b → x ≡ y → k ≡ l → labels_after a x k ≡ labels_after b y l
same_counts a b x y k l p q r = rw (p, q, r) refl

-- A plain operator opens and closes no block.
pub plain_labels : (r : OpsRole) (s : Role) (x : Option ℕ) (l : List (Option ℕ)) → r ≡ ops.Plain → role_view r ≡ s → labels_after s x l ≡ l
plain_labels r s x l p e = ap (λ (q : Role). labels_after q x l) (sym e ∙ ap role_view p)
