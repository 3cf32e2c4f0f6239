-- A folded list and its layout.
use Rattle.std.specs.Prelude.{◌≡◌, ℕ, List, [], Bool, true, false, Option}
use Rattle.std.proofs.Common.{sym, ap, ◌∙◌, subst}
use Rattle.wasmprinter_spec.specs.Grammar.{Placed}
use Rattle.wasmprinter_spec.specs.Operator.{Operator}
use Rattle.wasmprinter_spec.specs.Placed.{PlacedModule}
use Rattle.wasmprinter_spec.specs.Customs.Hints.{Hint}
use Rattle.wasmprinter_spec.specs.Layout.Operators.{Setting}
use Rattle.wasmprinter_spec.specs.Layout.Folded.{items, folded_list}
use Rattle.wasmprinter_spec.specs.Folding.Arities.{signatures_within}
use Rattle.wasmprinter_spec.specs.Folding.Code.{nested_code_of}
use Rattle.wasmprinter_spec.specs.Folding.Tree.{NodesOf}
use Rattle.wasmprinter_fold.specs.declared.nodes.Node.{Node}
use Rattle.wasmprinter_fold.specs.Building.{Top}
use Rattle.wasmprinter_fold.specs.Frames.{State, Represents}
use Rattle.wasmprinter_fold.specs.Mapping.{map_nodes}
use Rattle.wasmprinter_fold.specs.Postorder.{IsPostorder, forest_of}
use Rattle.wasmprinter_fold.specs.Shown.{ShownNode, shown_of_head, AreIn, row_pieces}
use Rattle.wasmprinter_fold.specs.declared.growing_tree.GrowingTree.{GrowingTree}
use Rattle.wasmprinter_fold.specs.Growing.{IsGrown}
use Rattle.wasmprinter_fold.specs.Views.{FolderView, folding_view}
use Rattle.wasmprinter_fold.proofs.Growing.{whole}
use Rattle.wasmprinter_fold.proofs.Walks.{folded-pieces, no-pieces}

module _ (color : Bool) (m : PlacedModule) (v : FolderView) (is : record { color = color; operators_of = m } ≡ v) (own : Option ℕ) (s : Setting) (hints : List (Placed Hint)) (os : List (Placed Operator)) where
  -- The layout of a list that is not folded is empty.
  pub nothing_of : (t : GrowingTree) (r : Bool) → r ≡ false → IsGrown color t r (nested_code_of (items s (signatures_within m own) hints 0 [] [] os)) →
      folded_list (folding_view v) own s hints os ≡ []
  nothing_of t true e h = absurd cc
  nothing_of t false e h =
      ap (λ (f : FolderView). folded_list (folding_view f) own s hints os) (sym is) ∙ no-pieces color s (signatures_within m own) hints os h

  module _ (t : GrowingTree) (r : Bool) (e : r ≡ true) (grown : IsGrown color t r (nested_code_of (items s (signatures_within m own) hints 0 [] [] os))) (text : List ℕ) (buffer : text ≡ t.texts.bytes) (nodes : List Node) (rows : (u : State) → Represents t.builder u → IsPostorder nodes) (closed : (u : State) → Represents t.builder u → u.outer ≡ Top → forest_of nodes ≡ u.groups) where
    there : IsGrown color t true (nested_code_of (items s (signatures_within m own) hints 0 [] [] os))
    there = subst (λ (b : Bool). IsGrown color t b (nested_code_of (items s (signatures_within m own) hints 0 [] [] os))) e grown

    -- The texts of its nodes are in the buffer.
    pub texts_there : AreIn text (forest_of nodes)
    texts_there = subst (λ (b : List ℕ). AreIn b (forest_of nodes)) (sym buffer) (whole t.texts.bytes t.builder nodes _ rows closed there.2).inside

    -- The pieces of its nodes are its layout.
    pub layout_of : row_pieces s.form true s.nesting (map_nodes (shown_of_head text) (forest_of nodes)) ≡ folded_list (folding_view v) own s hints os
    layout_of =
        ap (λ (b : List ℕ). row_pieces s.form true s.nesting (map_nodes (shown_of_head b) (forest_of nodes))) buffer
        ∙ (ap (λ (f : NodesOf ShownNode). row_pieces s.form true s.nesting f) (whole t.texts.bytes t.builder nodes _ rows closed there.2).shows
        ∙ (sym (folded-pieces color s (signatures_within m own) hints os there.0 there.1)
        ∙ ap (λ (f : FolderView). folded_list (folding_view f) own s hints os) is))
