-- Nodes and the lists that represent them.
use Rattle.std.proofs.Common.{◌≡◌, ℕ, suc, ◌+◌, ◌-◌, List, [], ◌∷◌, ◌++◌, length, refl, sym, ◌∙◌, ap, arith, append_assoc, length-append}
use Rattle.std.proofs.lemmas.List.{append-nil}
use Rattle.wasmprinter_spec.specs.Folding.Tree.{NodesOf, Nil, Snoc, row_of_both, count}
use Rattle.wasmprinter_spec.proofs.Folding.{row_of_both-nil}
use Rattle.wasmprinter_fold.specs.declared.nodes.NodeText.{NodeText}
use Rattle.wasmprinter_fold.specs.declared.nodes.Node.{Node}
use Rattle.wasmprinter_fold.specs.Postorder.{postorder, parts_at_last, grow, grow_all, forest_of, IsPostorder}

module _ {H : Type 0} where
  pub count-row_of_both : (a b : NodesOf H) → count (row_of_both a b) ≡ count a + count b
  count-row_of_both a Nil = omega arith
  count-row_of_both a (Snoc b h r held) = omega (arith, count-row_of_both a b)

pub postorder-row_of_both : (a b : NodesOf NodeText) → postorder (row_of_both a b) ≡ postorder a ++ postorder b
postorder-row_of_both a Nil = sym (append-nil (postorder a))
postorder-row_of_both a (Snoc b h r parts) = simp (postorder-row_of_both a b, append_assoc)

pub length-postorder : (f : NodesOf NodeText) → length (postorder f) ≡ count f
length-postorder Nil = refl
length-postorder (Snoc b h r parts) = simp (length-append, length-postorder b, length-postorder parts) (omega arith)

parts_at_last-row_of_both : (b run : NodesOf NodeText) → parts_at_last (count run) (row_of_both b run) ≡ (b, run)
parts_at_last-row_of_both b Nil = refl
parts_at_last-row_of_both b (Snoc rest h r parts) =
    let e : (count rest + count parts) - count parts ≡ count rest = omega arith in
    rw (e, parts_at_last-row_of_both b rest) refl

-- A node whose size counts the last nodes and itself holds these nodes.
grow-row_of_both : (b parts : NodesOf NodeText) (h : NodeText) (r : ℕ) → grow (row_of_both b parts) (record { head = h; results = r; size = suc (count parts) }) ≡ Snoc b h r parts
grow-row_of_both b parts h r =
    let e : suc (count parts) - 1 ≡ count parts = omega arith in
    rw (e, parts_at_last-row_of_both b parts) refl

grow_all-append : (f : NodesOf NodeText) (xs ys : List Node) → grow_all f (xs ++ ys) ≡ grow_all (grow_all f xs) ys
grow_all-append f [] ys = refl
grow_all-append f (x ∷ xs) ys = grow_all-append (grow f x) xs ys

grow_all-postorder : (f g : NodesOf NodeText) → grow_all f (postorder g) ≡ row_of_both f g
grow_all-postorder f Nil = refl
grow_all-postorder f (Snoc b h r parts) =
    let last : Node = record { head = h; results = r; size = suc (count parts) } in
    grow_all-append f (postorder b ++ postorder parts) (last ∷ [])
    ∙ (ap (λ (x : NodesOf NodeText). grow x last)
    (grow_all-append f (postorder b) (postorder parts)
    ∙ (ap (λ (x : NodesOf NodeText). grow_all x (postorder parts)) (grow_all-postorder f b)
    ∙ grow_all-postorder (row_of_both f b) parts))
    ∙ grow-row_of_both (row_of_both f b) parts h r)

pub forest_of-postorder : (f : NodesOf NodeText) → forest_of (postorder f) ≡ f
forest_of-postorder f = grow_all-postorder Nil f ∙ row_of_both-nil f

pub IsPostorder-postorder : (f : NodesOf NodeText) → IsPostorder (postorder f)
IsPostorder-postorder f = record { whole = ap postorder (forest_of-postorder f) }

pub length-row : (row : List Node) → IsPostorder row → length row ≡ count (forest_of row)
length-row row h = ap length (sym h.whole) ∙ length-postorder (forest_of row)
