-- Nodes as one list in postorder: each node comes after those that it holds, and its size counts them and itself.
use Rattle.std.specs.Prelude.{◌≡◌, ℕ, zero, suc, ◌-◌, List, [], ◌∷◌, ◌++◌}
use Rattle.wasmprinter_spec.specs.Folding.Tree.{NodesOf, Nil, Snoc, count}
use Rattle.wasmprinter_fold.specs.declared.nodes.NodeText.{NodeText}
use Rattle.wasmprinter_fold.specs.declared.nodes.Node.{Node}

-- The list of all nodes, at every depth.
abbrev pub postorder : NodesOf NodeText → List Node
postorder Nil = []
postorder (Snoc before head results parts) =
    (postorder before ++ postorder parts) ++ record { head = head; results = results; size = suc (count parts) } ∷ []

-- The nodes before the last n, and the last n, if the last n include all nodes that they hold.
abbrev pub parts_at_last : ℕ → NodesOf NodeText → NodesOf NodeText × NodesOf NodeText
parts_at_last zero f = (f, Nil)
parts_at_last (suc n) Nil = (Nil, Nil)
parts_at_last (suc n) (Snoc before head results parts) =
    let c = parts_at_last (n - count parts) before in (c.0, Snoc c.1 head results parts)

-- The nodes with one more node, which holds the last `size - 1` of them.
abbrev pub grow : NodesOf NodeText → Node → NodesOf NodeText
grow f n = let c = parts_at_last (n.size - 1) f in Snoc c.0 n.head n.results c.1

-- The nodes with those of the list, one after the other.
abbrev pub grow_all : NodesOf NodeText → List Node → NodesOf NodeText
grow_all f [] = f
grow_all f (n ∷ ns) = grow_all (grow f n) ns

-- The nodes that a list represents: each holds the nodes directly before it that its size counts.
abbrev pub forest_of : List Node → NodesOf NodeText
forest_of ns = grow_all Nil ns

-- The list represents nodes: each comes directly after all nodes that it holds, and its size counts these and itself.
pub record IsPostorder (ns : List Node) : Type 0 where
  pub whole : postorder (forest_of ns) ≡ ns
