-- Rows of nodes as slices, and the properties that contracts state of them.
use Rattle.std.specs.Prelude.{◌≡◌, suc, ◌+◌, List, length}
use Rattle.wasmprinter_spec.specs.Folding.Tree.{Snoc}
use Rattle.wasmprinter_fold.specs.declared.nodes.Node.{Node}
use Rattle.wasmprinter_fold.specs.Postorder.{forest_of, IsPostorder}

-- The last node of a row, with the nodes before it and those that it holds.
pub record IsLast (row before : List Node) (node : Node) (parts : List Node) : Type 0 where
  pub whole : forest_of row ≡ Snoc (forest_of before) node.head node.results (forest_of parts)
  pub before_row : IsPostorder before
  pub parts_row : IsPostorder parts
  pub lengths : length row ≡ suc (length before + length parts)
