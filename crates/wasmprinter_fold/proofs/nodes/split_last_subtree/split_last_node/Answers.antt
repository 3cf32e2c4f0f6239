use Rattle.wasmprinter_fold.proofs.Lasts.{size_above_zero, size_fits, is_last}
use Rattle.wasmprinter_fold.proofs.nodes.split_last_subtree.split_last_node.Goals as goal

pub overflow_sub-node : goal.overflow_sub-node
overflow_sub-node c = size_above_zero _ _ _ c.requires c.in_ok-node.ensures.cases.0

pub overflow_sub-rest : goal.overflow_sub-rest
overflow_sub-rest c = size_fits _ _ _ c.requires c.in_ok-node.ensures.cases.0

pub returns : goal.returns
returns c =
    is_last _ _ _ c.requires c.in_ok-node.ensures.cases.0 _ _ c.split_at.ensures.front c.split_at.ensures.back
