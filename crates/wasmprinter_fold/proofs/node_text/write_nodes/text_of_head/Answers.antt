use Rattle.wasmprinter_fold.proofs.NodeTexts.{start_boundary, stop_boundary}
use Rattle.wasmprinter_fold.proofs.node_text.write_nodes.text_of_head.Goals as goal

pub range-requires-clause-start_boundary : goal.range-requires-clause-start_boundary
range-requires-clause-start_boundary c = λ _. start_boundary _ _ c.requires

pub range-requires-clause-end_boundary : goal.range-requires-clause-end_boundary
range-requires-clause-end_boundary c = stop_boundary _ _ c.requires
