use Rattle.wasmprinter_spec.specs.Layout.Operators.{ending_pieces}
use Rattle.wasmprinter_flat.proofs.block_immediates.write_label_comment.Goals as goal

pub returns-in-OverLines : goal.returns-in-OverLines
unfolding ending_pieces
returns-in-OverLines g c =
    rw c.in-OverLines.is (g.met.O.Output.piece_then _ _ _ _ _ c.write_space.ensures c.write_label_line_comment.ensures)

pub returns-in-InLine : goal.returns-in-InLine
unfolding ending_pieces
returns-in-InLine g c =
    rw c.in-InLine.is (g.met.O.Output.piece_then _ _ _ _ _ c.write_space-in-InLine.ensures c.write_label_block_comment.ensures)
