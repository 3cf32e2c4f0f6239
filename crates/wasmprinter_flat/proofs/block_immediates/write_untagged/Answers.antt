use Rattle.wasmprinter_spec.specs.Layout.Groups.{line_group}
use Rattle.wasmprinter_flat.proofs.block_immediates.write_untagged.Goals as goal

pub returns : goal.returns
unfolding line_group
returns g c =
    g.met.O.Output.piece_then _ _ _ _ _ c.open_group.ensures
    (g.met.O.Output.pieces_then _ _ _ _ _ c.write_label.ensures c.write_close_paren.ensures)
