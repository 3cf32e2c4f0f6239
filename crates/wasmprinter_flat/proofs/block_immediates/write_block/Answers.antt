use Rattle.wasmprinter_flat.proofs.block_immediates.write_block.Goals as goal

pub returns : goal.returns
returns g c =
    g.met.O.Output.pieces_then _ _ _ _ _ (rw c.own-own.ensures at c.write_leading_id_and_name.ensures)
    (g.met.O.Output.pieces_then _ _ _ _ _ c.write_block_type.ensures
    (rw (c.own-own.ensures, c.block.ensures) at c.write_ending.ensures))
