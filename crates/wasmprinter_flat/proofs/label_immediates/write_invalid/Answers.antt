use Rattle.wasmprinter_flat.proofs.label_immediates.write_invalid.Goals as goal

pub returns : goal.returns
returns g c =
    g.met.O.Output.piece_then _ _ _ _ _ c.write_space.ensures (g.met.O.Output.piece_then _ _ _ _ _ c.write_number_word.ensures c.write_unstyled_comment.ensures)
