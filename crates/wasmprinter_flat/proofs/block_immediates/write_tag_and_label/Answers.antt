use Rattle.wasmprinter_flat.proofs.block_immediates.write_tag_and_label.Goals as goal

pub returns : goal.returns
returns g c = g.met.O.Output.pieces_then _ _ _ _ _ c.write_operand.ensures c.write_label.ensures
