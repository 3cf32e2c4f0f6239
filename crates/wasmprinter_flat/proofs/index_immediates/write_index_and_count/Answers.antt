use Rattle.wasmprinter_flat.proofs.index_immediates.write_index_and_count.Goals as goal

pub returns : goal.returns
returns g c = g.met.O.Output.pieces_then _ _ _ _ _ c.write_operand.ensures c.write_count.ensures
