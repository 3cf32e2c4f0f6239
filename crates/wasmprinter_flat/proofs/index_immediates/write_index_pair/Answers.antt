use Rattle.wasmprinter_spec.specs.Layout.Operators.{two_index_pieces}
use Rattle.wasmprinter_flat.proofs.index_immediates.write_index_pair.Goals as goal

pub returns : goal.returns
unfolding two_index_pieces
returns g c = g.met.O.Output.pieces_then _ _ _ _ _ c.write_operand.ensures c.write_operand-2.ensures
