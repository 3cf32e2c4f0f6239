use Rattle.wasmprinter_spec.specs.Layout.Operators.{type_and_field_pieces}
use Rattle.wasmprinter_flat.proofs.index_immediates.write_field.Goals as goal

pub returns : goal.returns
unfolding type_and_field_pieces
returns g c = g.met.O.Output.pieces_then _ _ _ _ _ c.write_operand.ensures c.write_field_index.ensures
