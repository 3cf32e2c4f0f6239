use Rattle.wasmprinter_spec.specs.Layout.Types.{type_use_pieces}
use Rattle.wasmprinter_text.proofs.type_use.write_type_use.Goals as goal

pub returns : goal.returns
unfolding type_use_pieces
returns g c = g.met.O.Output.pieces_then _ _ _ _ _ c.write_type_index.ensures c.write_signature_at.ensures
