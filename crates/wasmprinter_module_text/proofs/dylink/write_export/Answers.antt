use Rattle.wasmprinter_spec.specs.Layout.Customs.{exports_pieces}
use Rattle.wasmprinter_module_text.proofs.dylink.write_export.Goals as goal

pub returns : goal.returns
unfolding exports_pieces
returns g c =
    let law = g.met.O.Output in
    let flags = law.pieces_then _ _ _ _ _ (rw c.flags.ensures at c.write_flags.ensures) c.write_close_paren.ensures in
    law.piece_then _ _ _ _ _ c.write_break.ensures
    (law.piece_then _ _ _ _ _ c.open_group_space.ensures (law.piece_then _ _ _ _ _ (rw c.name.ensures at c.write_string.ensures.pieces) flags))
