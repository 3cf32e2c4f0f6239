use Rattle.wasmprinter_spec.specs.Layout.Customs.{sizes_pieces}
use Rattle.wasmprinter_module_text.proofs.dylink.write_sizes.Goals as goal

pub returns : goal.returns
unfolding sizes_pieces
returns g c =
    let law = g.met.O.Output in
    let memory = rw (c.memory_size.ensures, c.memory_alignment.ensures) at c.write_sizes_group.ensures in
    let table = rw (c.table_size.ensures, c.table_alignment.ensures) at c.write_sizes_group-2.ensures in
    let groups = law.pieces_then _ _ _ _ _ memory (law.pieces_then _ _ _ _ _ table c.write_close_paren.ensures) in
    law.piece_then _ _ _ _ _ c.write_break.ensures (law.piece_then _ _ _ _ _ c.open_group.ensures groups)
