use Rattle.wasmprinter_module_text.proofs.dylink.write_dylink.Goals as goal

pub returns : goal.returns
returns g c =
    let law = g.met.O.Output in
    let group = law.group_of _ _ _ _ _ _ _ _ c.enter_group-outer_begun.ensures c.write_subsections.ensures c.close_group.ensures in
    law.piece_then _ _ _ _ _ c.write_break.ensures (law.piece_then _ _ _ _ _ c.open_annotation.ensures group)
