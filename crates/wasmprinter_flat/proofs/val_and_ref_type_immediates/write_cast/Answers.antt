use Rattle.wasmprinter_flat.proofs.val_and_ref_type_immediates.write_cast.Goals as goal

pub returns : goal.returns
returns g c =
    g.met.O.Output.pieces_then _ _ _ _ _ c.write_label.ensures
    (rw (c.cast_source.ensures, c.cast_target.ensures, c.identifiers.ensures) at c.write_refs.ensures)
