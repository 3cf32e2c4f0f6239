use Rattle.wasmprinter_flat.proofs.val_and_ref_type_immediates.write_refs.Goals as goal

pub returns : goal.returns
returns g c = g.met.O.Output.pieces_then _ _ _ _ _ c.write_ref.ensures c.write_ref-2.ensures
