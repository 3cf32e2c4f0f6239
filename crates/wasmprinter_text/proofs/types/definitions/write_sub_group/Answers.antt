use Rattle.wasmprinter_custom.specs.Shown.{names_of_identifiers}
use Rattle.wasmprinter_text.proofs.Composites.{sub_group-parts}
use Rattle.wasmprinter_text.proofs.types.definitions.write_sub_group.Goals as goal

pub returns : goal.returns
returns g c =
    let law = g.met.O.Output in
    let names = names_of_identifiers c.args.identifiers.now in
    let final = rw c.is_final.ensures at (c.write_final_if.ensures names) in
    let supers = rw c.supertypes.ensures at c.write_supertypes.ensures in
    let composite = rw c.composite.ensures at c.write_composite_type.ensures in
    let whole = sub_group-parts names c.args.number c.args.sub_type.now.final c.args.sub_type.now.supertypes c.args.sub_type.now.composite in
    rw whole
    (law.piece_then _ _ _ _ _ c.open_group.ensures
    (law.piece_then _ _ _ _ _ c.write_space.ensures
    (law.pieces_then _ _ _ _ _ final (law.pieces_then _ _ _ _ _ supers (law.pieces_then _ _ _ _ _ composite c.write_close_paren.ensures)))))
