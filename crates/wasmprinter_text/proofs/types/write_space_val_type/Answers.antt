use Rattle.wasmprinter_custom.specs.Shown.{names_of_identifiers}
use Rattle.wasmprinter_ops.specs.ValTypes.{val_type_view}
use Rattle.wasmprinter_text.proofs.TypeLists.{one_type}
use Rattle.wasmprinter_text.proofs.types.write_space_val_type.Goals as goal

pub returns : goal.returns
returns g c =
    rw (one_type (names_of_identifiers c.args.identifiers.now) (val_type_view c.args.value_type))
    (g.met.O.Output.piece_then _ _ _ _ _ c.write_space.ensures c.write_val_type.ensures)
