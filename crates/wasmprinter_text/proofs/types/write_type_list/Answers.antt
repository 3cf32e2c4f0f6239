use Rattle.wasmprinter_custom.specs.Shown.{names_of_identifiers}
use Rattle.wasmprinter_text.proofs.TypeLists.{types-none, types-next}
use Rattle.wasmprinter_text.proofs.types.write_type_list.Goals as goal

pub returns : goal.returns
returns g c =
    let none = types-none (names_of_identifiers c.args.identifiers.now) _ c.in-None.ensures.steps.0 in
    c.loop-value_type.invariant _ (rw none (g.met.O.Output.no_piece _))

pub loop-value_type-preserved : goal.loop-value_type-preserved
loop-value_type-preserved g c = λ t w.
    let step = types-next (names_of_identifiers c.args.identifiers.now) _ _ _ c.in-Some.ensures.steps in
    c.loop-value_type.invariant t (rw step (g.met.O.Output.pieces_then _ _ _ _ _ c.write_space_val_type.ensures w))
