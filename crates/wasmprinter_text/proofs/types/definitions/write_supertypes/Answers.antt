use Rattle.wasmprinter_custom.specs.Shown.{names_of_identifiers}
use Rattle.wasmprinter_text.proofs.Composites.{supertypes-none, supertypes-next}
use Rattle.wasmprinter_text.proofs.types.definitions.write_supertypes.Goals as goal

pub returns : goal.returns
returns g c =
    let none = supertypes-none (names_of_identifiers c.args.identifiers.now) _ c.in-None.ensures.steps.0 in
    c.loop-index.invariant _ (rw none (g.met.O.Output.no_piece _))

pub loop-index-preserved : goal.loop-index-preserved
loop-index-preserved g c = λ t w.
    let step = supertypes-next (names_of_identifiers c.args.identifiers.now) _ _ _ c.in-Some.ensures.steps in
    c.loop-index.invariant t (rw step (g.met.O.Output.pieces_then _ _ _ _ _ c.write_supertype.ensures w))
