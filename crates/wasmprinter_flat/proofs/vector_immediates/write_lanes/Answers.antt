use Rattle.std.proofs.Common.{[], ◌∙◌, refl}
use Rattle.std.proofs.lemmas.List.{drop_more, at_drop_all}
use Rattle.wasmprinter_spec.specs.Layout.Operators.{lanes_pieces}
use Rattle.wasmprinter_flat.proofs.Lanes.{lanes-next, lanes-none}
use Rattle.wasmprinter_flat.proofs.vector_immediates.write_lanes.Goals as goal

pub loop-lane-preserved : goal.loop-lane-preserved
loop-lane-preserved g c = λ t w.
    let step = lanes-next _ _ _ (drop_more c.args.lanes.now c.loop-lane.lane-index 0 c.loop-lane-test.true) in
    c.loop-lane.invariant t (rw step (g.met.O.Output.pieces_then _ _ _ _ _ c.write_lane.ensures w))

pub returns : goal.returns
returns g c =
    let none = at_drop_all lanes_pieces c.args.lanes.now c.loop-lane.lane-index c.loop-lane-test.false ∙ lanes-none [] refl in
    c.loop-lane.invariant _ (rw none (g.met.O.Output.no_piece _))
