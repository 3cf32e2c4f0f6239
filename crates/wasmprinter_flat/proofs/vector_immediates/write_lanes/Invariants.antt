use Rattle.std.proofs.Common.{drop}
use Rattle.wasmprinter_spec.specs.Layout.Operators.{lanes_pieces}
use Rattle.wasmprinter_flat.proofs.vector_immediates.write_lanes.Given as goal

abbrev pub invariant-loop-lane : goal.invariant-loop-lane
invariant-loop-lane g l =
    (t : _) → g.O.Output.wrote l.out t (lanes_pieces (drop l.lane-index l.lanes)) → g.O.Output.wrote l.fn.out t (lanes_pieces l.lanes)
