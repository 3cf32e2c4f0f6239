use Rattle.std.proofs.Common.{arith, ◌-◌}
use Rattle.wasmprinter_fold.proofs.nodes.candidates.count_within_far.Goals as goal

pub probes-preserved-then-row-middle : goal.probes-preserved-then-row-middle
probes-preserved-then-row-middle c =
    record {
      ordered = omega arith;
      within = c.probes.invariant.within;
      below = λ k i. omega (arith, c.requires.rising k (c.probes.high - c.min.result) (record { start = 0; sum = 0 }) (omega (arith, i)) (omega arith));
      above = c.probes.invariant.above;
    }

pub probes-preserved : goal.probes-preserved
probes-preserved c =
    record {
      ordered = omega arith;
      within = omega arith;
      below = c.probes.invariant.below;
      above = λ k i j. omega (arith, c.requires.rising (c.probes.high - c.min.result) k (record { start = 0; sum = 0 }) i j);
    }
