use Rattle.std.proofs.Common.{arith, ◌-◌}
use Rattle.wasmprinter_fold.proofs.nodes.candidates.count_within.Goals as goal

pub returns-then-row-end : goal.returns-then-row-end
returns-then-row-end c =
    record {
      within = c.nearest.invariant.within;
      below = λ k i. omega (arith, c.requires k (c.nearest.end - 1) (record { start = 0; sum = 0 }) (omega (arith, i)) (omega arith));
      above = c.nearest.invariant.above;
    }

pub nearest-preserved : goal.nearest-preserved
nearest-preserved c =
    record {
      within = omega arith;
      above = λ k i j. omega (arith, c.requires (c.nearest.end - 1) k (record { start = 0; sum = 0 }) i j);
    }
