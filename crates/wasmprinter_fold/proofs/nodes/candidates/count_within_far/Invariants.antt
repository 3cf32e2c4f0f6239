use Rattle.std.proofs.Common.{ℕ, ◌-◌, ◌<◌, ◌≤◌, length}
use Rattle.wasmprinter_fold.specs.Candidates.{sum_at}
use Rattle.wasmprinter_fold.proofs.nodes.candidates.count_within_far.Given as goal

abbrev pub invariant-probes : goal.invariant-probes
invariant-probes l =
    record {
      ordered : l.low ≤ l.high;
      within : l.high ≤ length l.row;
      below : (k : ℕ) → k < l.low → sum_at l.row k ≤ l.limit;
      above : (k : ℕ) → l.high ≤ k → k < length l.row → l.limit < sum_at l.row k;
    }

abbrev pub decreases-probes : goal.decreases-probes
decreases-probes l = l.high - l.low
