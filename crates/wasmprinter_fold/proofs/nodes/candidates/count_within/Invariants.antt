use Rattle.std.proofs.Common.{ℕ, ◌<◌, ◌≤◌, length}
use Rattle.wasmprinter_fold.specs.Candidates.{sum_at}
use Rattle.wasmprinter_fold.proofs.nodes.candidates.count_within.Given as goal

abbrev pub invariant-nearest : goal.invariant-nearest
invariant-nearest l =
    record {
      within : l.end ≤ length l.row;
      above : (k : ℕ) → l.end ≤ k → k < length l.row → l.limit < sum_at l.row k;
    }

abbrev pub decreases-nearest : goal.decreases-nearest
decreases-nearest l = l.end
