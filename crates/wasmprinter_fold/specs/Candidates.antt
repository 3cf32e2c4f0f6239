-- The candidates of a row: where each of its nodes begins, and the sum of results up to it.
use Rattle.std.specs.Prelude.{◌≡◌, ℕ, suc, ◌+◌, ◌<◌, ◌≤◌, List, [], ◌∷◌, ◌++◌, length, slice_index_or}
use Rattle.wasmprinter_spec.specs.Folding.Arities.{greatest}
use Rattle.wasmprinter_spec.specs.Folding.Tree.{NodesOf, Nil, Snoc, row_of_both, count, results_of, OperandsOf, Fit, Overshot, TooFew, with_operands}
use Rattle.wasmprinter_fold.specs.declared.nodes.NodeText.{NodeText}
use Rattle.wasmprinter_fold.specs.declared.nodes.candidates.Candidate.{Candidate}
use Rattle.wasmprinter_fold.specs.declared.nodes.candidates.Cut.{Cut}
use Rattle.wasmprinter_fold.specs.declared.nodes.candidates.Taken.{Taken}
use Rattle.wasmprinter_fold.specs.declared.nodes.candidates.Taken.TheVariants as taken

-- The number of nodes in a row, without those that they hold.
abbrev pub width : NodesOf NodeText → ℕ
width Nil = 0
width (Snoc before head results held) = suc (width before)

-- The candidate that follows a row, if it counts for this number of results. The first node of the row has the index
-- `first`.
abbrev pub candidate_after : ℕ → NodesOf NodeText → ℕ → Candidate
candidate_after first f results = record { start = first + count f; sum = results_of f + results }

-- The candidates of a row, one for each node that no other node of it holds. Its first node has the index `first`.
abbrev pub candidates : ℕ → NodesOf NodeText → List Candidate
candidates first Nil = []
candidates first (Snoc before head results held) = candidates first before ++ candidate_after first before results ∷ []

-- The sum of the last candidate, or 0.
abbrev pub total_of : List Candidate → ℕ
total_of [] = 0
total_of (x ∷ []) = x.sum
total_of (x ∷ (y ∷ ys)) = total_of (y ∷ ys)

-- The sum of the candidate with this index, or 0 if there is none.
abbrev pub sum_at : List Candidate → ℕ → ℕ
sum_at row k = (slice_index_or row k (record { start = 0; sum = 0 })).sum

-- Before the index, each sum is at most the limit. From there on, each is greater.
pub record IsSplit (row : List Candidate) (limit index : ℕ) : Type 0 where
  pub within : index ≤ length row
  pub below : (k : ℕ) → k < index → sum_at row k ≤ limit
  pub above : (k : ℕ) → index ≤ k → k < length row → limit < sum_at row k

-- The outcome of a search for operands: the number of candidates before them, if they were found.
abbrev pub outcome : OperandsOf NodeText → Taken
outcome (Fit before run) = taken.From (width before)
outcome Overshot = taken.Overshot
outcome TooFew = taken.TooFew

-- The position after the nodes `before` of a row. Its first node has the index `first`.
pub record IsCut (first : ℕ) (before : NodesOf NodeText) (cut : Cut) : Type 0 where
  pub kept : cut.kept ≡ width before
  pub start : cut.start ≡ first + count before
  pub sum : cut.sum ≡ results_of before

-- The position at which the operands of a plain operator begin, given the outcome of the search for them in the nodes
-- `f`, and the number of results that its node counts for. The operator itself has `own` results, and the first node
-- the index `first`.
pub record IsOperandsCut (first : ℕ) (f : NodesOf NodeText) (own : ℕ) (o : OperandsOf NodeText) (cut : Cut) (results : ℕ) : Type 0 where
  pub before : NodesOf NodeText
  pub taken : NodesOf NodeText
  pub whole : f ≡ row_of_both before taken
  pub cuts : IsCut first before cut
  pub folds : (head : NodeText) → with_operands f head own o ≡ Snoc before head results taken

-- The candidates are those of the nodes `f`. The first of these has the index `first`, the node after them `end`.
pub record IsEndOf (row : List Candidate) (end first : ℕ) (f : NodesOf NodeText) : Type 0 where
  pub whole : row ≡ candidates first f
  pub ends : end ≡ first + count f

-- Each node counts for at most the greatest number of results.
abbrev pub IsLimited : NodesOf NodeText → Type 0
IsLimited Nil = Unit {0}
IsLimited (Snoc before head results held) = IsLimited before × (results ≤ greatest)
