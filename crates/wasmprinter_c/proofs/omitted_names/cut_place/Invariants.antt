use Rattle.std.proofs.Common.{ℕ, List, ◌≤◌, length}
use Rattle.wasmprinter_c.specs.Omitted.{StartsWithNames}
use Rattle.wasmprinter_c.proofs.omitted_names.cut_place.Given as goal

abbrev pub invariant-loop-first : goal.invariant-loop-first
invariant-loop-first l = ((names : List (List ℕ)) × StartsWithNames names l.list l.rest) × (length l.rest ≤ length l.list)

abbrev pub decreases-loop-first : goal.decreases-loop-first
decreases-loop-first l = length l.rest
