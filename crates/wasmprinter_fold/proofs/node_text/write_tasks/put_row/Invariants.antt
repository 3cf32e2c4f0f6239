use Rattle.std.proofs.Common.{◌+◌, ◌≤◌, length}
use Rattle.std.specs.Vec.{vec_len, vec_capacity}
use Rattle.wasmprinter_fold.proofs.TaskLaws.{IsPut}
use Rattle.wasmprinter_fold.proofs.node_text.write_tasks.put_row.Given as goal

abbrev pub invariant-loop-last : goal.invariant-loop-last
invariant-loop-last l =
    IsPut l.tasks.items l.fn.tasks.items l.nodes l.rest l.first l.depth
    × (vec_len l.fn.tasks + length l.nodes ≤ vec_capacity l.fn.tasks → vec_len l.tasks + length l.rest ≤ vec_capacity l.tasks)

abbrev pub decreases-loop-last : goal.decreases-loop-last
decreases-loop-last l = length l.rest
