use Rattle.std.proofs.Common.{arith}
use Rattle.wasmprinter_fold.proofs.TaskLaws.{one_put, pieces_all_put, sound_all_put}
use Rattle.wasmprinter_fold.proofs.node_text.write_tasks.put_row.Goals as goal

pub loop-last-preserved : goal.loop-last-preserved
loop-last-preserved c = (
  one_put _ _ c.args.tasks.now.items c.args.nodes.now _ c.in-Some.last.before c.in-Some.last.node c.in-Some.last.parts c.args.first c.args.depth c.leads-leads.result c.in-Some.ensures c.in_ok-push.ensures.items c.leads-leads.ensures c.loop-last.invariant.0,
  (λ h. omega (arith, c.in-Some.ensures.lengths, c.loop-last.invariant.1 h, c.in_ok-push.ensures.len, c.in_ok-push.ensures.capacity)),
)

pub returns-clause-pieces : goal.returns-clause-pieces
returns-clause-pieces c = pieces_all_put _ _ _ _ _ _ c.in_default.ensures c.loop-last.invariant.0

pub returns-clause-sound : goal.returns-clause-sound
returns-clause-sound c = sound_all_put _ _ _ _ _ _ c.in_default.ensures c.loop-last.invariant.0
