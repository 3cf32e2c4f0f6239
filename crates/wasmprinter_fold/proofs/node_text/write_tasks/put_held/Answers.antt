use Rattle.std.specs.Prelude.{false}
use Rattle.wasmprinter_fold.proofs.TaskLaws.{pieces_pushed, steps_pushed, sound_pushed}
use Rattle.wasmprinter_fold.proofs.node_text.write_tasks.put_held.Goals as goal

pub returns-in_ok-push-clause-pieces : goal.returns-in_ok-push-clause-pieces
returns-in_ok-push-clause-pieces c = pieces_pushed _ _ c.args.held false c.args.depth c.in_ok-push.ensures.items

pub returns-in_ok-push-clause-steps : goal.returns-in_ok-push-clause-steps
returns-in_ok-push-clause-steps c = steps_pushed _ _ c.args.held false c.args.depth c.in_ok-push.ensures.items

pub returns-in_ok-push-clause-sound : goal.returns-in_ok-push-clause-sound
returns-in_ok-push-clause-sound c = sound_pushed _ _ c.args.held false c.args.depth c.in_ok-push.ensures.items
