use Rattle.wasmprinter_fold.proofs.TaskLaws.{on_ok, pieces_one, steps_one, sound_one}
use Rattle.wasmprinter_fold.proofs.node_text.write_tasks.put_rest.Goals as goal

pub returns-in-Nodes-clause-sound : goal.returns-in-Nodes-clause-sound
returns-in-Nodes-clause-sound c = rw c.in-Nodes.is c.put_row.ensures.sound

pub returns-in_ok-push-in-One-clause-pieces : goal.returns-in_ok-push-in-One-clause-pieces
returns-in_ok-push-in-One-clause-pieces c =
    rw c.in-One.is
    (on_ok c.put_held.result (pieces_one c.put_held.new.tasks.items c.push.new.self.items c.args.tasks.now.items c.in-One.field-0 c.in-One.held c.in-One.field-2 c.in-One.depth c.in_ok-push-in-One.ensures.items) c.put_held.ensures.pieces)

pub returns-in_ok-push-in-One-clause-steps : goal.returns-in_ok-push-in-One-clause-steps
returns-in_ok-push-in-One-clause-steps c =
    rw c.in-One.is
    (on_ok c.put_held.result (steps_one c.put_held.new.tasks.items c.push.new.self.items c.args.tasks.now.items c.in-One.field-0 c.in-One.held c.in-One.field-2 c.in-One.depth c.in_ok-push-in-One.ensures.items) c.put_held.ensures.steps)

pub returns-in_ok-push-in-One-clause-sound : goal.returns-in_ok-push-in-One-clause-sound
returns-in_ok-push-in-One-clause-sound c =
    rw c.in-One.is
    (on_ok c.put_held.result (sound_one c.put_held.new.tasks.items c.push.new.self.items c.args.tasks.now.items c.in-One.field-0 c.in-One.held c.in-One.field-2 c.in-One.depth c.in_ok-push-in-One.ensures.items) c.put_held.ensures.sound)
