use Rattle.std.proofs.Common.{length, sym, ◌∙◌, arith}
use Rattle.wasmprinter_flat.specs.Settings.{form_view}
use Rattle.wasmprinter_fold.proofs.TaskLaws.{pieces_top, steps_top, sound_top, sound_rest}
use Rattle.wasmprinter_fold.proofs.node_text.write_nodes.write_nodes.Goals as goal

pub put_rest-requires : goal.put_rest-requires
put_rest-requires g c =
    record { sound = (c.args.text.now, length c.args.nodes.now, sound_top _ _ _ c.in-Some.ensures.items _ _ c.loop-task.invariant.sound, omega arith) }

pub write_front-requires : goal.write_front-requires
write_front-requires g c = (length c.args.nodes.now, sound_top _ _ _ c.in-Some.ensures.items _ _ c.loop-task.invariant.sound)

pub returns-then-has_failed : goal.returns-then-has_failed
returns-then-has_failed g c =
    let law = g.met.O.Output in
    let top = pieces_top _ _ _ c.in-Some.ensures.items (form_view c.args.form) c.args.nesting c.args.text.now in
    c.loop-task.invariant.wrote _
    (rw top (law.pieces_then _ _ _ _ _ c.write_front.ensures (law.pieces_skipped _ _ (sym c.has_failed.ensures ∙ c.if-has_failed.true))))

pub loop-task-smaller : goal.loop-task-smaller
loop-task-smaller g c = omega (arith, steps_top _ _ _ c.in-Some.ensures.items, c.in-Ok-put_rest.ensures.steps)

pub loop-task-preserved : goal.loop-task-preserved
loop-task-preserved g c =
    let top = pieces_top _ _ _ c.in-Some.ensures.items (form_view c.args.form) c.args.nesting c.args.text.now in
    let left = c.in-Ok-put_rest.ensures.pieces (form_view c.args.form) c.args.nesting c.args.text.now in
    record {
      sound =
          c.in-Ok-put_rest.ensures.sound _ _ (sound_top _ _ _ c.in-Some.ensures.items _ _ c.loop-task.invariant.sound)
          (sound_rest _ _ _ c.in-Some.ensures.items _ _ c.loop-task.invariant.sound);
      wrote = λ t w. c.loop-task.invariant.wrote t (rw top (g.met.O.Output.pieces_then _ _ _ _ _ c.write_front.ensures (rw left at w)));
    }
