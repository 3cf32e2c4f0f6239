use Rattle.std.proofs.Common.{length, true}
use Rattle.wasmprinter_flat.specs.Settings.{form_view}
use Rattle.wasmprinter_fold.specs.Mapping.{map_nodes}
use Rattle.wasmprinter_fold.specs.Postorder.{forest_of}
use Rattle.wasmprinter_fold.specs.Shown.{shown_of_head, row_pieces}
use Rattle.wasmprinter_fold.specs.Tasks.{AllSound, pieces_left, steps_left}
use Rattle.wasmprinter_fold.proofs.node_text.write_nodes.write_nodes.Given as goal

abbrev pub invariant-loop-task : goal.invariant-loop-task
invariant-loop-task g l =
    record {
      sound : AllSound l.text (length l.nodes) l.tasks.items;
      wrote : (t : _) → g.O.Output.wrote l.out t (pieces_left (form_view l.form) l.nesting l.text l.tasks.items) →
          g.O.Output.wrote l.fn.out t (row_pieces (form_view l.form) true l.nesting (map_nodes (shown_of_head l.text) (forest_of l.nodes)));
    }

abbrev pub decreases-loop-task : goal.decreases-loop-task
decreases-loop-task g l = steps_left l.tasks.items
