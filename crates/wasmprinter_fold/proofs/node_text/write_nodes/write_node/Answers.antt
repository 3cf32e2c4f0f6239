use Rattle.std.proofs.Common.{◌+◌}
use Rattle.wasmprinter_flat.specs.Settings.{form_view}
use Rattle.wasmprinter_fold.proofs.RowLaws.{front_at}
use Rattle.wasmprinter_fold.proofs.node_text.write_nodes.write_node.Goals as goal

pub returns : goal.returns
returns g c =
    let law = g.met.O.Output in
    front_at g.O.Output.wrote (form_view c.args.spot.form) c.args.leads c.args.leaf (c.args.spot.nesting + c.args.spot.depth) c.args.text.now c.args.head.now c.args.spot.place c.requires.place
    (law.pieces_then _ _ _ _ _ c.write_hint.ensures
    (law.pieces_then _ _ _ _ _ (rw c.leads_unhinted-first.ensures at c.write_before_node.ensures)
    (law.piece_then _ _ _ _ _ c.write_node_text.ensures c.write_comment_end.ensures)))
