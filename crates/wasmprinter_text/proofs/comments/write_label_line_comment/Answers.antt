use Rattle.std.specs.Prelude.{decimal}
use Rattle.std.proofs.Common.{append-nil, refl}
use Rattle.wasmprinter_text.proofs.comments.write_label_line_comment.Goals as goal

pub returns : goal.returns
returns g c = g.met.O.Output.piece_of _ _ _ refl (rw (append-nil (decimal c.args.block)) at c.write_number_comment.ensures)
