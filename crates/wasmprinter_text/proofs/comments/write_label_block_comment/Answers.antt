use Rattle.std.specs.Prelude.{decimal, codes}
use Rattle.std.proofs.Common.{append_assoc, refl}
use Rattle.wasmprinter_text.proofs.comments.write_label_block_comment.Goals as goal

pub returns : goal.returns
returns g c =
    g.met.O.Output.piece_of _ _ _ refl (rw (append_assoc (decimal c.args.block) (codes " ") (codes ";)")) c.write_number_comment.ensures)
