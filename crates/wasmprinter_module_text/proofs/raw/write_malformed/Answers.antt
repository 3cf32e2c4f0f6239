use Rattle.std.specs.Prelude.{◌≡◌}
use Rattle.std.proofs.Common.{ap}
use Rattle.wasmprinter_spec.specs.Placed.{CustomEntry}
use Rattle.wasmprinter_spec.specs.Layout.Customs.{malformed_pieces}
use Rattle.wasmprinter_module_text.proofs.raw.write_malformed.Goals as goal

pub returns : goal.returns
unfolding malformed_pieces
returns g c =
    let law = g.met.O.Output in
    let same : c.entry.inside.section ≡ c.args.entry.now.section = ap (λ (e : CustomEntry). e.section) c.entry.view_is in
    law.piece_then _ _ _ _ _ (rw (c.bytes_place.ensures, same) at c.write_break.ensures)
    (law.piece_then _ _ _ _ _ (rw (c.name.ensures, same) at c.write_plain_line_comment.ensures) c.write_raw.ensures)
