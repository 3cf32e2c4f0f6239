use Rattle.std.specs.Prelude.{◌≡◌}
use Rattle.std.proofs.Common.{ap}
use Rattle.wasmprinter_spec.specs.Placed.{CustomEntry}
use Rattle.wasmprinter_spec.specs.Layout.Customs.{raw_pieces}
use Rattle.wasmprinter_decoder.specs.Places.{after_view}
use Rattle.wasmprinter_module_text.proofs.raw.write_raw.Goals as goal

pub returns : goal.returns
unfolding raw_pieces
returns g c =
    let law = g.met.O.Output in
    let same : c.entry.inside.section ≡ c.args.entry.now.section = ap (λ (e : CustomEntry). e.section) c.entry.view_is in
    let stands : after_view c.entry.inside.after ≡ c.args.entry.now.after = ap (λ (e : CustomEntry). e.after) c.entry.view_is in
    let shown = law.pieces_then _ _ _ _ _ (rw (c.bytes.ensures, same) at c.write_shown_bytes.ensures) c.write_close_paren.ensures in
    let placed = law.pieces_then _ _ _ _ _ (rw stands at c.write_after.ensures) (law.piece_then _ _ _ _ _ c.write_space-2.ensures shown) in
    law.piece_then _ _ _ _ _ (rw (c.place.ensures, same) at c.write_break.ensures)
    (law.piece_then _ _ _ _ _ c.open_annotation_space.ensures
    (law.piece_then _ _ _ _ _ (rw (c.name.ensures, same) at c.write_string.ensures.pieces)
    (law.piece_then _ _ _ _ _ c.write_space.ensures placed)))
