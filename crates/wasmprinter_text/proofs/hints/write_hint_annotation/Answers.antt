use Rattle.std.proofs.Common.{refl}
use Rattle.wasmprinter_text.proofs.hints.write_hint_annotation.Goals as goal

pub returns : goal.returns
returns g c = g.met.O.Output.piece_of _ _ _ refl (rw c.hint_text.ensures.note at c.write_in_style.ensures)
