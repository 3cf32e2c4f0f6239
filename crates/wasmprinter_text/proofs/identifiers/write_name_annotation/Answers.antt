use Rattle.std.proofs.Common.{refl}
use Rattle.wasmprinter_text.proofs.identifiers.write_name_annotation.Goals as goal

pub returns : goal.returns
returns g c =
    let law = g.met.O.Output in
    let ends = law.call_then _ _ _ _ _ c.write_chars.ensures c.write_str-2.ensures in
    law.piece_of _ _ _ refl (law.call_then _ _ _ _ _ c.write_str.ensures (law.calls_then _ _ _ _ _ c.write_in_style.ensures ends))
