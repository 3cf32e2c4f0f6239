use Rattle.std.proofs.Common.{refl}
use Rattle.wasmprinter_module_text.proofs.symbol_flag_printing.write_bits.Goals as goal

pub returns : goal.returns
returns g c =
    let law = g.met.O.Output in
    law.piece_of _ _ _ refl (law.text_then _ _ _ _ _ _ c.write_str.ensures (rw c.from.ensures at c.write_hexadecimal.ensures))
