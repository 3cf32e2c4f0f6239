use Rattle.wasmprinter_text.proofs.floats.write_normal.Goals as goal

pub returns : goal.returns
returns g c =
    let law = g.met.O.Output in
    law.text_then _ _ _ _ _ _ c.write_str.ensures
    (law.text_then _ _ _ _ _ _ c.write_after_point.ensures (rw c.bias.ensures.is at c.write_exponent.ensures))
