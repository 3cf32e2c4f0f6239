use Rattle.wasmprinter_text.proofs.floats.write_subnormal.Goals as goal

pub returns : goal.returns
returns g c =
    let law = g.met.O.Output in
    law.text_then _ _ _ _ _ _ c.write_str.ensures
    (law.text_then _ _ _ _ _ _ (rw c.shifted_fraction.ensures.is at c.write_fraction.ensures)
    (rw (c.bias.ensures.is, c.from.ensures, c.shift.ensures.is) at c.write_exponent.ensures))
