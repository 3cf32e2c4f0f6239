use Rattle.wasmprinter_text.proofs.floats.write_fraction.Goals as goal

pub returns : goal.returns
returns g c = rw (c.digit_count.ensures.is, c.filled_fraction.ensures.is) at c.write_digits_after.ensures
