use Rattle.wasmprinter_text.proofs.floats.+write_digits_after.Given as goal

abbrev pub decreases-write_digits_after : goal.decreases-write_digits_after
decreases-write_digits_after g l = l.count
