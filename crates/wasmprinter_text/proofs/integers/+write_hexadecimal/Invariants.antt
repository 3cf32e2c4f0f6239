use Rattle.wasmprinter_text.proofs.integers.+write_hexadecimal.Given as goal

abbrev pub decreases-write_hexadecimal : goal.decreases-write_hexadecimal
decreases-write_hexadecimal g l = l.n
