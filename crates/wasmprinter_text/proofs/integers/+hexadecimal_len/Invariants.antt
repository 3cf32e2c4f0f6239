use Rattle.wasmprinter_text.proofs.integers.+hexadecimal_len.Given as goal

abbrev pub decreases-hexadecimal_len : goal.decreases-hexadecimal_len
decreases-hexadecimal_len l = l.n
