use Rattle.wasmprinter_bytes.proofs.cursor.Cursor.+unsigned.Given as goal

abbrev pub decreases-unsigned : goal.decreases-unsigned
decreases-unsigned l = l.bits
