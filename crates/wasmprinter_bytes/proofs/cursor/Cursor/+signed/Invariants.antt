use Rattle.wasmprinter_bytes.proofs.cursor.Cursor.+signed.Given as goal

abbrev pub decreases-signed : goal.decreases-signed
decreases-signed l = l.bits
