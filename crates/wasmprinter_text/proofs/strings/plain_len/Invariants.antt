use Rattle.wasmprinter_text.proofs.Plain.{BeginsPlain}
use Rattle.wasmprinter_text.proofs.strings.plain_len.Given as goal

abbrev pub invariant-loop-i : goal.invariant-loop-i
invariant-loop-i l = BeginsPlain l.fn.s l.i
