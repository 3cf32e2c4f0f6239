use Rattle.std.proofs.Common.{arith}
use Rattle.wasmprinter_text.proofs.Digits.{digits-one, digits-more}
use Rattle.wasmprinter_text.proofs.integers.+write_hexadecimal.Goals as goal

pub returns-then-n-lt-HEXADECIMAL : goal.returns-then-n-lt-HEXADECIMAL
returns-then-n-lt-HEXADECIMAL g t c = rw (digits-one 16 c.args.n (omega arith)) c.write_digit.ensures

pub returns : goal.returns
returns g t c =
    rw (digits-more 16 c.args.n (omega arith) (omega arith) (omega arith))
    (g.met.O.Output.text_then _ _ _ _ _ _ c.write_hexadecimal.ensures c.write_digit-2.ensures)
