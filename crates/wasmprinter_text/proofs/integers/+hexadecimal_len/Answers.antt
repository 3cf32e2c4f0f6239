use Rattle.std.proofs.Common.{arith, refl, length-append, ◌/◌}
use Rattle.wasmprinter_text.proofs.Digits.{digits-length, digits-one, digits-more}
use Rattle.wasmprinter_text.proofs.integers.+hexadecimal_len.Goals as goal

pub returns-then-n-lt-HEXADECIMAL : goal.returns-then-n-lt-HEXADECIMAL
returns-then-n-lt-HEXADECIMAL t c = rw (digits-one 16 c.args.n (omega arith)) refl

pub overflow_add-result : goal.overflow_add-result
overflow_add-result t c = omega (arith, digits-length 16 (c.args.n / 16), c.hexadecimal_len.ensures)

pub returns : goal.returns
returns t c =
    rw (digits-more 16 c.args.n (omega arith) (omega arith) (omega arith), length-append) (omega (arith, c.hexadecimal_len.ensures))
