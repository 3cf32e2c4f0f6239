use Rattle.std.proofs.Common.{◌<◌, ◌/◌, ◌%◌, ◌^◌, ◌-◌, arith, rules}
use Rattle.wasmprinter_text.proofs.FractionDigits.{digits_after-none, digits_after-more, count_some, digit_below, rest_below}
use Rattle.wasmprinter_text.proofs.floats.+write_digits_after.Goals as goal

pub returns-then-n-eq0 : goal.returns-then-n-eq0
returns-then-n-eq0 g t c = rw (c.if-n-eq0.true, digits_after-none c.args.count) (g.met.O.Output.no_text _)

pub overflow_cast-n : goal.overflow_cast-n
overflow_cast-n g t c =
    let some = count_some c.args.count c.args.n (omega arith) c.requires.below in
    let small : c.args.n / c.power-unit.result < 16 = rw c.power-unit.ensures (digit_below c.args.count c.args.n some c.requires.below) in
    record { fits = omega arith }

pub write_digit-requires : goal.write_digit-requires
write_digit-requires g t c =
    rw c.power-unit.ensures (digit_below c.args.count c.args.n (count_some c.args.count c.args.n (omega arith) c.requires.below) c.requires.below)

pub write_digits_after-requires : goal.write_digits_after-requires
write_digits_after-requires g t c =
    let some = count_some c.args.count c.args.n (omega arith) c.requires.below in
    let rest : c.args.n % c.power-unit.result < 16 ^ (c.args.count - 1) = rw c.power-unit.ensures (rest_below c.args.count c.args.n) in
    λ κs within. (omega arith, (search rules, (omega arith, rest)))

pub returns : goal.returns
returns g t c =
    rw (digits_after-more c.args.count c.args.n (omega arith) c.requires.below)
    (g.met.O.Output.text_then _ _ _ _ _ _ (rw c.power-unit.ensures at c.write_digit.ensures) (rw c.power-unit.ensures at c.write_digits_after.ensures))
