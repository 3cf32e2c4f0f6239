use Rattle.std.proofs.Common.{arith}
use Rattle.wasmprinter_bytes.proofs.Powers.{kept_bits, joined_fits}
use Rattle.wasmprinter_bytes.proofs.cursor.Cursor.+unsigned.Goals as goal

pub with_low_bits-requires-clause-above : goal.with_low_bits-requires-clause-above
with_low_bits-requires-clause-above t c = kept_bits c.args.bits c.in_ok-high.high (omega arith) (omega arith) c.in_ok-high.ensures.range

pub returns-in_ok-high-clause-range : goal.returns-in_ok-high-clause-range
returns-in_ok-high-clause-range t c =
    let fits = joined_fits c.args.bits c.in_ok-byte.byte c.in_ok-high.high (omega arith) (omega arith) c.in_ok-high.ensures.range in
    omega (arith, c.with_low_bits.ensures)
