use Rattle.std.proofs.Common.{◌-◌, arith}
use Rattle.wasmprinter_bytes.proofs.Powers.{kept_most, joined_kept}
use Rattle.wasmprinter_bytes.proofs.cursor.Cursor.+signed.Goals as goal

pub with_low_bits_signed-requires-clause-above : goal.with_low_bits_signed-requires-clause-above
with_low_bits_signed-requires-clause-above t c =
    (kept_most c.args.bits c.in_ok-high.high (omega arith) (omega arith) (record { above = c.in_ok-high.ensures.above; below = c.in_ok-high.ensures.below })).above

pub with_low_bits_signed-requires-clause-below : goal.with_low_bits_signed-requires-clause-below
with_low_bits_signed-requires-clause-below t c =
    (kept_most c.args.bits c.in_ok-high.high (omega arith) (omega arith) (record { above = c.in_ok-high.ensures.above; below = c.in_ok-high.ensures.below })).below

pub returns-in_ok-high-clause-above : goal.returns-in_ok-high-clause-above
returns-in_ok-high-clause-above t c =
    (joined_kept c.args.bits (c.in_ok-byte.byte - 128) c.in_ok-high.high c.with_low_bits_signed.result (omega arith) (omega arith) (omega arith) (record { above = c.in_ok-high.ensures.above; below = c.in_ok-high.ensures.below }) c.with_low_bits_signed.ensures).above

pub returns-in_ok-high-clause-below : goal.returns-in_ok-high-clause-below
returns-in_ok-high-clause-below t c =
    (joined_kept c.args.bits (c.in_ok-byte.byte - 128) c.in_ok-high.high c.with_low_bits_signed.result (omega arith) (omega arith) (omega arith) (record { above = c.in_ok-high.ensures.above; below = c.in_ok-high.ensures.below }) c.with_low_bits_signed.ensures).below
