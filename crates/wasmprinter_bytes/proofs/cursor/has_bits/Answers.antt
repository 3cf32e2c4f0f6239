use Rattle.std.proofs.Common.{sym, ◌∙◌, ◌^◌, ◌≤◌, arith}
use Rattle.std.proofs.lemmas.Bool.{le-leb, lt-ltb}
use Rattle.wasmprinter_bytes.proofs.Powers.{small_fits}
use Rattle.wasmprinter_bytes.proofs.cursor.has_bits.Goals as goal

pub returns-then-bits-ge-BITS : goal.returns-then-bits-ge-BITS
returns-then-bits-ge-BITS c =
    let le : 7 ≤ c.args.bits = omega arith in
    le-leb 7 c.args.bits le ∙ sym (lt-ltb c.args.low (2 ^ c.args.bits) (small_fits c.args.bits c.args.low le (omega arith)))
