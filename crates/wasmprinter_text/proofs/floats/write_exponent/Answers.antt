use Rattle.std.proofs.Common.{lt-ltb, le-ltb}
use Rattle.wasmprinter_text.proofs.floats.write_exponent.Goals as goal

pub returns-then-up-down : goal.returns-then-up-down
returns-then-up-down g c =
    rw (lt-ltb c.args.up c.args.down c.if-up-down.true)
    (g.met.O.Output.text_then _ _ _ _ _ _ c.write_str.ensures c.write_decimal.ensures)

pub returns-else-up-down : goal.returns-else-up-down
returns-else-up-down g c =
    rw (le-ltb c.args.up c.args.down c.if-up-down.false)
    (g.met.O.Output.text_then _ _ _ _ _ _ c.write_str-else-up-down.ensures c.write_decimal-else-up-down.ensures)
