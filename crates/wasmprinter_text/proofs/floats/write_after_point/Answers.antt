use Rattle.std.proofs.Common.{arith}
use Rattle.wasmprinter_text.specs.Formats.{width_of}
use Rattle.wasmprinter_text.proofs.FractionDigits.{after_point-none, after_point-some}
use Rattle.wasmprinter_text.proofs.floats.write_after_point.Goals as goal

pub returns-then-fraction-eq0 : goal.returns-then-fraction-eq0
returns-then-fraction-eq0 g c = rw (c.if-fraction-eq0.true, after_point-none (width_of c.args.format)) (g.met.O.Output.no_text _)

pub returns : goal.returns
returns g c =
    rw (after_point-some (width_of c.args.format) c.args.fraction (omega arith) c.requires)
    (g.met.O.Output.text_then _ _ _ _ _ _ c.write_str.ensures c.write_fraction.ensures)
