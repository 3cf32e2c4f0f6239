use Rattle.std.proofs.Common.{◌<◌, arith, ap, ◌∙◌, ◌-◌}
use Rattle.wasmprinter_spec.proofs.Fractions.{shift-highest_bit, highest_bit-within}
use Rattle.wasmprinter_text.specs.Formats.{width_of}
use Rattle.wasmprinter_text.proofs.float_bit_format.Format.shift.Goals as goal

within : (c : goal.After-ilog2) → c.ilog2.result < (width_of c.args.self).fraction
within c = highest_bit-within (width_of c.args.self).fraction c.args.fraction c.ilog2.result c.requires.below c.ilog2.ensures.power_le

pub overflow_sub-result : goal.overflow_sub-result
overflow_sub-result c = omega (arith, within c, c.fraction_bits.ensures.is)

pub returns-clause-is : goal.returns-clause-is
returns-clause-is c =
    ap (λ n. n - c.ilog2.result) c.fraction_bits.ensures.is
    ∙ shift-highest_bit (width_of c.args.self) c.args.fraction c.ilog2.result c.requires.some c.requires.below c.ilog2.ensures.power_le c.ilog2.ensures.next_power_gt (within c)
