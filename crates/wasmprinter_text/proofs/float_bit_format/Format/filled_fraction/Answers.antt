use Rattle.std.proofs.Common.{◌≡◌, ◌*◌, ◌<◌, ◌^◌, arith, refl}
use Rattle.wasmprinter_spec.specs.FloatText.{digit_count, filled_fraction}
use Rattle.wasmprinter_spec.proofs.Fractions.{filled_fraction-below}
use Rattle.wasmprinter_text.specs.Formats.{width_of}
use Rattle.wasmprinter_text.proofs.Formats.{digits_fit}
use Rattle.wasmprinter_text.proofs.float_bit_format.Format.filled_fraction.Goals as goal

is_filled : (c : goal.After-power) → c.args.fraction * c.power.result ≡ filled_fraction (width_of c.args.self) c.args.fraction
is_filled c = rw (c.power.ensures, c.digit_count.ensures.is, c.fraction_bits.ensures.is) refl

below : (c : goal.After-power) → c.args.fraction * c.power.result < 16 ^ digit_count (width_of c.args.self)
below c = rw (is_filled c) (filled_fraction-below (width_of c.args.self) c.args.fraction c.requires)

pub overflow_mul-result : goal.overflow_mul-result
overflow_mul-result c = record { fits = omega (arith, below c, digits_fit c.args.self) }

pub returns-clause-is : goal.returns-clause-is
returns-clause-is c = is_filled c

pub returns-clause-below : goal.returns-clause-below
returns-clause-below c = below c
