-- In both formats the padded digits and the fraction fit in 52 bits.
use Rattle.std.proofs.Common.{◌^◌, ◌≤◌, lit≤}
use Rattle.wasmprinter_spec.specs.FloatText.{digit_count}
use Rattle.wasmprinter_text.specs.declared.float_bit_format.Format.{Format}
use Rattle.wasmprinter_text.specs.declared.float_bit_format.Format.TheVariants.{Single, Double}
use Rattle.wasmprinter_text.specs.Formats.{width_of}

pub digits_fit : (f : Format) → 16 ^ digit_count (width_of f) ≤ 2 ^ 52
digits_fit Single = lit≤ tt
digits_fit Double = lit≤ tt

pub fraction_fits : (f : Format) → 2 ^ (width_of f).fraction ≤ 2 ^ 52
fraction_fits Single = lit≤ tt
fraction_fits Double = lit≤ tt
