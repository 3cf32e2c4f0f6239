-- The floating-point formats of the code, as widths of the definitions.
use Rattle.wasmprinter_spec.specs.Float.{Width, single, double}
use Rattle.wasmprinter_text.specs.declared.float_bit_format.Format.{Format}
use Rattle.wasmprinter_text.specs.declared.float_bit_format.Format.TheVariants.{Single, Double}

-- The width of a format.
abbrev pub width_of : Format → Width
width_of Single = single
width_of Double = double
