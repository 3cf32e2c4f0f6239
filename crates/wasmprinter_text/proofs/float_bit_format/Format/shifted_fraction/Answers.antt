use Rattle.std.proofs.Common.{◌≡◌, ℕ, ◌*◌, ◌-◌, ◌^◌, refl, ap, ◌∙◌, arith}
use Rattle.wasmprinter_spec.specs.FloatText.{shift, shifted_fraction}
use Rattle.wasmprinter_spec.proofs.Fractions.{IsShift, shift-IsShift, shifted_fraction-below}
use Rattle.wasmprinter_text.specs.Formats.{width_of}
use Rattle.wasmprinter_text.proofs.Formats.{fraction_fits}
use Rattle.wasmprinter_text.proofs.float_bit_format.Format.shifted_fraction.Goals as goal

-- If a power is `2 ^ k` and `k` is `s`, then a number times that power is the number shifted by `s`.
times_power : (n power k s : ℕ) → power ≡ 2 ^ k → k ≡ s → n * power ≡ n * 2 ^ s
times_power n power k s p e = ap (λ t. n * t) (p ∙ ap (λ t. 2 ^ t) e)

pub overflow_mul-result : goal.overflow_mul-result
overflow_mul-result c =
    let is = shift-IsShift (width_of c.args.self) c.args.fraction c.requires.some c.requires.below in
    record { fits = omega (arith, IsShift.high is, fraction_fits c.args.self, times_power c.args.fraction c.power.result c.shift.result (shift (width_of c.args.self) c.args.fraction) c.power.ensures c.shift.ensures.is) }

pub overflow_sub-result : goal.overflow_sub-result
overflow_sub-result c =
    let is = shift-IsShift (width_of c.args.self) c.args.fraction c.requires.some c.requires.below in
    let one : c.power-2.result ≡ 2 ^ (width_of c.args.self).fraction = c.power-2.ensures ∙ ap (λ t. 2 ^ t) c.fraction_bits.ensures.is in
    omega (arith, IsShift.low is, times_power c.args.fraction c.power.result c.shift.result (shift (width_of c.args.self) c.args.fraction) c.power.ensures c.shift.ensures.is)

is_shifted : (c : goal.After-power-2) → c.args.fraction * c.power.result - c.power-2.result ≡ shifted_fraction (width_of c.args.self) c.args.fraction
is_shifted c = rw (c.power.ensures, c.shift.ensures.is, c.power-2.ensures, c.fraction_bits.ensures.is) refl

pub returns-clause-is : goal.returns-clause-is
returns-clause-is c = is_shifted c

pub returns-clause-below : goal.returns-clause-below
returns-clause-below c = rw (is_shifted c) (shifted_fraction-below (width_of c.args.self) c.args.fraction c.requires.some c.requires.below)
