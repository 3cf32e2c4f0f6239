-- Numbers in operators: they read back, and none is the word of an operator.
use Rattle.std.proofs.Common.{◌≡◌, ℕ, ℤ, pos, negsuc, ◌<◌, ◌^◌, [], Some, decimal, arith, lit≤}
use Rattle.std.proofs.lemmas.Bool.{lt-ltb}
use Rattle.std.proofs.lemmas.Int.{ints}
use Rattle.std.specs.Fmt.{signed_decimal}
use Rattle.std.specs.Int.Signed.{mag}
use Rattle.wasmprinter_spec.specs.Numeral.{u8, u32, u64, integer}
use Rattle.wasmprinter_spec.specs.Table.{rows_of}
use Rattle.wasmprinter_laws.proofs.Tokens.Numbers.{natural-decimal, integer-positive, integer-negative}
use Rattle.wasmprinter_laws.specs.Listed.{FitsSigned, IsU32, IsByte}
use Rattle.wasmprinter_laws.proofs.Tabled.{no_rows-decimal, no_rows-signed_decimal}

-- ---- numbers without a sign

pub index_is_no_word : (n : ℕ) → IsU32 n → rows_of (decimal n) ≡ []
index_is_no_word n h = no_rows-decimal n (omega arith)

pub byte_is_no_word : (k : ℕ) → IsByte k → rows_of (decimal k) ≡ []
byte_is_no_word k h = no_rows-decimal k (omega arith)

pub u8-decimal : (k : ℕ) → IsByte k → u8 (decimal k) ≡ Some k
u8-decimal k h = rw (natural-decimal k (omega arith), lt-ltb k (2 ^ 8) h)

pub u32-decimal : (n : ℕ) → IsU32 n → u32 (decimal n) ≡ Some n
u32-decimal n h = rw (natural-decimal n (omega arith), lt-ltb n (2 ^ 32) h)

pub u64-decimal : (n : ℕ) → n < 2 ^ 64 → u64 (decimal n) ≡ Some n
u64-decimal n h = rw (natural-decimal n h, lt-ltb n (2 ^ 64) h)

-- ---- constants

pub mag_below : (z : ℤ) → FitsSigned 63 z → mag z < 2 ^ 63
mag_below (pos n) h = omega (arith, ints, h.1)
mag_below (negsuc n) h = omega (arith, ints, h.0)

pub widened : (z : ℤ) → FitsSigned 31 z → FitsSigned 63 z
widened z h = (omega (arith, ints, h.0, h.1), omega (arith, ints, h.0, h.1))

pub integer-32 : (z : ℤ) → FitsSigned 31 z → integer 32 (signed_decimal z) ≡ Some z
integer-32 (pos n) h = integer-positive 32 n (omega (arith, ints, h.1)) (lit≤ tt) (omega (arith, ints, h.1))
integer-32 (negsuc n) h = integer-negative 32 n (omega (arith, ints, h.0)) (omega (arith, ints, h.0))

pub integer-64 : (z : ℤ) → FitsSigned 63 z → integer 64 (signed_decimal z) ≡ Some z
integer-64 (pos n) h = integer-positive 64 n (omega (arith, ints, h.1)) (lit≤ tt) (omega (arith, ints, h.1))
integer-64 (negsuc n) h = integer-negative 64 n (omega (arith, ints, h.0)) (omega (arith, ints, h.0))

pub constant_is_no_word : (z : ℤ) → FitsSigned 63 z → rows_of (signed_decimal z) ≡ []
constant_is_no_word z h = no_rows-signed_decimal z (mag_below z h)
