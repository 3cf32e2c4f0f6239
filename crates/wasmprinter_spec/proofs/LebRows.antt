-- Worked rows of LEB128 (section 5.2 of the standard, "Integers"): what single lists of bytes encode, and which
-- encode no number.
use Rattle.std.specs.Prelude.{◌≡◌, ℕ, ℤ, pos, neg_ℤ, List, [], ◌∷◌, ◌++◌, replicate, Option, Some, None, refl}
use Rattle.wasmprinter_spec.specs.Grammar.{Input, input}
use Rattle.wasmprinter_spec.specs.Leb.{unsigned, signed}

abbrev unsigned_in : ℕ → List ℕ → Option (ℕ × Input)
unsigned_in bits bytes = (unsigned bits).parse (input 0 bytes)

abbrev signed_in : ℕ → List ℕ → Option (ℤ × Input)
signed_in bits bytes = (signed bits).parse (input 0 bytes)

-- ---- unsigned

unsigned_zero : unsigned_in 32 (0x00 ∷ []) ≡ Some (0, input 1 [])
unsigned_zero = refl

-- The bytes after the number remain.
unsigned_rest : unsigned_in 32 (0xe5 ∷ 0x8e ∷ 0x26 ∷ 0x80 ∷ []) ≡ Some (624485, input 3 (0x80 ∷ []))
unsigned_rest = refl

unsigned_padded : unsigned_in 32 (0x83 ∷ 0x00 ∷ []) ≡ Some (3, input 2 [])
unsigned_padded = refl

unsigned_32_high_bits : unsigned_in 32 (0x80 ∷ 0x80 ∷ 0x80 ∷ 0x80 ∷ 0x0f ∷ []) ≡ Some (4026531840, input 5 [])
unsigned_32_high_bits = refl

unsigned_32_greatest : unsigned_in 32 (0xff ∷ 0xff ∷ 0xff ∷ 0xff ∷ 0x0f ∷ []) ≡ Some (4294967295, input 5 [])
unsigned_32_greatest = refl

unsigned_32_beyond : unsigned_in 32 (0xff ∷ 0xff ∷ 0xff ∷ 0xff ∷ 0x10 ∷ []) ≡ None
unsigned_32_beyond = refl

unsigned_32_six_bytes : unsigned_in 32 (0x80 ∷ 0x80 ∷ 0x80 ∷ 0x80 ∷ 0x80 ∷ 0x00 ∷ []) ≡ None
unsigned_32_six_bytes = refl

unsigned_cut : unsigned_in 32 (0x80 ∷ 0x80 ∷ []) ≡ None
unsigned_cut = refl

unsigned_64_greatest : unsigned_in 64 (replicate 9 0xff ++ (0x01 ∷ [])) ≡ Some (18446744073709551615, input 10 [])
unsigned_64_greatest = refl

unsigned_64_beyond : unsigned_in 64 (replicate 9 0xff ++ (0x02 ∷ [])) ≡ None
unsigned_64_beyond = refl

-- ---- signed

signed_32_greatest_of_one_byte : signed_in 32 (0x3f ∷ []) ≡ Some (pos 63, input 1 [])
signed_32_greatest_of_one_byte = refl

signed_32_least_of_one_byte : signed_in 32 (0x40 ∷ []) ≡ Some (neg_ℤ (pos 64), input 1 [])
signed_32_least_of_one_byte = refl

signed_32_three_bytes : signed_in 32 (0xc0 ∷ 0xbb ∷ 0x78 ∷ []) ≡ Some (neg_ℤ (pos 123456), input 3 [])
signed_32_three_bytes = refl

signed_32_one_less : signed_in 32 (0x7f ∷ []) ≡ Some (neg_ℤ (pos 1), input 1 [])
signed_32_one_less = refl

signed_32_one_less_padded : signed_in 32 (0xff ∷ 0xff ∷ 0xff ∷ 0xff ∷ 0x7f ∷ []) ≡ Some (neg_ℤ (pos 1), input 5 [])
signed_32_one_less_padded = refl

signed_32_least : signed_in 32 (0x80 ∷ 0x80 ∷ 0x80 ∷ 0x80 ∷ 0x78 ∷ []) ≡ Some (neg_ℤ (pos 2147483648), input 5 [])
signed_32_least = refl

signed_32_greatest : signed_in 32 (0xff ∷ 0xff ∷ 0xff ∷ 0xff ∷ 0x07 ∷ []) ≡ Some (pos 2147483647, input 5 [])
signed_32_greatest = refl

signed_32_beyond : signed_in 32 (0x80 ∷ 0x80 ∷ 0x80 ∷ 0x80 ∷ 0x08 ∷ []) ≡ None
signed_32_beyond = refl

signed_32_below : signed_in 32 (0xff ∷ 0xff ∷ 0xff ∷ 0xff ∷ 0x77 ∷ []) ≡ None
signed_32_below = refl

-- The unused bits of the last byte do not repeat the sign.
signed_32_positive_sign : signed_in 32 (0xff ∷ 0xff ∷ 0xff ∷ 0xff ∷ 0x0f ∷ []) ≡ None
signed_32_positive_sign = refl

signed_32_negative_sign : signed_in 32 (0x80 ∷ 0x80 ∷ 0x80 ∷ 0x80 ∷ 0x70 ∷ []) ≡ None
signed_32_negative_sign = refl

signed_32_six_bytes : signed_in 32 (0xff ∷ 0xff ∷ 0xff ∷ 0xff ∷ 0xff ∷ 0x7f ∷ []) ≡ None
signed_32_six_bytes = refl

signed_33_one_less_padded : signed_in 33 (0xff ∷ 0xff ∷ 0xff ∷ 0xff ∷ 0x7f ∷ []) ≡ Some (neg_ℤ (pos 1), input 5 [])
signed_33_one_less_padded = refl

signed_33_greatest : signed_in 33 (0xff ∷ 0xff ∷ 0xff ∷ 0xff ∷ 0x0f ∷ []) ≡ Some (pos 4294967295, input 5 [])
signed_33_greatest = refl

signed_33_least : signed_in 33 (0x80 ∷ 0x80 ∷ 0x80 ∷ 0x80 ∷ 0x70 ∷ []) ≡ Some (neg_ℤ (pos 4294967296), input 5 [])
signed_33_least = refl

signed_33_beyond : signed_in 33 (0x80 ∷ 0x80 ∷ 0x80 ∷ 0x80 ∷ 0x10 ∷ []) ≡ None
signed_33_beyond = refl

signed_33_positive_sign : signed_in 33 (0xff ∷ 0xff ∷ 0xff ∷ 0xff ∷ 0x1f ∷ []) ≡ None
signed_33_positive_sign = refl

signed_33_negative_sign : signed_in 33 (0x80 ∷ 0x80 ∷ 0x80 ∷ 0x80 ∷ 0x60 ∷ []) ≡ None
signed_33_negative_sign = refl

signed_64_one_less_padded : signed_in 64 (replicate 9 0xff ++ (0x7f ∷ [])) ≡ Some (neg_ℤ (pos 1), input 10 [])
signed_64_one_less_padded = refl

signed_64_least : signed_in 64 (replicate 9 0x80 ++ (0x7f ∷ [])) ≡ Some (neg_ℤ (pos 9223372036854775808), input 10 [])
signed_64_least = refl

signed_64_greatest : signed_in 64 (replicate 9 0xff ++ (0x00 ∷ [])) ≡ Some (pos 9223372036854775807, input 10 [])
signed_64_greatest = refl

signed_64_beyond : signed_in 64 (replicate 9 0xff ++ (0x01 ∷ [])) ≡ None
signed_64_beyond = refl

signed_64_below : signed_in 64 (replicate 9 0x80 ++ (0x7e ∷ [])) ≡ None
signed_64_below = refl

signed_64_eleven_bytes : signed_in 64 (replicate 10 0xff ++ (0x7f ∷ [])) ≡ None
signed_64_eleven_bytes = refl
