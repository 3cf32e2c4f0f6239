-- A number that bytes encode in LEB128 with `bits` bits is in the range of numbers with that many bits.
use Rattle.std.proofs.Common.{◌≡◌, ℕ, ℤ, pos, negsuc, ◌+ℤ◌, ◌*ℤ◌, ◌-◌, ◌^◌, ◌<◌, ◌≤◌, List, [], ◌∷◌, inl, inr, subst, arith}
use Rattle.std.proofs.lemmas.Int.{ints}
use Rattle.wasmprinter_spec.specs.Leb.{Unsigned, unsigned, Signed, signed}
use Rattle.wasmprinter_spec.specs.Binary.{AreBytes}
use Rattle.wasmprinter_spec.proofs.Powers.{pow_seven}
use Rattle.wasmprinter_laws.proofs.AllSpelled.{AllSpelled}
use Rattle.wasmprinter_laws.specs.Listed.{FitsSigned}

-- An unsigned number is below 2 ^ bits: its last byte is, and each byte before it adds seven bits.
unsigned_range : (text : List ℕ) (bits p n : ℕ) → AreBytes text → Unsigned bits p text n → n < 2 ^ bits
unsigned_range [] bits p n bytes s = absurd s
unsigned_range (b ∷ text) bits p n bytes s =
    elim s [
      | inl (below, fits, last, is) ↦ omega (arith, fits, is)
      | inr (above, room, high, is, spelled) ↦
          let less : high < 2 ^ (bits - 7) = unsigned_range text (bits - 7) p high bytes.1 spelled in
          omega (arith, bytes.0, is, pow_seven bits (omega (arith, room)))
    ]

-- A number below 128, plus 128 times a signed number, is a signed number with seven more bits.
joined_range : (bits low : ℕ) (high z : ℤ) → 7 ≤ bits → low < 128 → FitsSigned (bits - 7) high → z ≡ pos low +ℤ pos 128 *ℤ high → FitsSigned bits z
joined_range bits low high z more seven r e =
    let q = pow_seven bits more in
    (omega (arith, ints, q, r.0, r.1), omega (arith, ints, q, r.0, r.1))

-- A last byte below 64 represents itself.
low_range : (bits b : ℕ) (z : ℤ) → b < 2 ^ bits → z ≡ pos b → FitsSigned bits z
low_range bits b z less e = (omega (arith, ints), omega (arith, ints))

-- A last byte of 64 or more represents a negative number.
high_range : (bits n : ℕ) (z : ℤ) → n < 2 ^ bits → z ≡ negsuc n → FitsSigned bits z
high_range bits n z less e = (omega (arith, ints), omega (arith, ints))

-- A signed number is in the range of its bits, the highest of which is the sign.
signed_range : (text : List ℕ) (bits p : ℕ) (z : ℤ) → AreBytes text → Signed bits p text z → FitsSigned (bits - 1) z
signed_range [] bits p z bytes s = absurd s
signed_range (b ∷ text) bits p z bytes s =
    elim s [
      | inl (below, fits, last, is) ↦ low_range (bits - 1) b z fits is
      | inr (inl (from, below, fits, last, is)) ↦ high_range (bits - 1) (127 - b) z fits is
      | inr (inr (above, room, high, is, spelled)) ↦
          let less : bits - 7 - 1 ≡ bits - 1 - 7 = omega (arith, room) in
          let fits : FitsSigned (bits - 1 - 7) high =
          subst (λ (n : ℕ). FitsSigned n high) less (signed_range text (bits - 7) p high bytes.1 spelled) in
          joined_range (bits - 1) (b - 128) high z (omega (arith, room)) (omega (arith, bytes.0)) fits is
    ]

-- An unsigned number of this width is in its range.
pub AllSpelled-unsigned : (bits : ℕ) → AllSpelled (unsigned bits) (λ n. n < 2 ^ bits)
AllSpelled-unsigned bits = record { has = λ p text n bytes s. unsigned_range text bits p n bytes s }

-- A signed number of this width is in its range.
pub AllSpelled-signed : (bits : ℕ) → AllSpelled (signed bits) (FitsSigned (bits - 1))
AllSpelled-signed bits = record { has = λ p text z bytes s. signed_range text bits p z bytes s }
