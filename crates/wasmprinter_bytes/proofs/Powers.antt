-- Bounds on numbers of n bits, and on numbers that consist of seven low bits and the bits above them.
use Rattle.std.proofs.Common.{◌≡◌, ℕ, ◌+◌, ◌-◌, ◌*◌, ◌^◌, ◌<◌, ◌≤◌, arith, ap, ◌∙◌}
use Rattle.std.specs.Prelude.{ℤ, pos, neg_ℤ, ◌+ℤ◌, ◌*ℤ◌, ◌≤ℤ◌, ◌<ℤ◌}
use Rattle.std.proofs.Common.{to_z, of_z, w64}
use Rattle.std.proofs.lemmas.Int.{ints}
use Rattle.std.proofs.Math.Pow.{pow_mono}
use Rattle.wasmprinter_spec.proofs.Powers.{pow_seven}

-- Seven bits from a byte of at least 128, and `bits - 7` bits above them, fit in `bits` bits.
pub joined_fits : (bits b h : ℕ) → 7 < bits → b < 256 → h < 2 ^ (bits - 7) → b - 128 + 128 * h < 2 ^ bits
joined_fits bits b h lt byte fits = omega (arith, pow_seven bits (omega arith))

-- The bits above the low seven of a number of at most 64 bits fit in 57 bits.
pub kept_bits : (bits h : ℕ) → 7 < bits → bits ≤ 64 → h < 2 ^ (bits - 7) → h < 2 ^ 57
kept_bits bits h lt le fits =
    let i : bits - 7 ≤ 57 = omega arith in
    let m : 2 ^ (bits - 7) ≤ 2 ^ 57 = pow_mono i in
    omega arith

-- A seven-bit number fits in seven bits or more.
pub small_fits : (bits b : ℕ) → 7 ≤ bits → b < 128 → b < 2 ^ bits
small_fits bits b le lt = let m : 2 ^ 7 ≤ 2 ^ bits = pow_mono le in omega arith

-- A signed number of `bits` bits.
pub record InRange (bits : ℕ) (n : ℤ) : Type 0 where
  pub above : neg_ℤ (pos (2 ^ (bits - 1))) ≤ℤ n
  pub below : n <ℤ pos (2 ^ (bits - 1))

-- Seven bits, and a signed number of `bits - 7` bits above them, are a signed number of `bits` bits.
pub joined_range : (bits low : ℕ) (high n : ℤ) → 7 < bits → low < 128 → InRange (bits - 7) high → n ≡ pos low +ℤ pos 128 *ℤ high → InRange bits n
joined_range bits low high n lt seven r e =
    let p : ℕ = 2 ^ (bits - 7 - 1) in
    let i : bits - 1 - 7 ≡ bits - 7 - 1 = omega arith in
    let q : 2 ^ (bits - 1) ≡ 128 * p = pow_seven (bits - 1) (omega arith) ∙ ap (λ (k : ℕ). 128 * 2 ^ k) i in
    record { above = omega (arith, ints, q, r.above, r.below); below = omega (arith, ints, q, r.above, r.below) }

-- A signed number that is at least `-limit` and less than `limit`.
pub record IsMost (limit : ℕ) (n : ℤ) : Type 0 where
  pub above : neg_ℤ (pos limit) ≤ℤ n
  pub below : n <ℤ pos limit

-- A signed number of `bits` bits is within the bounds of `k + 1` bits, if `bits` is at most `k + 1`.
pub range_most : (bits k : ℕ) (n : ℤ) → bits ≤ k + 1 → InRange bits n → IsMost (2 ^ k) n
range_most bits k n le r =
    let i : bits - 1 ≤ k = omega arith in
    let m : 2 ^ (bits - 1) ≤ 2 ^ k = pow_mono i in
    record { above = omega (arith, ints, m, r.above, r.below); below = omega (arith, ints, m, r.above, r.below) }

-- Casting a signed number of 64 bits to 64 bits does not change it.
pub same_word : (n : ℤ) → IsMost (2 ^ 63) n → to_z w64 (of_z w64 n) ≡ n
same_word n m = omega (arith, ints, m.above, m.below)

-- The bits above the low seven of a number of at most 64 bits stay within the bounds of
-- 57 bits after a cast to 64 bits.
pub kept_most : (bits : ℕ) (high : ℤ) → 7 < bits → bits ≤ 64 → InRange (bits - 7) high → IsMost (2 ^ 56) (to_z w64 (of_z w64 high))
kept_most bits high lt le r =
    let m = range_most (bits - 7) 56 high (omega arith) r in
    let e : to_z w64 (of_z w64 high) ≡ high = omega (arith, ints, m.above, m.below) in
    rw e m

-- `joined_range`, with the casts that the code makes.
pub joined_kept : (bits low : ℕ) (high n : ℤ) → 7 < bits → bits ≤ 64 → low < 128 → InRange (bits - 7) high → n ≡ pos low +ℤ pos 128 *ℤ to_z w64 (of_z w64 high) → InRange bits (to_z w64 (of_z w64 n))
joined_kept bits low high n lt le seven r e =
    let m = range_most (bits - 7) 56 high (omega arith) r in
    let k : to_z w64 (of_z w64 high) ≡ high = omega (arith, ints, m.above, m.below) in
    let j = joined_range bits low high n lt seven r (e ∙ ap (λ (h : ℤ). pos low +ℤ pos 128 *ℤ h) k) in
    rw (same_word n (range_most bits 63 n (omega arith) j)) j
