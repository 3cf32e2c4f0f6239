-- Integers in LEB128 (section 5.2 of the standard, "Integers"): the lengths of the shortest encodings.
use Rattle.std.specs.Prelude.{◌≡◌, ℕ, zero, suc, ℤ, pos, negsuc, ◌+ℤ◌, ◌*ℤ◌, List, [], ◌∷◌, ◌+◌, ◌*◌, ◌-◌, ◌/◌, ◌^◌, ◌<◌, ◌≤◌, ◌⊎◌, length, refl}
use Rattle.std.proofs.Common.{sym, ap, ◌∙◌, arith, inl, inr, pow_mono, pow-suc}
use Rattle.std.proofs.lemmas.Bool.{lt-ltb, le-ltb, cases_lt}
use Rattle.std.proofs.lemmas.Int.{ints}
use Rattle.wasmprinter_spec.specs.Leb.{IsUnsigned, IsSigned}
use Rattle.wasmprinter_spec.specs.Binary.{AreBytes}
use Rattle.wasmprinter_hidden.specs.Lengths.{digits, signed_len}

-- ---- Digits in base 128

-- A number below 128 has one digit.
digits_one : (most n : ℕ) → n < 128 → digits most n ≡ 1
digits_one zero n below = refl
digits_one (suc most) n below = rw (lt-ltb n 128 below) refl

-- A number from 128 on has one digit more than its quotient by 128.
digits_more : (most n : ℕ) → 128 ≤ n → digits (suc most) n ≡ suc (digits most (n / 128))
digits_more most n above = rw (le-ltb n 128 above) refl

-- There is at least one digit.
pub digits_some : (most n : ℕ) → 1 ≤ digits most n
digits_some zero n = omega arith
digits_some (suc most) n =
    elim (cases_lt n 128) [
      | inl below ↦ rw (digits_one (suc most) n below) (omega arith)
      | inr above ↦ rw (digits_more most n above) (omega arith)
    ]

-- A number has at most one digit more than its quotient by 128.
digits_step : (most n high : ℕ) → n / 128 ≡ high → digits (suc most) n ≤ suc (digits most high)
digits_step most n high e =
    elim (cases_lt n 128) [
      | inl below ↦ rw (digits_one (suc most) n below) (omega arith)
      | inr above ↦ rw (digits_more most n above, e) (omega arith)
    ]

-- The lowest bit does not count.
digits_even : (most n : ℕ) → digits most (2 * n + 1) ≡ digits most (2 * n)
digits_even zero n = refl
digits_even (suc most) n =
    elim (cases_lt (2 * n) 128) [
      | inl below ↦ rw (digits_one (suc most) (2 * n) below, digits_one (suc most) (2 * n + 1) (omega (arith, below))) refl
      | inr above ↦
          let same : (2 * n + 1) / 128 ≡ 2 * n / 128 = omega arith in
          rw (digits_more most (2 * n) above, digits_more most (2 * n + 1) (omega (arith, above)), same) refl
    ]

-- A greater number has no fewer digits.
pub digits_grow : (most m n : ℕ) → m ≤ n → digits most m ≤ digits most n
digits_grow zero m n le = omega arith
digits_grow (suc most) m n le =
    elim (cases_lt m 128) [
      | inl below ↦ rw (digits_one (suc most) m below) (digits_some (suc most) n)
      | inr above ↦
          let many : 128 ≤ n = omega (arith, above, le) in
          let more : digits most (m / 128) ≤ digits most (n / 128) = digits_grow most (m / 128) (n / 128) (omega (arith, le)) in
          rw (digits_more most m above, digits_more most n many) (omega (arith, more))
    ]

-- A power of the base is at least 1.
power_some : (k : ℕ) → 1 ≤ 128 ^ k
power_some zero = omega arith
power_some (suc k) = omega (arith, pow-suc 128 k, power_some k)

-- There are no more than `most + 1` digits, and a number from this power of the base on has all of them.
pub digits_full : (most n : ℕ) → 128 ^ most ≤ n → digits most n ≡ suc most
digits_full zero n le = refl
digits_full (suc most) n le =
    rw (digits_more most n (omega (arith, power_some most, pow-suc 128 most, le)))
    (ap suc (digits_full most (n / 128) (omega (arith, pow-suc 128 most, le))))

-- ---- Unsigned integers

-- The low seven bits do not count for the quotient by 128.
high_part : (b n high : ℕ) → 128 ≤ b → b < 256 → n ≡ b - 128 + 128 * high → n / 128 ≡ high
high_part b n high above below is = omega (arith, above, below, is)

-- Each encoding of an unsigned integer has at least a byte for each digit, up to `most + 1` digits.
pub unsigned_at_least : (most bits : ℕ) (bytes : List ℕ) (n : ℕ) → AreBytes bytes → IsUnsigned bits bytes n → digits most n ≤ length bytes
unsigned_at_least most bits [] n a s = absurd s
unsigned_at_least zero bits (b ∷ bs) n a s = omega arith
unsigned_at_least (suc most) bits (b ∷ bs) n a s =
    elim s [
      | inl (below, fits, last, is) ↦ rw (is, digits_one (suc most) b below) (omega arith)
      | inr (above, room, high, is, spelled) ↦
          let others : digits most high ≤ length bs = unsigned_at_least most (bits - 7) bs high a.1 spelled in
          let step : digits (suc most) n ≤ suc (digits most high) = digits_step most n high (high_part b n high above a.0 is) in
          omega (arith, others, step)
    ]

-- An unsigned integer of N bits that has an encoding has the shortest one, if `most + 1` digits are enough for N bits.
pub unsigned_one_has : (most bits : ℕ) (bytes : List ℕ) (n : ℕ) → bits ≤ 7 * (most + 1) → AreBytes bytes → IsUnsigned bits bytes n →
    (short : List ℕ) × AreBytes short × IsUnsigned bits short n × (length short ≡ digits most n)
unsigned_one_has most bits [] n enough a s = absurd s
unsigned_one_has zero bits (b ∷ bs) n enough a s =
    elim s [
      | inl (below, fits, last, is) ↦ (b ∷ [], (a.0, tt), inl (below, fits, refl, is), refl)
      | inr (above, room, high, is, spelled) ↦ absurd (omega (arith, enough, room))
    ]
unsigned_one_has (suc most) bits (b ∷ bs) n enough a s =
    elim s [
      | inl (below, fits, last, is) ↦
          (b ∷ [], (a.0, tt), inl (below, fits, refl, is), sym (ap (digits (suc most)) is ∙ digits_one (suc most) b below))
      | inr (above, room, high, is, spelled) ↦
          elim (cases_lt n 128) [
            | inl below ↦
                let seven : 7 ≤ bits = omega (arith, room) in let wide : 2 ^ 7 ≤ 2 ^ bits = pow_mono seven in
                (n ∷ [], (omega (arith, below), tt), inl (below, omega (arith, below, wide), refl, refl), sym (digits_one (suc most) n below))
            | inr many ↦
                let (short, are, shortly, len) = unsigned_one_has most (bits - 7) bs high (omega (arith, enough)) a.1 spelled in
                let more : digits (suc most) n ≡ suc (digits most high) =
                digits_more most n many ∙ ap (λ (h : ℕ). suc (digits most h)) (high_part b n high above a.0 is) in
                (b ∷ short, (a.0, are), inr (above, room, high, is, shortly), ap suc len ∙ sym more)
          ]
    ]

-- Every number up to n has the shortest encoding, as an unsigned integer of N bits, if n has an encoding.
pub unsigned_up_to : (most bits : ℕ) (bytes : List ℕ) (n m : ℕ) → bits ≤ 7 * (most + 1) → AreBytes bytes → IsUnsigned bits bytes n → m ≤ n →
    (short : List ℕ) × AreBytes short × IsUnsigned bits short m × (length short ≡ digits most m)
unsigned_up_to most bits [] n m enough a s le = absurd s
unsigned_up_to zero bits (b ∷ bs) n m enough a s le =
    elim s [
      | inl (below, fits, last, is) ↦
          (m ∷ [], (omega (arith, below, is, le), tt), inl (omega (arith, below, is, le), omega (arith, fits, is, le), refl, refl), refl)
      | inr (above, room, high, is, spelled) ↦ absurd (omega (arith, enough, room))
    ]
unsigned_up_to (suc most) bits (b ∷ bs) n m enough a s le =
    elim s [
      | inl (below, fits, last, is) ↦
          let less : m < 128 = omega (arith, below, is, le) in
          (m ∷ [], (omega (arith, less), tt), inl (less, omega (arith, fits, is, le), refl, refl), sym (digits_one (suc most) m less))
      | inr (above, room, high, is, spelled) ↦
          elim (cases_lt m 128) [
            | inl below ↦
                let seven : 7 ≤ bits = omega (arith, room) in let wide : 2 ^ 7 ≤ 2 ^ bits = pow_mono seven in
                (m ∷ [], (omega (arith, below), tt), inl (below, omega (arith, below, wide), refl, refl), sym (digits_one (suc most) m below))
            | inr many ↦
                let up_to : m / 128 ≤ high = omega (arith, le, high_part b n high above a.0 is) in
                let (short, are, shortly, len) = unsigned_up_to most (bits - 7) bs high (m / 128) (omega (arith, enough)) a.1 spelled up_to in
                let low : ℕ = m - 128 * (m / 128) in
                let parts : m ≡ low + 128 - 128 + 128 * (m / 128) = omega arith in (
                  (low + 128) ∷ short,
                  (omega arith, are),
                  inr (omega arith, room, m / 128, parts, shortly),
                  ap suc len ∙ sym (digits_more most m many),
                )
          ]
    ]

-- ---- Signed integers

-- The number of digits of a signed integer: it is encoded with one bit more.
abbrev pub signed_digits : ℕ → ℤ → ℕ
signed_digits most (pos n) = digits most (2 * n)
signed_digits most (negsuc n) = digits most (2 * n)

-- The length of a signed integer is the number of its digits.
pub signed_len_is : (z : ℤ) → signed_len z ≡ signed_digits 9 z
signed_len_is (pos n) = refl
signed_len_is (negsuc n) = refl

-- The low seven bits and the others of a number that is not negative.
positive_parts : (b h : ℕ) → pos (b - 128) +ℤ pos 128 *ℤ pos h ≡ pos (b - 128 + 128 * h)
positive_parts b h = omega (arith, ints)

-- The low seven bits and the others of a negative number.
negative_parts : (b h : ℕ) → 128 ≤ b → b < 256 → pos (b - 128) +ℤ pos 128 *ℤ negsuc h ≡ negsuc (255 - b + 128 * h)
negative_parts b h above below = omega (arith, ints, above, below)

-- Seven bits below 128, and the bits above them: with one bit more, these are 2 * h or 2 * h + 1 above the low seven.
double_part : (most low h : ℕ) → low < 128 → digits most (2 * (low + 128 * h) / 128) ≡ digits most (2 * h)
double_part most low h below =
    elim (cases_lt low 64) [
      | inl small ↦ let same : 2 * (low + 128 * h) / 128 ≡ 2 * h = omega (arith, small) in ap (digits most) same
      | inr large ↦
          let same : 2 * (low + 128 * h) / 128 ≡ 2 * h + 1 = omega (arith, large, below) in ap (digits most) same ∙ digits_even most h
    ]

-- A signed integer has one digit, or one more than the integer above its low seven bits.
signed_cases : (most b : ℕ) (n high : ℤ) → 128 ≤ b → b < 256 → n ≡ pos (b - 128) +ℤ pos 128 *ℤ high →
    ((m : ℕ) × (m < 64) × ((n ≡ pos m) ⊎ (n ≡ negsuc m))) ⊎ (signed_digits (suc most) n ≡ suc (signed_digits most high))
signed_cases most b n (pos h) above below is =
    let m : ℕ = b - 128 + 128 * h in
    let same : n ≡ pos m = is ∙ positive_parts b h in
    elim (cases_lt m 64) [
      | inl small ↦ inl (m, small, inl same)
      | inr large ↦ inr (ap (signed_digits (suc most)) same ∙ digits_more most (2 * m) (omega (arith, large))
          ∙ ap suc (double_part most (b - 128) h (omega (arith, below))))
    ]
signed_cases most b n (negsuc h) above below is =
    let m : ℕ = 255 - b + 128 * h in
    let same : n ≡ negsuc m = is ∙ negative_parts b h above below in
    elim (cases_lt m 64) [
      | inl small ↦ inl (m, small, inr same)
      | inr large ↦ inr (ap (signed_digits (suc most)) same ∙ digits_more most (2 * m) (omega (arith, large))
          ∙ ap suc (double_part most (255 - b) h (omega (arith, above))))
    ]

-- A small number has one digit.
small_positive : (most m : ℕ) (n : ℤ) → m < 64 → n ≡ pos m → signed_digits most n ≡ 1
small_positive most m n small same = ap (signed_digits most) same ∙ digits_one most (2 * m) (omega (arith, small))

-- The same for a negative number.
small_negative : (most m : ℕ) (n : ℤ) → m < 64 → n ≡ negsuc m → signed_digits most n ≡ 1
small_negative most m n small same = ap (signed_digits most) same ∙ digits_one most (2 * m) (omega (arith, small))

-- Each encoding of a signed integer has at least a byte for each digit, up to `most + 1` digits.
pub signed_at_least : (most bits : ℕ) (bytes : List ℕ) (n : ℤ) → AreBytes bytes → IsSigned bits bytes n → signed_digits most n ≤ length bytes
signed_at_least most bits [] n a s = absurd s
signed_at_least zero bits (b ∷ bs) (pos n) a s = omega arith
signed_at_least zero bits (b ∷ bs) (negsuc n) a s = omega arith
signed_at_least (suc most) bits (b ∷ bs) n a s =
    elim s [
      | inl (below, fits, last, is) ↦ rw (small_positive (suc most) b n below is) (omega arith)
      | inr (inl (from, below, fits, last, is)) ↦ rw (small_negative (suc most) (127 - b) n (omega (arith, from)) is) (omega arith)
      | inr (inr (above, room, high, is, spelled)) ↦
          let others : signed_digits most high ≤ length bs = signed_at_least most (bits - 7) bs high a.1 spelled in
          elim (signed_cases most b n high above a.0 is) [
            | inl (m, small, inl same) ↦ rw (small_positive (suc most) m n small same) (omega arith)
            | inl (m, small, inr same) ↦ rw (small_negative (suc most) m n small same) (omega arith)
            | inr more ↦ rw more (omega (arith, others))
          ]
    ]

-- The bytes are the shortest encoding of n as a signed integer of N bits.
abbrev pub HasSigned : ℕ → ℕ → ℤ → Type 0
HasSigned most bits n = (short : List ℕ) × AreBytes short × IsSigned bits short n × (length short ≡ signed_digits most n)

-- A small number is encoded by one byte.
signed_byte : (most bits m : ℕ) (n : ℤ) → 7 < bits → m < 64 → (n ≡ pos m) ⊎ (n ≡ negsuc m) → HasSigned most bits n
signed_byte most bits m n room small same =
    let six : 6 ≤ bits - 1 = omega (arith, room) in
    let wide : 2 ^ 6 ≤ 2 ^ (bits - 1) = pow_mono six in
    elim same [
      | inl is ↦ (m ∷ [], (omega (arith, small), tt), inl (small, omega (arith, small, wide), refl, is), sym (small_positive most m n small is))
      | inr is ↦
          let back : 127 - (127 - m) ≡ m = omega (arith, small) in
          let fits : 127 - (127 - m) < 2 ^ (bits - 1) = omega (arith, small, wide) in (
            (127 - m) ∷ [],
            (omega arith, tt),
            inr (inl (omega (arith, small), omega arith, fits, refl, is ∙ ap negsuc (sym back))),
            sym (small_negative most m n small is),
          )
    ]

-- A signed integer of N bits that has an encoding has the shortest one, if `most + 1` digits are enough for N bits.
pub signed_one_has : (most bits : ℕ) (bytes : List ℕ) (n : ℤ) → bits ≤ 7 * (most + 1) → AreBytes bytes → IsSigned bits bytes n →
    HasSigned most bits n
signed_one_has most bits [] n enough a s = absurd s
signed_one_has zero bits (b ∷ bs) n enough a s =
    elim s [
      | inl (below, fits, last, is) ↦ (b ∷ [], (a.0, tt), inl (below, fits, refl, is), sym (small_positive 0 b n below is))
      | inr (inl (from, below, fits, last, is)) ↦
          (b ∷ [], (a.0, tt), inr (inl (from, below, fits, refl, is)), sym (small_negative 0 (127 - b) n (omega (arith, from)) is))
      | inr (inr (above, room, high, is, spelled)) ↦ absurd (omega (arith, enough, room))
    ]
signed_one_has (suc most) bits (b ∷ bs) n enough a s =
    elim s [
      | inl (below, fits, last, is) ↦ (b ∷ [], (a.0, tt), inl (below, fits, refl, is), sym (small_positive (suc most) b n below is))
      | inr (inl (from, below, fits, last, is)) ↦
          (b ∷ [], (a.0, tt), inr (inl (from, below, fits, refl, is)), sym (small_negative (suc most) (127 - b) n (omega (arith, from)) is))
      | inr (inr (above, room, high, is, spelled)) ↦
          elim (signed_cases most b n high above a.0 is) [
            | inl (m, small, same) ↦ signed_byte (suc most) bits m n room small same
            | inr more ↦
                let (short, are, shortly, len) = signed_one_has most (bits - 7) bs high (omega (arith, enough)) a.1 spelled in
                (b ∷ short, (a.0, are), inr (inr (above, room, high, is, shortly)), ap suc len ∙ sym more)
          ]
    ]
