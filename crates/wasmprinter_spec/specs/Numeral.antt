-- Integers in the text format (section 6.3 of the standard, "Integers"): decimal or hexadecimal, with or without a
-- sign. Underscores may separate digits.
use Rattle.std.specs.Prelude.{ℕ, zero, suc, ℤ, pos, neg_ℤ, ◌-ℤ◌, ◌-◌, ◌^◌, Bool, true, false, ◌&&◌, ◌||◌, ◌==◌, nat_lt, nat_le, List, [], ◌∷◌, Option, Some, None, if◌then◌else◌, cond}
use Rattle.std.specs.Char.{digit_value}
use Rattle.std.specs.Str.Parse.{digits_value}
use Rattle.wasmprinter_spec.specs.Grammar.{◌>>=◌}

-- The byte is an underscore.
abbrev pub is_underscore : ℕ → Bool
is_underscore b = b == 95

-- The byte is a digit of the base.
abbrev pub is_digit : ℕ → ℕ → Bool
is_digit base b = nat_lt (digit_value b) base

-- The first byte is a digit of the base; `false` for the empty text.
abbrev pub begins_with_digit : ℕ → List ℕ → Bool
begins_with_digit base [] = false
begins_with_digit base (b ∷ bs) = is_digit base b

-- Digits and underscores, with a digit after each underscore.
abbrev pub follows_digit : ℕ → List ℕ → Bool
follows_digit base [] = true
follows_digit base (b ∷ bs) =
    (is_digit base b && follows_digit base bs) || (is_underscore b && begins_with_digit base bs && follows_digit base bs)

-- A digit, and then digits and underscores between digits.
abbrev pub is_numeral : ℕ → List ℕ → Bool
is_numeral base [] = false
is_numeral base (b ∷ bs) = is_digit base b && follows_digit base bs

-- The text without its underscores.
abbrev pub without_underscores : List ℕ → List ℕ
without_underscores [] = []
without_underscores (b ∷ bs) = cond (is_underscore b) (without_underscores bs) (b ∷ without_underscores bs)

-- The number that digits of the base represent.
unfoldable pub numeral : ℕ → List ℕ → Option ℕ
numeral base bs = if is_numeral base bs then Some (digits_value base (without_underscores bs)) else None

-- A number without a sign: decimal digits, or 0x and hexadecimal digits.
unfoldable pub natural : List ℕ → Option ℕ
natural [] = None
natural (b ∷ []) = numeral 10 (b ∷ [])
natural (b ∷ c ∷ bs) = if (b == 48) && (c == 120) then numeral 16 bs else numeral 10 (b ∷ c ∷ bs)

-- The number, if it is below 2 ^ bits.
abbrev pub number_below : ℕ → ℕ → Option ℕ
number_below bits n = if nat_lt n (2 ^ bits) then Some n else None

-- Unsigned integers of 8, 32 and 64 bits (the standard's `uN`): `u8`, `u32` and `u64`.
abbrev pub u8 : List ℕ → Option ℕ
u8 w = natural w >>= number_below 8

abbrev pub u32 : List ℕ → Option ℕ
u32 w = natural w >>= number_below 32

abbrev pub u64 : List ℕ → Option ℕ
u64 w = natural w >>= number_below 64

-- The exponent of the number, if it is a power of two with an exponent below n.
abbrev pub exponent_below : ℕ → ℕ → Option ℕ
exponent_below zero power = None
exponent_below (suc n) power = if 2 ^ n == power then Some n else exponent_below n power

-- The exponent of a power of two below 2 ^ 64.
abbrev pub exponent_of : List ℕ → Option ℕ
exponent_of w = u64 w >>= exponent_below 64

-- An unsigned integer of the given number of bits as a signed one: the upper half represents the negative numbers.
abbrev pub as_signed : ℕ → ℕ → ℤ
as_signed bits n = if nat_lt n (2 ^ (bits - 1)) then pos n else (pos n -ℤ pos (2 ^ bits))

-- The number after the sign +, which must be below 2 ^ (bits - 1). The first argument is the number of bits.
abbrev pub positive : ℕ → ℕ → Option ℤ
positive bits n = if nat_lt n (2 ^ (bits - 1)) then Some (pos n) else None

-- The negative of the number after the sign -, which must be at most 2 ^ (bits - 1). The first argument is the number
-- of bits.
abbrev pub negative : ℕ → ℕ → Option ℤ
negative bits n = if nat_le n (2 ^ (bits - 1)) then Some (neg_ℤ (pos n)) else None

-- The number without a sign, which must be below 2 ^ bits, as a signed one (`as_signed`). The first argument is the
-- number of bits.
abbrev pub unsigned_integer : ℕ → ℕ → Option ℤ
unsigned_integer bits n = if nat_lt n (2 ^ bits) then Some (as_signed bits n) else None

-- `f` of the number, or `None` if there is no number.
abbrev pub with_number : (ℕ → Option ℤ) → Option ℕ → Option ℤ
with_number f None = None
with_number f (Some n) = f n

-- An integer constant of the given number of bits: with a sign, or without one and below 2 ^ bits (the standard's
-- `iN`).
unfoldable pub integer : ℕ → List ℕ → Option ℤ
integer bits [] = None
integer bits (b ∷ bs) =
    if b == 45 then with_number (negative bits) (natural bs)
    else (if b == 43 then with_number (positive bits) (natural bs)
    else with_number (unsigned_integer bits) (natural (b ∷ bs)))
