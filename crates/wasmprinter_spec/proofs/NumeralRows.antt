-- Worked rows of integers in the text format (section 6.3 of the standard, "Integers").
use Rattle.std.specs.Prelude.{◌≡◌, pos, neg_ℤ, codes, Some, None, refl}
use Rattle.wasmprinter_spec.specs.Numeral.{numeral, natural, integer}

-- ---- unsigned numbers

zeros : natural (codes "000") ≡ Some 0
unfolding natural numeral
zeros = refl

underscores : natural (codes "1_000_000") ≡ Some 1000000
unfolding natural numeral
underscores = refl

hexadecimal : natural (codes "0xffff_FFFF") ≡ Some 4294967295
unfolding natural numeral
hexadecimal = refl

hexadecimal_letters : natural (codes "0xaBcDeF09") ≡ Some 2882400009
unfolding natural numeral
hexadecimal_letters = refl

no_digits : natural (codes "0x") ≡ None
unfolding natural numeral
no_digits = refl

great_x : natural (codes "0X1") ≡ None
unfolding natural numeral
great_x = refl

first_underscore : natural (codes "_1") ≡ None
unfolding natural numeral
first_underscore = refl

last_underscore : natural (codes "1_") ≡ None
unfolding natural numeral
last_underscore = refl

two_underscores : natural (codes "1__0") ≡ None
unfolding natural numeral
two_underscores = refl

underscore_after_x : natural (codes "0x_1") ≡ None
unfolding natural numeral
underscore_after_x = refl

letter_in_decimal : natural (codes "1a") ≡ None
unfolding natural numeral
letter_in_decimal = refl

letter_beyond_hexadecimal : natural (codes "0x1g") ≡ None
unfolding natural numeral
letter_beyond_hexadecimal = refl

signed_natural : natural (codes "+1") ≡ None
unfolding natural numeral
signed_natural = refl

-- ---- constants of 32 bits

plus_one : integer 32 (codes "+1") ≡ Some (pos 1)
unfolding integer natural numeral
plus_one = refl

minus_zero : integer 32 (codes "-0") ≡ Some (pos 0)
unfolding integer natural numeral
minus_zero = refl

least_32 : integer 32 (codes "-0x8000_0000") ≡ Some (neg_ℤ (pos 2147483648))
unfolding integer natural numeral
least_32 = refl

below_least_32 : integer 32 (codes "-2147483649") ≡ None
unfolding integer natural numeral
below_least_32 = refl

greatest_with_sign_32 : integer 32 (codes "+2147483647") ≡ Some (pos 2147483647)
unfolding integer natural numeral
greatest_with_sign_32 = refl

beyond_with_sign_32 : integer 32 (codes "+2147483648") ≡ None
unfolding integer natural numeral
beyond_with_sign_32 = refl

-- Without a sign, the upper half of the numbers denotes the negative ones.
upper_half_32 : integer 32 (codes "2147483648") ≡ Some (neg_ℤ (pos 2147483648))
unfolding integer natural numeral
upper_half_32 = refl

greatest_32 : integer 32 (codes "4294967295") ≡ Some (neg_ℤ (pos 1))
unfolding integer natural numeral
greatest_32 = refl

beyond_32 : integer 32 (codes "4294967296") ≡ None
unfolding integer natural numeral
beyond_32 = refl

two_signs : integer 32 (codes "-+1") ≡ None
unfolding integer natural numeral
two_signs = refl

sign_alone : integer 32 (codes "-") ≡ None
unfolding integer natural numeral
sign_alone = refl

-- ---- constants of 64 bits

least_64 : integer 64 (codes "-9223372036854775808") ≡ Some (neg_ℤ (pos 9223372036854775808))
unfolding integer natural numeral
least_64 = refl

below_least_64 : integer 64 (codes "-0x8000_0000_0000_0001") ≡ None
unfolding integer natural numeral
below_least_64 = refl

upper_half_64 : integer 64 (codes "9223372036854775808") ≡ Some (neg_ℤ (pos 9223372036854775808))
unfolding integer natural numeral
upper_half_64 = refl

greatest_64 : integer 64 (codes "18446744073709551615") ≡ Some (neg_ℤ (pos 1))
unfolding integer natural numeral
greatest_64 = refl

beyond_64 : integer 64 (codes "18446744073709551616") ≡ None
unfolding integer natural numeral
beyond_64 = refl
