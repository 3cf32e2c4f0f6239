-- Numbers as text: the classes of their bytes, and that they read back.
use Rattle.std.proofs.Common.{◌≡◌, ⊎_elim, ℕ, suc, ◌<◌, ◌≤◌, ◌^◌, ◌-◌, Bool, true, false, ◌&&◌, ◌||◌, not, ltb, eqb, List, [], ◌∷◌, ◌++◌, Some, refl, sym, ap, ◌∙◌, arith, true≢false, codes, decimal, ℤ, pos, negsuc, lit<, lit≤}
use Rattle.std.proofs.lemmas.Bool.{and_from, cases_lt, lt-ltb, le-ltb, le-leb, agree_below, agree_below_at, false_from_ne_true, eqb-true}
use Rattle.std.proofs.lemmas.Fmt.{decimal_is_IsNumeral, digits_is_IsNumeral}
use Rattle.std.proofs.lemmas.Str.Parse.{digit_at}
use Rattle.std.specs.Char.{digit_value}
use Rattle.std.specs.Str.Parse.{digits_value, AllDigits, IsNumeral}
use Rattle.std.specs.Fmt.{digits, signed_decimal}
use Rattle.std.specs.Int.Signed.{mag}
use Rattle.wasmprinter_spec.specs.Character.{Class, class, Plain}
use Rattle.wasmprinter_spec.specs.Numeral.{is_underscore, is_digit, follows_digit, is_numeral, without_underscores, numeral, natural, integer, unsigned_integer}
use Rattle.wasmprinter_spec.specs.Quoted.{is_id_char, all_id_chars}
use Rattle.wasmprinter_spec.proofs.Classes.{digit_class}
use Rattle.wasmprinter_spec.proofs.Runs.{all_id_chars-digits}
use Rattle.wasmprinter_laws.proofs.Tokens.Runs.{is_quiet, is_plain_class, all_quiet, is_word}

-- ---- single digits

digit_is_plain : (c : ℕ) → digit_value c < 10 → is_plain_class (class c) ≡ true
digit_is_plain c h = ap is_plain_class (digit_class c h)

pub plain_runs : (c : Class) → is_plain_class c ≡ true → is_id_char c ≡ true
plain_runs Plain h = refl
plain_runs _ h = absurd (true≢false (sym h))

plain_is_quiet : (c : Class) → is_plain_class c ≡ true → is_quiet c ≡ true
plain_is_quiet Plain h = refl
plain_is_quiet _ h = absurd (true≢false (sym h))

-- ---- digits

all_quiet_digits : (ds : List ℕ) → AllDigits 10 ds → all_quiet ds ≡ true
all_quiet_digits [] h = refl
all_quiet_digits (c ∷ cs) h = and_from (is_quiet (class c)) (all_quiet cs) (plain_is_quiet (class c) (digit_is_plain c h.0)) (all_quiet_digits cs h.1)

is_word_digits : (ds : List ℕ) → IsNumeral 10 ds → is_word ds ≡ true
is_word_digits [] h = absurd (omega (arith, h.0))
is_word_digits (c ∷ cs) (some, (first, others)) =
    and_from (is_plain_class (class c)) (all_id_chars cs) (digit_is_plain c first) (all_id_chars-digits cs others)

-- A digit is not an underscore.
not_underscore : (base c : ℕ) → base ≤ 36 → digit_value c < base → is_underscore c ≡ false
not_underscore base c small h =
    false_from_ne_true (eqb c 95) (λ e. let k : digit_value 95 < base = rw (eqb-true c 95 e) at h in absurd (omega arith))

digit_true : (base c : ℕ) → digit_value c < base → is_digit base c ≡ true
digit_true base c h = lt-ltb (digit_value c) base h

follows_digits : (base : ℕ) (ds : List ℕ) → AllDigits base ds → follows_digit base ds ≡ true
follows_digits base [] h = refl
follows_digits base (c ∷ cs) h = rw (digit_true base c h.0, follows_digits base cs h.1)

pub is_numeral_digits : (base : ℕ) (ds : List ℕ) → IsNumeral base ds → is_numeral base ds ≡ true
is_numeral_digits base [] h = absurd (omega (arith, h.0))
is_numeral_digits base (c ∷ cs) (some, (first, others)) =
    and_from (is_digit base c) (follows_digit base cs) (digit_true base c first) (follows_digits base cs others)

pub without_underscores_digits : (base : ℕ) (ds : List ℕ) → base ≤ 36 → AllDigits base ds → without_underscores ds ≡ ds
without_underscores_digits base [] small h = refl
without_underscores_digits base (c ∷ cs) small h = rw (not_underscore base c small h.0, without_underscores_digits base cs small h.1)

pub numeral_from : (base n : ℕ) (ds : List ℕ) → base ≤ 36 → IsNumeral base ds → digits_value base ds ≡ n → numeral base ds ≡ Some n
unfolding numeral
numeral_from base n ds small h e = rw (is_numeral_digits base ds h, without_underscores_digits base ds small h.1, e)

-- ---- decimal numbers

pub numeral-decimal : (n : ℕ) → n < 2 ^ 64 → numeral 10 (decimal n) ≡ Some n
numeral-decimal n h =
    let facts : IsNumeral 10 (decimal n) × (digits_value 10 (decimal n) ≡ n) = decimal_is_IsNumeral n h in
    numeral_from 10 n (decimal n) (lit≤ tt) facts.0 facts.1

-- An x is not a decimal digit.
not_x : (c : ℕ) → digit_value c < 10 → eqb c 120 ≡ false
not_x c h =
    let within : (48 ≤ c) × (c ≤ 57) = digit_at (c ∷ []) 0 (h, tt) (lit< tt) in
    false_from_ne_true (eqb c 120) (λ e. let same : c ≡ 120 = eqb-true c 120 e in absurd (omega arith))

and_false : (b : Bool) → (b && false) ≡ false
and_false true = refl
and_false false = refl

natural_digits : (n : ℕ) (ds : List ℕ) → IsNumeral 10 ds → numeral 10 ds ≡ Some n → natural ds ≡ Some n
unfolding natural
natural_digits n [] h e = absurd (omega (arith, h.0))
natural_digits n (b ∷ []) h e = e
natural_digits n (b ∷ c ∷ cs) h e =
    let (first, (second, others)) = h.1 in
    rw (not_x c second, and_false (eqb b 48), e)

pub natural-decimal : (n : ℕ) → n < 2 ^ 64 → natural (decimal n) ≡ Some n
natural-decimal n h = natural_digits n (decimal n) (decimal_is_IsNumeral n h).0 (numeral-decimal n h)

pub is_word-decimal : (n : ℕ) → n < 2 ^ 64 → is_word (decimal n) ≡ true
is_word-decimal n h = is_word_digits (decimal n) (decimal_is_IsNumeral n h).0

pub all_quiet-decimal : (n : ℕ) → n < 2 ^ 64 → all_quiet (decimal n) ≡ true
all_quiet-decimal n h =
    let ((some, are_digits), value) = decimal_is_IsNumeral n h in
    all_quiet_digits (decimal n) are_digits

-- ---- signed numbers

is_word_minus : (ds : List ℕ) → AllDigits 10 ds → is_word (45 ∷ ds) ≡ true
unfolding class
is_word_minus ds h = all_id_chars-digits ds h

pub is_word-signed_decimal : (z : ℤ) → mag z < 2 ^ 63 → is_word (signed_decimal z) ≡ true
is_word-signed_decimal (pos n) h = is_word-decimal n (omega arith)
is_word-signed_decimal (negsuc n) h =
    let ((some, are_digits), value) = decimal_is_IsNumeral (suc n) (omega arith) in
    is_word_minus (decimal (suc n)) are_digits

not_at : (c : ℕ) (sign : ℕ) → digit_value c < 10 → sign < 48 → eqb c sign ≡ false
not_at c sign h low =
    let within : (48 ≤ c) × (c ≤ 57) = digit_at (c ∷ []) 0 (h, tt) (lit< tt) in
    false_from_ne_true (eqb c sign) (λ e. let same : c ≡ sign = eqb-true c sign e in absurd (omega arith))

integer_plain : (bits n : ℕ) (ds : List ℕ) → IsNumeral 10 ds → natural ds ≡ Some n → integer bits ds ≡ unsigned_integer bits n
unfolding integer
integer_plain bits n [] h e = absurd (omega (arith, h.0))
integer_plain bits n (c ∷ cs) (some, (first, others)) e = rw (not_at c 45 first (lit< tt), not_at c 43 first (lit< tt), e)

-- The decimal text of a number below 2 ^ (bits - 1) reads as that signed number of `bits` bits.
pub integer-positive : (bits n : ℕ) → n < 2 ^ (bits - 1) → 2 ^ (bits - 1) ≤ 2 ^ bits → n < 2 ^ 64 → integer bits (decimal n) ≡ Some (pos n)
integer-positive bits n h le small =
    let whole : n < 2 ^ bits = omega arith in
    integer_plain bits n (decimal n) (decimal_is_IsNumeral n small).0 (natural-decimal n small)
    ∙ rw (lt-ltb n (2 ^ bits) whole, lt-ltb n (2 ^ (bits - 1)) h)

pub integer-negative : (bits n : ℕ) → suc n ≤ 2 ^ (bits - 1) → suc n < 2 ^ 64 → integer bits (signed_decimal (negsuc n)) ≡ Some (negsuc n)
unfolding integer
integer-negative bits n h small = rw (natural-decimal (suc n) small, le-leb (suc n) (2 ^ (bits - 1)) h)

-- ---- hexadecimal digits

abbrev pub no_brace : List ℕ → Bool
no_brace [] = true
no_brace (b ∷ bs) = not (eqb b 125) && no_brace bs

not_brace : (c : ℕ) → digit_value c < 16 → not (eqb c 125) ≡ true
not_brace c h = ap not (false_from_ne_true (eqb c 125) (λ e. let k : digit_value 125 < 16 = rw (eqb-true c 125 e) at h in absurd (omega arith)))

no_brace_digits : (ds : List ℕ) → AllDigits 16 ds → no_brace ds ≡ true
no_brace_digits [] h = refl
no_brace_digits (c ∷ cs) h = and_from (not (eqb c 125)) (no_brace cs) (not_brace c h.0) (no_brace_digits cs h.1)

pub no_brace-digits : (n : ℕ) → n < 16 ^ 64 → no_brace (digits 16 false n) ≡ true
no_brace-digits n h =
    let ((some, are_digits), value) = digits_is_IsNumeral 16 false (lit≤ tt) (lit≤ tt) n h in
    no_brace_digits (digits 16 false n) are_digits

pub numeral-digits : (n : ℕ) → n < 16 ^ 64 → numeral 16 (digits 16 false n) ≡ Some n
numeral-digits n h =
    let facts : IsNumeral 16 (digits 16 false n) × (digits_value 16 (digits 16 false n) ≡ n) = digits_is_IsNumeral 16 false (lit≤ tt) (lit≤ tt) n h in
    numeral_from 16 n (digits 16 false n) (lit≤ tt) facts.0 facts.1

beyond_letters : (c : ℕ) → 123 ≤ c → digit_value c ≡ 36
beyond_letters c h =
    rw (le-ltb c 48 (omega arith), le-ltb c 58 (omega arith), le-ltb c 65 (omega arith), le-ltb c 91 (omega arith), le-ltb c 97 (omega arith), le-ltb c 123 h)

letter_runs : ℕ → Bool
letter_runs c = not (ltb (digit_value c) 16) || is_id_char (class c)

letters_run : agree_below letter_runs (λ c. true) 123 ≡ true
unfolding letter_runs class
letters_run = refl

digit_runs : (c : ℕ) → digit_value c < 16 → is_id_char (class c) ≡ true
unfolding letter_runs
digit_runs c h =
    let below : c < 123 = ⊎_elim (λ (l : c < 123). l) (λ (l : 123 ≤ c). absurd (omega (arith, beyond_letters c l))) (cases_lt c 123) in
    let e : (not (ltb (digit_value c) 16) || is_id_char (class c)) ≡ true = agree_below_at letter_runs (λ x. true) 123 c letters_run below in
    rw (lt-ltb (digit_value c) 16 h) at e

pub run_hexadecimal : (ds : List ℕ) → AllDigits 16 ds → all_id_chars ds ≡ true
run_hexadecimal [] h = refl
run_hexadecimal (c ∷ cs) h = and_from (is_id_char (class c)) (all_id_chars cs) (digit_runs c h.0) (run_hexadecimal cs h.1)

-- The hexadecimal text of a number reads as that number.
pub natural-hexadecimal : (n : ℕ) → n < 16 ^ 64 → natural (codes "0x" ++ digits 16 false n) ≡ Some n
unfolding natural
natural-hexadecimal n h = numeral-digits n h

pub is_word-hexadecimal : (n : ℕ) → n < 16 ^ 64 → is_word (codes "0x" ++ digits 16 false n) ≡ true
unfolding class
is_word-hexadecimal n h =
    let ((some, are_digits), value) = digits_is_IsNumeral 16 false (lit≤ tt) (lit≤ tt) n h in
    run_hexadecimal (digits 16 false n) are_digits
