-- Sixteen bytes, as four hexadecimal words or as lanes: their items, that these read back, and that pieces write
-- them
use Rattle.std.proofs.Common.{◌≡◌, ℕ, zero, suc, ℤ, pos, negsuc, ◌-ℤ◌, ◌+◌, ◌*◌, ◌/◌, ◌%◌, ◌<◌, ◌^◌, Bool, true, false, cond, ltb, List, [], ◌∷◌, ◌++◌, length, Some, refl, ap, ◌∙◌, codes, decimal, arith, lit≤, lit<}
use Rattle.std.specs.Fmt.{digit_glyph}
use Rattle.std.specs.Char.{digit_value}
use Rattle.std.specs.List.{AllByRecursion}
use Rattle.std.specs.Str.Parse.{digits_value_after, AllDigits}
use Rattle.std.proofs.lemmas.Bool.{and_from, lt-ltb, eq-eqb}
use Rattle.std.proofs.lemmas.Int.{ints}
use Rattle.std.proofs.lemmas.Str.{digit_value-digit_char}
use Rattle.wasmprinter_spec.specs.Character.{class}
use Rattle.wasmprinter_spec.specs.Numeral.{numeral, natural, as_signed, integer}
use Rattle.wasmprinter_spec.specs.Forest.{Forest, End, Word}
use Rattle.wasmprinter_spec.specs.Types.{concat}
use Rattle.wasmprinter_spec.specs.Operator.{Bytes}
use Rattle.wasmprinter_spec.specs.Text.Items.{all_items}
use Rattle.wasmprinter_spec.specs.Numeral.{u8}
use Rattle.wasmprinter_spec.specs.Text.Operators.{bytes_of, as_unsigned, vector_lane, no_group, lane_size, vector, lanes}
use Rattle.wasmprinter_spec.specs.Layout.Operators.{hex_digits, hex_word, hex_words, vector_pieces, lanes_pieces}
use Rattle.wasmprinter_laws.proofs.Tokens.Runs.{is_word, are_words}
use Rattle.wasmprinter_laws.proofs.Tokens.Numbers.{run_hexadecimal, numeral_from}
use Rattle.wasmprinter_laws.proofs.Tokens.Pieces.{Bound}
use Rattle.wasmprinter_laws.proofs.Tokens.Writes.{Writes, words_before, nothing_writes, both_write, space_type_word_writes, space_literals_writes}
use Rattle.wasmprinter_laws.specs.Listed.{IsByte, IsVectorInRange}
use Rattle.wasmprinter_laws.proofs.Tabled.{no_rows}
use Rattle.wasmprinter_laws.proofs.Operators.Arguments.{AreArguments}
use Rattle.wasmprinter_laws.proofs.Operators.Numbers.{byte_is_no_word, u8-decimal}
use Rattle.wasmprinter_laws.proofs.Operators.Memory.{lane_writes}

-- ---- the items

abbrev pub vector_items : List ℕ → Forest
vector_items bs = Word (codes "i32x4") (words_before (hex_words bs) End)

abbrev pub lanes_items : List ℕ → Forest
lanes_items [] = End
lanes_items (k ∷ ks) = Word (decimal k) (lanes_items ks)

-- ---- arguments

hex_arguments : (bs : List ℕ) → AreArguments (words_before (hex_words bs) End)
unfolding hex_words
hex_arguments (a ∷ b ∷ c ∷ d ∷ bs) = (no_rows (hex_word (a ∷ (b ∷ (c ∷ (d ∷ []))))) refl, hex_arguments bs)
hex_arguments _ = tt

pub vector_arguments : (bs : List ℕ) → AreArguments (vector_items bs)
vector_arguments bs = (no_rows (codes "i32x4") refl, hex_arguments bs)

pub lanes_arguments : (ks : List ℕ) → AllByRecursion IsByte ks → AreArguments (lanes_items ks)
lanes_arguments [] h = tt
lanes_arguments (k ∷ ks) h = (byte_is_no_word k h.0, lanes_arguments ks h.1)

-- ---- hexadecimal words

-- The number of bytes after those of `n`, the highest byte first
abbrev number_after : ℕ → List ℕ → ℕ
number_after n [] = n
number_after n (b ∷ bs) = number_after (n * 256 + b) bs

glyph_is : (x : ℕ) → x < 16 → digit_value (digit_glyph false x) ≡ x
glyph_is x h = digit_value-digit_char x (omega arith)

glyph_below : (x : ℕ) → x < 16 → digit_value (digit_glyph false x) < 16
glyph_below x h = omega (arith, glyph_is x h, h)

hex_are_digits : (bs : List ℕ) → AllByRecursion IsByte bs → AllDigits 16 (hex_digits bs)
hex_are_digits [] h = tt
hex_are_digits (b ∷ bs) h = (glyph_below (b / 16) (omega (arith, h.0)), (glyph_below (b % 16) (omega arith), hex_are_digits bs h.1))

hex_value : (n : ℕ) (bs : List ℕ) → AllByRecursion IsByte bs → digits_value_after 16 n (hex_digits bs) ≡ number_after n bs
hex_value n [] h = refl
hex_value n (b ∷ bs) h =
    let high : digit_value (digit_glyph false (b / 16)) ≡ b / 16 = glyph_is (b / 16) (omega (arith, h.0)) in
    let low : digit_value (digit_glyph false (b % 16)) ≡ b % 16 = glyph_is (b % 16) (omega arith) in
    let byte : (n * 16 + digit_value (digit_glyph false (b / 16))) * 16 + digit_value (digit_glyph false (b % 16)) ≡ n * 256 + b =
    rw (high, low) (omega arith) in
    ap (λ m. digits_value_after 16 m (hex_digits bs)) byte ∙ hex_value (n * 256 + b) bs h.1

-- A hexadecimal number of four bytes without a sign reads as the signed number with these bits.
integer_of_word : (ds : List ℕ) (n : ℕ) → numeral 16 ds ≡ Some n → n < 2 ^ 32 → integer 32 (codes "0x" ++ ds) ≡ Some (as_signed 32 n)
unfolding integer natural
integer_of_word ds n e h = rw (e, lt-ltb n (2 ^ 32) h)

negative_unsigned : (z : ℤ) (n : ℕ) → n < 2 ^ 32 → z ≡ pos n -ℤ pos (2 ^ 32) → as_unsigned 32 z ≡ n
negative_unsigned (pos m) n h e = absurd (omega (arith, ints, e))
negative_unsigned (negsuc m) n h e = omega (arith, ints, e)

unsigned-signed : (n : ℕ) → n < 2 ^ 32 → as_unsigned 32 (as_signed 32 n) ≡ n
unsigned-signed n h = by (ltb n (2 ^ 31))
  where
    by : (b : Bool) → as_unsigned 32 (cond b (pos n) (pos n -ℤ pos (2 ^ 32))) ≡ n
    by true = refl
    by false = negative_unsigned (pos n -ℤ pos (2 ^ 32)) n h refl

bytes_of-after : (count n b : ℕ) → b < 256 → bytes_of (suc count) (n * 256 + b) ≡ b ∷ bytes_of count n
bytes_of-after count n b h =
    let low : (n * 256 + b) % 256 ≡ b = omega arith in
    let high : (n * 256 + b) / 256 ≡ n = omega arith in
    rw (low, high)

record AreFourBytes (a b c d : ℕ) : Type 0 where
  first : a < 256
  second : b < 256
  third : c < 256
  fourth : d < 256

-- The first four bytes, and the others
four_parts : (a b c d : ℕ) (bs : List ℕ) → AllByRecursion IsByte (a ∷ b ∷ c ∷ d ∷ bs) → AreFourBytes a b c d × AllByRecursion IsByte bs
four_parts a b c d bs (first, (second, (third, (fourth, others)))) = (record { first = first; second = second; third = third; fourth = fourth }, others)

-- Four bytes in reverse order are bytes.
are_bytes-back : (a b c d : ℕ) → AreFourBytes a b c d → AllByRecursion IsByte (d ∷ (c ∷ (b ∷ (a ∷ []))))
are_bytes-back a b c d h = (h.fourth, (h.third, (h.second, (h.first, tt))))

-- A hexadecimal word reads as its four bytes.
word_reads : (a b c d : ℕ) → AreFourBytes a b c d → vector_lane 4 (hex_word (a ∷ (b ∷ (c ∷ (d ∷ []))))) ≡ Some (a ∷ (b ∷ (c ∷ (d ∷ []))))
word_reads a b c d h =
    let bs : List ℕ = d ∷ (c ∷ (b ∷ (a ∷ []))) in
    let are : AllByRecursion IsByte bs = are_bytes-back a b c d h in
    let n : ℕ = ((d * 256 + c) * 256 + b) * 256 + a in
    let small : n < 2 ^ 32 = omega (arith, h.first, h.second, h.third, h.fourth) in
    let value : digits_value_after 16 0 (hex_digits bs) ≡ n = hex_value 0 bs are ∙ omega arith in
    let number : numeral 16 (hex_digits bs) ≡ Some n = numeral_from 16 n (hex_digits bs) (lit≤ tt) (lit< tt, hex_are_digits bs are) value in
    let highest : d % 256 ≡ d = omega (arith, h.fourth) in
    let four : bytes_of 4 n ≡ a ∷ (b ∷ (c ∷ (d ∷ []))) =
    bytes_of-after 3 ((d * 256 + c) * 256 + b) a h.first
    ∙ ap (λ xs. a ∷ xs)
    (bytes_of-after 2 (d * 256 + c) b h.second ∙ ap (λ xs. b ∷ xs) (bytes_of-after 1 d c h.third ∙ ap (λ x. c ∷ (x ∷ [])) highest)) in
    rw (integer_of_word (hex_digits bs) n number small, unsigned-signed n small, four)

-- ---- the items read back

-- The bytes of each word
abbrev fours : List ℕ → List (List ℕ)
fours (a ∷ b ∷ c ∷ d ∷ bs) = (a ∷ (b ∷ (c ∷ (d ∷ [])))) ∷ fours bs
fours _ = []

concat-fours : (n : ℕ) (bs : List ℕ) → length bs ≡ 4 * n → concat (fours bs) ≡ bs
concat-fours zero [] e = refl
concat-fours (suc n) (a ∷ b ∷ c ∷ d ∷ bs) e = ap (λ xs. a ∷ (b ∷ (c ∷ (d ∷ xs)))) (concat-fours n bs (omega (arith, e)))
concat-fours n bs e = absurd (omega (arith, e))

words_read : (bs : List ℕ) → AllByRecursion IsByte bs → all_items (vector_lane 4) no_group (words_before (hex_words bs) End) ≡ Some (fours bs)
unfolding hex_words
words_read (a ∷ b ∷ c ∷ d ∷ bs) h =
    let parts = four_parts a b c d bs h in
    rw (word_reads a b c d parts.0, words_read bs parts.1)
words_read _ h = refl

pub vector_reads : (bs : List ℕ) → IsVectorInRange bs → vector (vector_items bs) ≡ Some (Bytes bs)
unfolding lane_size
vector_reads bs h = rw (words_read bs h.each, concat-fours 4 bs h.count, eq-eqb (length bs) 16 h.count)

each_lane_reads : (ks : List ℕ) → AllByRecursion IsByte ks → all_items u8 no_group (lanes_items ks) ≡ Some ks
each_lane_reads [] h = refl
each_lane_reads (k ∷ ks) h = rw (u8-decimal k h.0, each_lane_reads ks h.1)

pub lanes_read : (ks : List ℕ) → IsVectorInRange ks → lanes (lanes_items ks) ≡ Some (Bytes ks)
lanes_read ks h = rw (each_lane_reads ks h.each, eq-eqb (length ks) 16 h.count)

-- ---- pieces write the items

is_word-hex : (ds : List ℕ) → AllDigits 16 ds → is_word (codes "0x" ++ ds) ≡ true
unfolding class
is_word-hex ds h = run_hexadecimal ds h

hex_are_words : (bs : List ℕ) → AllByRecursion IsByte bs → are_words (hex_words bs) ≡ true
unfolding hex_words
hex_are_words (a ∷ b ∷ c ∷ d ∷ bs) h =
    let parts = four_parts a b c d bs h in
    let word : is_word (hex_word (a ∷ (b ∷ (c ∷ (d ∷ []))))) ≡ true =
    is_word-hex (hex_digits (d ∷ (c ∷ (b ∷ (a ∷ []))))) (hex_are_digits (d ∷ (c ∷ (b ∷ (a ∷ [])))) (are_bytes-back a b c d parts.0)) in
    and_from (is_word (hex_word (a ∷ (b ∷ (c ∷ (d ∷ [])))))) (are_words (hex_words bs)) word (hex_are_words bs parts.1)
hex_are_words _ h = refl

pub vector_writes : (bs : List ℕ) → IsVectorInRange bs → Writes Bound (vector_pieces bs) Bound (vector_items bs)
unfolding vector_pieces class
vector_writes bs h = space_type_word_writes refl refl (space_literals_writes refl (hex_are_words bs h.each) nothing_writes)

each_lane_writes : (ks : List ℕ) → AllByRecursion IsByte ks → Writes Bound (lanes_pieces ks) Bound (lanes_items ks)
unfolding lanes_pieces
each_lane_writes [] h = nothing_writes
each_lane_writes (k ∷ ks) h = both_write (lane_writes k h.0) (each_lane_writes ks h.1)

pub lanes_write : (ks : List ℕ) → IsVectorInRange ks → Writes Bound (lanes_pieces ks) Bound (lanes_items ks)
lanes_write ks h = each_lane_writes ks h.each
