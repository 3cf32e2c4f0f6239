-- A test for plain bytes (a line feed, a tab, or a byte from the space to the tilde), which is computed for the
-- bytes of each class.
use Rattle.std.proofs.Common.{◌≡◌, ℕ, zero, suc, ◌<◌, ◌/◌, ◌%◌, Bool, true, false, ◌&&◌, ◌||◌, not, cond, leb, ltb, eqb, List, [], ◌∷◌, ◌++◌, refl, sym, ap, ◌∙◌, arith, true≢false, decimal, codes}
use Rattle.std.proofs.lemmas.Bool.{and_parts, and_from, agree_below, agree_below_at, ltb-true, ltb-false}
use Rattle.std.specs.Fmt.{digits, digits_onto, digit_glyph}
use Rattle.wasmprinter_spec.specs.Character.{Class, Foreign, class}
use Rattle.wasmprinter_spec.specs.Quoted.{is_id_char, all_id_chars}
use Rattle.wasmprinter_spec.proofs.Classes.{foreign}
use Rattle.wasmprinter_laws.proofs.Tokens.Runs.{is_word, is_plain_class, is_quiet, is_inline, is_blank_class, all_quiet, all_inline, all_blank}
use Rattle.wasmprinter_laws.proofs.Tokens.Numbers.{plain_runs}

abbrev pub is_printed : ℕ → Bool
is_printed b = eqb b 10 || eqb b 9 || (leb 32 b && leb b 126)

abbrev pub all_printed : List ℕ → Bool
all_printed [] = true
all_printed (b ∷ bs) = is_printed b && all_printed bs

pub all_printed-append : (a b : List ℕ) → all_printed a ≡ true → all_printed b ≡ true → all_printed (a ++ b) ≡ true
all_printed-append [] b h k = k
all_printed-append (c ∷ cs) b h k =
    let parts : (is_printed c ≡ true) × (all_printed cs ≡ true) = and_parts (is_printed c) (all_printed cs) h in
    and_from (is_printed c) (all_printed (cs ++ b)) parts.0 (all_printed-append cs b parts.1 k)

-- ---- bytes of a class

-- If a test of classes fails for `Foreign`, and holds below 128 only for classes of plain bytes, then every byte
-- whose class passes the test is plain.
module _ (good : Class → Bool) (none : good Foreign ≡ false) (low : agree_below (λ b. not (good (class b)) || is_printed b) (λ b. true) 128 ≡ true) where
  printed_by_class : (b : ℕ) → good (class b) ≡ true → is_printed b ≡ true
  printed_by_class b h = by (ltb b 128) refl
    where
      by : (t : Bool) → ltb b 128 ≡ t → is_printed b ≡ true
      by true e =
          let k : (not (good (class b)) || is_printed b) ≡ true = agree_below_at (λ b. not (good (class b)) || is_printed b) (λ b. true) 128 b low (ltb-true b 128 e) in
          rw h at k
      by false e = absurd (true≢false (sym h ∙ ap good (foreign b (ltb-false b 128 e)) ∙ none))

runs_low : agree_below (λ b. not (is_id_char (class b)) || is_printed b) (λ b. true) 128 ≡ true
unfolding class
runs_low = refl

pub all_printed-run : (w : List ℕ) → all_id_chars w ≡ true → all_printed w ≡ true
all_printed-run [] h = refl
all_printed-run (b ∷ bs) h =
    let parts : (is_id_char (class b) ≡ true) × (all_id_chars bs ≡ true) = and_parts (is_id_char (class b)) (all_id_chars bs) h in
    and_from (is_printed b) (all_printed bs) (printed_by_class is_id_char refl runs_low b parts.0) (all_printed-run bs parts.1)

pub printed_word : (w : List ℕ) → is_word w ≡ true → all_printed w ≡ true
printed_word [] h = absurd (true≢false (sym h))
printed_word (b ∷ bs) h =
    let parts : (is_plain_class (class b) ≡ true) × (all_id_chars bs ≡ true) = and_parts (is_plain_class (class b)) (all_id_chars bs) h in
    all_printed-run (b ∷ bs) (and_from (is_id_char (class b)) (all_id_chars bs) (plain_runs (class b) parts.0) parts.1)

blank_low : agree_below (λ b. not (is_blank_class (class b)) || is_printed b) (λ b. true) 128 ≡ true
unfolding class
blank_low = refl

pub all_printed-spaces : (w : List ℕ) → all_blank w ≡ true → all_printed w ≡ true
all_printed-spaces [] h = refl
all_printed-spaces (b ∷ bs) h =
    let parts : (is_blank_class (class b) ≡ true) × (all_blank bs ≡ true) = and_parts (is_blank_class (class b)) (all_blank bs) h in
    and_from (is_printed b) (all_printed bs) (printed_by_class is_blank_class refl blank_low b parts.0) (all_printed-spaces bs parts.1)

-- ---- hexadecimal digits

good_glyph : ℕ → Bool
good_glyph d = is_printed (digit_glyph false d) && is_quiet (class (digit_glyph false d))

glyphs_low : agree_below good_glyph (λ d. true) 16 ≡ true
unfolding good_glyph class
glyphs_low = refl

-- The character of a hexadecimal digit is plain, and neither opens nor closes a comment.
pub glyph_is_good : (d : ℕ) → d < 16 → (is_printed (digit_glyph false d) ≡ true) × (is_quiet (class (digit_glyph false d)) ≡ true)
unfolding good_glyph
glyph_is_good d h = and_parts _ _ (agree_below_at good_glyph (λ x. true) 16 d glyphs_low h)

-- All bytes are plain, and none opens or closes a comment.
abbrev good : List ℕ → Type 0
good bs = (all_printed bs ≡ true) × (all_quiet bs ≡ true)

good_digit : (d : ℕ) (bs : List ℕ) → d < 16 → good bs → good (digit_glyph false d ∷ bs)
good_digit d bs h g =
    let one = glyph_is_good d h in
    (and_from (is_printed (digit_glyph false d)) (all_printed bs) one.0 g.0, and_from (is_quiet (class (digit_glyph false d))) (all_quiet bs) one.1 g.1)

good_digits : (k n : ℕ) (bs : List ℕ) → good bs → good (digits_onto k 16 false n bs)
good_digits zero n bs g = g
good_digits (suc k) n bs g =
    by _ _ (eqb (n / 16) 0) (good_digit (n % 16) bs (omega arith) g) (good_digits k (n / 16) (digit_glyph false (n % 16) ∷ bs) (good_digit (n % 16) bs (omega arith) g))
  where
    by : (a b : List ℕ) (t : Bool) → good a → good b → good (cond t a b)
    by a b true x y = x
    by a b false x y = y

pub hex_digits_are_good : (n : ℕ) → (all_printed (digits 16 false n) ≡ true) × (all_quiet (digits 16 false n) ≡ true)
unfolding digits
hex_digits_are_good n = good_digits 64 n [] (refl, refl)

-- Hexadecimal digits are identifier characters.
run_glyphs_low : agree_below (λ d. is_id_char (class (digit_glyph false d))) (λ d. true) 16 ≡ true
unfolding class
run_glyphs_low = refl

run_digit : (d : ℕ) (bs : List ℕ) → d < 16 → all_id_chars bs ≡ true → all_id_chars (digit_glyph false d ∷ bs) ≡ true
run_digit d bs h g =
    and_from (is_id_char (class (digit_glyph false d))) (all_id_chars bs) (agree_below_at (λ x. is_id_char (class (digit_glyph false x))) (λ x. true) 16 d run_glyphs_low h) g

run_digits : (k n : ℕ) (bs : List ℕ) → all_id_chars bs ≡ true → all_id_chars (digits_onto k 16 false n bs) ≡ true
run_digits zero n bs g = g
run_digits (suc k) n bs g =
    by _ _ (eqb (n / 16) 0) (run_digit (n % 16) bs (omega arith) g) (run_digits k (n / 16) (digit_glyph false (n % 16) ∷ bs) (run_digit (n % 16) bs (omega arith) g))
  where
    by : (a b : List ℕ) (t : Bool) → all_id_chars a ≡ true → all_id_chars b ≡ true → all_id_chars (cond t a b) ≡ true
    by a b true x y = x
    by a b false x y = y

-- The hexadecimal text of any number is a word.
pub is_word-hex : (n : ℕ) → is_word (codes "0x" ++ digits 16 false n) ≡ true
unfolding digits class
is_word-hex n = run_digits 64 n [] refl

-- ---- decimal digits

remark_glyph : ℕ → Bool
remark_glyph d = is_printed (digit_glyph false d) && (is_quiet (class (digit_glyph false d)) && is_inline (class (digit_glyph false d)))

remark_glyphs_low : agree_below remark_glyph (λ d. true) 10 ≡ true
unfolding remark_glyph class
remark_glyphs_low = refl

-- The byte may occur in a comment: it is plain, neither opens nor closes a comment, and does not end the line.
abbrev pub stands_in_remark : ℕ → Bool
stands_in_remark b = is_printed b && (is_quiet (class b) && is_inline (class b))

abbrev pub is_remark : List ℕ → Bool
is_remark [] = true
is_remark (b ∷ bs) = stands_in_remark b && is_remark bs

pub record IsRemark (w : List ℕ) : Type 0 where
  pub printed : all_printed w ≡ true
  pub quiet : all_quiet w ≡ true
  pub inline : all_inline w ≡ true

pub remark : (w : List ℕ) → is_remark w ≡ true → IsRemark w
remark [] h = record { printed = refl; quiet = refl; inline = refl }
remark (b ∷ bs) h =
    let parts : (stands_in_remark b ≡ true) × (is_remark bs ≡ true) = and_parts (stands_in_remark b) (is_remark bs) h in
    let one : (is_printed b ≡ true) × ((is_quiet (class b) && is_inline (class b)) ≡ true) = and_parts (is_printed b) (is_quiet (class b) && is_inline (class b)) parts.0 in
    let two : (is_quiet (class b) ≡ true) × (is_inline (class b) ≡ true) = and_parts (is_quiet (class b)) (is_inline (class b)) one.1 in
    let r : IsRemark bs = remark bs parts.1 in
    record {
      printed = and_from (is_printed b) (all_printed bs) one.0 r.printed;
      quiet = and_from (is_quiet (class b)) (all_quiet bs) two.0 r.quiet;
      inline = and_from (is_inline (class b)) (all_inline bs) two.1 r.inline;
    }

remark_digit : (d : ℕ) (bs : List ℕ) → d < 10 → is_remark bs ≡ true → is_remark (digit_glyph false d ∷ bs) ≡ true
unfolding remark_glyph
remark_digit d bs h g = and_from (stands_in_remark (digit_glyph false d)) (is_remark bs) (agree_below_at remark_glyph (λ x. true) 10 d remark_glyphs_low h) g

remark_digits : (k n : ℕ) (bs : List ℕ) → is_remark bs ≡ true → is_remark (digits_onto k 10 false n bs) ≡ true
remark_digits zero n bs g = g
remark_digits (suc k) n bs g =
    by _ _ (eqb (n / 10) 0) (remark_digit (n % 10) bs (omega arith) g) (remark_digits k (n / 10) (digit_glyph false (n % 10) ∷ bs) (remark_digit (n % 10) bs (omega arith) g))
  where
    by : (a b : List ℕ) (t : Bool) → is_remark a ≡ true → is_remark b ≡ true → is_remark (cond t a b) ≡ true
    by a b true x y = x
    by a b false x y = y

-- The decimal text of any number may occur in a comment.
pub is_remark-decimal : (n : ℕ) → is_remark (decimal n) ≡ true
unfolding digits
is_remark-decimal n = remark_digits 64 n [] refl

pub is_remark-append : (a b : List ℕ) → is_remark a ≡ true → is_remark b ≡ true → is_remark (a ++ b) ≡ true
is_remark-append [] b h k = k
is_remark-append (c ∷ cs) b h k =
    let parts : (stands_in_remark c ≡ true) × (is_remark cs ≡ true) = and_parts (stands_in_remark c) (is_remark cs) h in
    and_from (stands_in_remark c) (is_remark (cs ++ b)) parts.0 (is_remark-append cs b parts.1 k)
