-- Testing and clearing the flags one after the other.
use Rattle.std.proofs.Common.{◌≡◌, ◌≢◌, ℕ, zero, suc, ◌+◌, ◌-◌, ◌*◌, ◌^◌, ◌<◌, ◌≤◌, get_or, List, [], ◌∷◌, length, true, false, refl, sym, ap, ◌∙◌, subst, arith, bit_and}
use Rattle.std.specs.Prelude.{◌==◌, drop, map}
use Rattle.std.specs.Int.{bit_at}
use Rattle.std.proofs.lemmas.Bool.{eq-eqb, ne_eqb}
use Rattle.std.proofs.lemmas.List.{drop_all, drop_more, get_or-map, length-map}
use Rattle.std.proofs.lemmas.Nat.{pow_pos}
use Rattle.std.proofs.lemmas.Nat.Bits.{and_pow, bit_at-lt}
use Rattle.wasmprinter_spec.specs.Layout.Customs.{flag_words, has_flag}
use Rattle.wasmprinter_custom.specs.Flags.{words_by, others_by}

-- The number has exactly one bit set.
pub record IsBit (bit : ℕ) : Type 0 where
  pub place : ℕ
  pub power : bit ≡ 2 ^ place

-- ---- A bit of flags

module _ (rest bit : ℕ) (one : IsBit bit) where
  abbrev k : ℕ
  k = one.place

  both : bit_and rest bit ≡ bit_at rest k * bit
  both = ap (bit_and rest) one.power ∙ and_pow rest k ∙ ap (λ (b : ℕ). bit_at rest k * b) (sym one.power)

  at_bit : has_flag rest bit ≡ (bit_at rest k == 1)
  at_bit = ap (has_flag rest) one.power

  some : 0 < bit
  some = subst (λ (b : ℕ). 0 < b) (sym one.power) (pow_pos k)

  -- The bit is set, or it is not.
  set_by : (b : ℕ) → b < 2 → bit_and rest bit ≡ b * bit → (bit_and rest bit == bit) ≡ (b == 1)
  set_by zero lt e = ne_eqb (bit_and rest bit) bit (λ same. omega (arith, e, same, some))
  set_by (suc zero) lt e = eq-eqb (bit_and rest bit) bit (omega (arith, e))
  set_by (suc (suc b)) lt e = absurd (omega (arith, lt))

  pub contains_bit : (bit_and rest bit == bit) ≡ has_flag rest bit
  contains_bit = set_by (bit_at rest k) (bit_at-lt rest k) both ∙ sym at_bit

-- ---- Each flag is one bit

AreBits : List (ℕ × List ℕ) → Type 0
AreBits [] = Unit {0}
AreBits (row ∷ rows) = IsBit row.0 × AreBits rows

bit : (k : ℕ) → IsBit (2 ^ k)
bit k = record { place = k; power = refl }

flags_are_bits : AreBits flag_words
unfolding AreBits
flags_are_bits = (bit 0, (bit 1, (bit 2, (bit 4, (bit 5, (bit 6, (bit 7, (bit 8, (bit 9, tt)))))))))

bits_after : (i : ℕ) (rows : List (ℕ × List ℕ)) → AreBits rows → AreBits (drop i rows)
unfolding AreBits
bits_after zero rows h = h
bits_after (suc i) [] h = h
bits_after (suc i) (row ∷ rows) h = bits_after i rows h.1

first_is_bit : (rows rest : List (ℕ × List ℕ)) (row : ℕ × List ℕ) → rows ≡ row ∷ rest → AreBits rows → IsBit row.0
unfolding AreBits
first_is_bit rows rest row e h = (subst AreBits e h).0

-- ---- After all rows

module _ {X : Type 0} (shown : X → ℕ × List ℕ) (items : List X) (all : map shown items ≡ flag_words) (i : ℕ) (le : length items ≤ i) (rest : ℕ) where
  no_row : drop i flag_words ≡ []
  no_row =
      let short : length (map shown items) ≤ i = omega (arith, le, length-map items shown) in
      subst (λ (rows : List (ℕ × List ℕ)). drop i rows ≡ []) all (drop_all i (map shown items) short)

  pub words_end : words_by (drop i flag_words) rest ≡ []
  unfolding words_by
  words_end = ap (λ rows. words_by rows rest) no_row

  pub others_end : others_by (drop i flag_words) rest ≡ rest
  unfolding others_by
  others_end = ap (λ rows. others_by rows rest) no_row

-- ---- The flag in a row

module _ {X : Type 0} (shown : X → ℕ × List ℕ) (items : List X) (all : map shown items ≡ flag_words) (i : ℕ) (d : X) (lt : i < length items) where
  abbrev pub item : X
  item = get_or items i d

  row_there : drop i flag_words ≡ shown item ∷ drop (i + 1) flag_words
  row_there =
      let short : i < length (map shown items) = omega (arith, lt, length-map items shown) in
      subst (λ (rows : List (ℕ × List ℕ)). drop i rows ≡ shown item ∷ drop (i + 1) rows) all
      (drop_more (map shown items) i (shown d) short ∙ ap (λ (row : ℕ × List ℕ). row ∷ drop (i + 1) (map shown items)) (get_or-map shown items i d (shown d) lt))

  pub row_is_bit : IsBit (shown item).0
  row_is_bit = first_is_bit (drop i flag_words) (drop (i + 1) flag_words) (shown item) row_there (bits_after i flag_words flags_are_bits)

  module _ (rest bits : ℕ) (same : bits ≡ (shown item).0) where
    set : bit_and rest bits ≡ bits → has_flag rest bits ≡ true
    set e = sym (contains_bit rest bits (subst IsBit (sym same) row_is_bit)) ∙ eq-eqb (bit_and rest bits) bits e

    unset : bit_and rest bits ≢ bits → has_flag rest bits ≡ false
    unset n = sym (contains_bit rest bits (subst IsBit (sym same) row_is_bit)) ∙ ne_eqb (bit_and rest bits) bits n

    abbrev row : ℕ × List ℕ
    row = (bits, (shown item).1)

    row_here : drop i flag_words ≡ row ∷ drop (i + 1) flag_words
    row_here = row_there ∙ ap (λ (b : ℕ). (b, (shown item).1) ∷ drop (i + 1) flag_words) (sym same)

    -- If the flag is set, its word comes first.
    pub word_first : bit_and rest bits ≡ bits → words_by (drop i flag_words) rest ≡ (shown item).1 ∷ words_by (drop (i + 1) flag_words) (rest - bits)
    unfolding words_by
    word_first e = ap (λ rows. words_by rows rest) row_here ∙ rw (set e) refl

    pub other_taken : bit_and rest bits ≡ bits → others_by (drop i flag_words) rest ≡ others_by (drop (i + 1) flag_words) (rest - bits)
    unfolding others_by
    other_taken e = ap (λ rows. others_by rows rest) row_here ∙ rw (set e) refl

    -- If the flag is not set, its word is skipped.
    pub word_passed : bit_and rest bits ≢ bits → words_by (drop i flag_words) rest ≡ words_by (drop (i + 1) flag_words) rest
    unfolding words_by
    word_passed n = ap (λ rows. words_by rows rest) row_here ∙ rw (unset n) refl

    pub other_passed : bit_and rest bits ≢ bits → others_by (drop i flag_words) rest ≡ others_by (drop (i + 1) flag_words) rest
    unfolding others_by
    other_passed n = ap (λ rows. others_by rows rest) row_here ∙ rw (unset n) refl
