-- The layout of lanes and of vectors, part by part.
use Rattle.std.specs.Prelude.{◌≡◌, ℕ, ◌/◌, ◌%◌, ◌<◌, List, [], ◌∷◌, ◌++◌, length, reverse, false, refl}
use Rattle.std.specs.List.{push}
use Rattle.std.specs.Fmt.{digit_glyph}
use Rattle.std.proofs.Common.{ap, ◌∙◌, arith}
use Rattle.std.proofs.lemmas.List.{reverse-append}
use Rattle.wasmprinter_spec.specs.Piece.{after_spaces}
use Rattle.wasmprinter_spec.specs.Layout.Operators.{lane_pieces, lanes_pieces, hex_digits, hex_word, hex_words}

-- The pieces of a list of lanes are those of the first lane and those of the others.
pub lanes-next : (ks rest : List ℕ) (k : ℕ) → ks ≡ k ∷ rest → lanes_pieces ks ≡ lane_pieces k ++ lanes_pieces rest
unfolding lanes_pieces
lanes-next ks rest k e = ap lanes_pieces e

-- An empty list of lanes has no pieces.
pub lanes-none : (ks : List ℕ) → ks ≡ [] → lanes_pieces ks ≡ []
unfolding lanes_pieces
lanes-none ks e = ap lanes_pieces e

-- In the digits of the reversed bytes, those of the last byte come first.
pub digits-last : (bs rest : List ℕ) (b : ℕ) → bs ≡ push rest b →
    hex_digits (reverse bs) ≡ (digit_glyph false (b / 16) ∷ (digit_glyph false (b % 16) ∷ [])) ++ hex_digits (reverse rest)
digits-last bs rest b e = ap (λ xs. hex_digits (reverse xs)) e ∙ ap hex_digits (reverse-append rest (b ∷ []))

-- The words of bytes, each with a space before it, are the word of the first four bytes and the words of the
-- others.
pub words-next : (bs word rest : List ℕ) → bs ≡ word ++ rest → length word ≡ 4 →
    after_spaces (hex_words bs) ≡ (32 ∷ hex_word word) ++ after_spaces (hex_words rest)
unfolding hex_words
words-next bs (a ∷ (b ∷ (c ∷ (d ∷ [])))) rest e n = ap (λ xs. after_spaces (hex_words xs)) e
words-next bs [] rest e n = absurd (omega (arith, n))
words-next bs (a ∷ []) rest e n = absurd (omega (arith, n))
words-next bs (a ∷ (b ∷ [])) rest e n = absurd (omega (arith, n))
words-next bs (a ∷ (b ∷ (c ∷ []))) rest e n = absurd (omega (arith, n))
words-next bs (a ∷ (b ∷ (c ∷ (d ∷ (x ∷ xs))))) rest e n = absurd (omega (arith, n))

-- Fewer than four bytes have no words.
pub words-none : (bs : List ℕ) → length bs < 4 → after_spaces (hex_words bs) ≡ []
unfolding hex_words
words-none [] h = refl
words-none (a ∷ []) h = refl
words-none (a ∷ (b ∷ [])) h = refl
words-none (a ∷ (b ∷ (c ∷ []))) h = refl
words-none (a ∷ (b ∷ (c ∷ (d ∷ bs)))) h = absurd (omega (arith, h))
