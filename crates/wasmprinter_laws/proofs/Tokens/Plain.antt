-- Plain text is UTF-8 and contains no ANSI escape sequence. Two plain texts joined are plain.
use Rattle.std.proofs.Common.{◌≡◌, inl, inr, ℕ, zero, suc, ◌<◌, Bool, true, false, ◌&&◌, ◌||◌, cond, leb, eqb, nat_eq, List, [], ◌∷◌, ◌++◌, length, slice_index, refl, sym, ap, ◌∙◌, true≢false, arith}
use Rattle.std.specs.Prelude.{IsUtf8}
use Rattle.std.specs.Fmt.{digits}
use Rattle.std.specs.List.{starts_with}
use Rattle.std.proofs.lemmas.Bool.{and_parts, false_from_ne_true, eqb-true, eq-eqb, ne_eqb, leb-true}
use Rattle.std.proofs.lemmas.Str.{IsUtf8-from_ascii}
use Rattle.wasmprinter_spec.specs.Color.{sequences, sequence_length_in, uncolor_step, uncolor_after, uncolor}
use Rattle.wasmprinter_spec.specs.Plain.{IsPlainByte, IsPlainText}
use Rattle.wasmprinter_laws.proofs.Tokens.Printed.{is_printed, all_printed}

-- ---- the test of plain bytes

pub plain_byte : (b : ℕ) → is_printed b ≡ true → IsPlainByte b
plain_byte b h = by (eqb b 10) refl (eqb b 9) refl h
  where
    by : (t : Bool) → eqb b 10 ≡ t → (u : Bool) → eqb b 9 ≡ u → (t || u || (leb 32 b && leb b 126)) ≡ true → IsPlainByte b
    by true e u f k = inr (inl (eqb-true b 10 e))
    by false e true f k = inl (eqb-true b 9 f)
    by false e false f k =
        let parts : (leb 32 b ≡ true) × (leb b 126 ≡ true) = and_parts (leb 32 b) (leb b 126) k in
        inr (inr (leb-true 32 b parts.0, leb-true b 126 parts.1))

pub plain_text : (text : List ℕ) → all_printed text ≡ true → IsPlainText text
plain_text [] h = tt
plain_text (b ∷ bs) h =
    let parts : (is_printed b ≡ true) × (all_printed bs ≡ true) = and_parts (is_printed b) (all_printed bs) h in
    (plain_byte b parts.0, plain_text bs parts.1)

pub plain_texts_join : (a b : List ℕ) → IsPlainText a → IsPlainText b → IsPlainText (a ++ b)
plain_texts_join [] b h k = k
plain_texts_join (c ∷ cs) b h k = (h.0, plain_texts_join cs b h.1 k)

-- ---- UTF-8

pub is_low : (b : ℕ) → IsPlainByte b → b < 128
is_low b (inl e) = omega arith
is_low b (inr (inl e)) = omega arith
is_low b (inr (inr h)) = omega arith

ascii_at : (text : List ℕ) → IsPlainText text → (i : ℕ) → slice_index text i < 128
ascii_at [] h i = omega arith
ascii_at (b ∷ bs) h zero = is_low b h.0
ascii_at (b ∷ bs) h (suc i) = ascii_at bs h.1 i

pub plain_is_utf8 : (text : List ℕ) → IsPlainText text → IsUtf8 text
plain_is_utf8 text h = IsUtf8-from_ascii text (ascii_at text h)

-- ---- no ANSI escape sequence

begins_with_escape : List ℕ → Bool
begins_with_escape [] = false
begins_with_escape (b ∷ bs) = eqb b 27

all_escape : List (List ℕ) → Bool
all_escape [] = true
all_escape (s ∷ ss) = begins_with_escape s && all_escape ss

sequences_escape : all_escape sequences ≡ true
unfolding all_escape begins_with_escape digits
sequences_escape = refl

not_begun : (s : List ℕ) (b : ℕ) (bs : List ℕ) → begins_with_escape s ≡ true → eqb b 27 ≡ false → starts_with nat_eq (b ∷ bs) s ≡ false
unfolding begins_with_escape
not_begun [] b bs h n = absurd (true≢false (sym h))
not_begun (c ∷ cs) b bs h n =
    let escape : c ≡ 27 = eqb-true c 27 h in
    let other : eqb c b ≡ false = false_from_ne_true (eqb c b) (λ e. true≢false (sym (eq-eqb b 27 (sym (eqb-true c b e) ∙ escape)) ∙ n)) in
    rw other

no_sequence : (ss : List (List ℕ)) (b : ℕ) (bs : List ℕ) → all_escape ss ≡ true → eqb b 27 ≡ false → sequence_length_in ss (b ∷ bs) ≡ 0
unfolding all_escape
no_sequence [] b bs h n = refl
no_sequence (s ∷ ss) b bs h n =
    let parts : (begins_with_escape s ≡ true) × (all_escape ss ≡ true) = and_parts (begins_with_escape s) (all_escape ss) h in
    ap (λ t. cond t (length s) (sequence_length_in ss (b ∷ bs))) (not_begun s b bs parts.0 n) ∙ no_sequence ss b bs parts.1 n

not_escape : (b : ℕ) → IsPlainByte b → eqb b 27 ≡ false
not_escape b (inl e) = ne_eqb b 27 (λ f. omega arith)
not_escape b (inr (inl e)) = ne_eqb b 27 (λ f. omega arith)
not_escape b (inr (inr h)) = ne_eqb b 27 (λ f. omega arith)

-- Deleting ANSI escape sequences keeps every byte of plain text.
pub uncolor-byte : (b : ℕ) (bs : List ℕ) → IsPlainByte b → uncolor (b ∷ bs) ≡ b ∷ uncolor bs
uncolor-byte b bs h =
    ap (λ n. uncolor_step n b (λ k. uncolor_after k bs)) (no_sequence sequences b bs sequences_escape (not_escape b h))

pub uncolor-plain : (text : List ℕ) → IsPlainText text → uncolor text ≡ text
uncolor-plain [] h = refl
uncolor-plain (b ∷ bs) h = uncolor-byte b bs h.0 ∙ ap (λ t. b ∷ t) (uncolor-plain bs h.1)
