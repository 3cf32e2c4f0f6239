-- The text of a float's calls lexes to one word: the comment after infinity and NaN is skipped. All bytes of the
-- calls are plain.
use Rattle.std.proofs.Common.{◌≡◌, ℕ, ◌<◌, ◌*◌, ◌/◌, ◌%◌, ◌^◌, ◌-◌, Bool, true, false, cond, eqb, ltb, List, [], ◌∷◌, ◌++◌, refl, sym, ap, ◌∙◌, append_assoc, append-nil, codes}
use Rattle.wasmprinter_spec.specs.Character.{class}
use Rattle.wasmprinter_spec.specs.Call.{Text, text_of}
use Rattle.wasmprinter_spec.specs.Token.{word, Clear, lex}
use Rattle.wasmprinter_spec.specs.Float.{Width, IsWidth, greatest_exponent, sign_bit}
use Rattle.wasmprinter_spec.specs.FloatText.{special_text, finite_text, unsigned_text, float_text, remark, special_calls, finite_calls, unsigned_calls, float_calls}
use Rattle.wasmprinter_laws.proofs.Tokens.Runs.{is_word, delimited, word_lexes}
use Rattle.wasmprinter_laws.proofs.Tokens.Floats.{is_word-float_text}
use Rattle.wasmprinter_laws.proofs.Tokens.Printed.{all_printed, all_printed-append, printed_word}

-- The space and the comment after infinity and NaN lex to no token.
remark_lexes : (negative : Bool) (fraction : ℕ) (rest : List ℕ) → lex Clear (32 ∷ (remark negative fraction ++ rest)) ≡ lex Clear rest
unfolding lex class
remark_lexes negative fraction rest = by (eqb fraction 0) negative
  where
    by : (b c : Bool) → lex Clear (32 ∷ (cond b (cond c (codes "(;=-inf;)") (codes "(;=inf;)")) (codes "(;=NaN;)") ++ rest)) ≡ lex Clear rest
    by true true = refl
    by true false = refl
    by false c = refl

special_lexes : (w : Width) (front : List ℕ) (negative : Bool) (fraction : ℕ) (rest : List ℕ) → is_word (front ++ special_text w fraction) ≡ true →
    lex Clear (front ++ (text_of (special_calls w negative fraction) ++ rest)) ≡ word (front ++ special_text w fraction) ∷ lex Clear rest
unfolding class
special_lexes w front negative fraction rest h =
    let t : List ℕ = special_text w fraction in
    let r : List ℕ = remark negative fraction in
    let shape : front ++ (text_of (special_calls w negative fraction) ++ rest) ≡ (front ++ t) ++ (32 ∷ (r ++ rest)) =
    simp (append_assoc, append-nil) in
    ap (lex Clear) shape ∙ word_lexes (front ++ t) (32 ∷ (r ++ rest)) h refl ∙ ap (λ x. word (front ++ t) ∷ x) (remark_lexes negative fraction rest)

finite_lexes : (w : Width) (front : List ℕ) (exponent fraction : ℕ) (rest : List ℕ) → is_word (front ++ finite_text w exponent fraction) ≡ true → delimited rest ≡ true →
    lex Clear (front ++ (text_of (finite_calls w exponent fraction) ++ rest)) ≡ word (front ++ finite_text w exponent fraction) ∷ lex Clear rest
finite_lexes w front exponent fraction rest h d =
    let t : List ℕ = finite_text w exponent fraction in
    let shape : front ++ (text_of (finite_calls w exponent fraction) ++ rest) ≡ (front ++ t) ++ rest =
    ap (λ x. front ++ (x ++ rest)) (append-nil t) ∙ sym (append_assoc front t rest) in
    ap (lex Clear) shape ∙ word_lexes (front ++ t) rest h d

unsigned_lexes : (w : Width) (front : List ℕ) (negative : Bool) (exponent fraction : ℕ) (rest : List ℕ) → is_word (front ++ unsigned_text w exponent fraction) ≡ true → delimited rest ≡ true →
    lex Clear (front ++ (text_of (unsigned_calls w negative exponent fraction) ++ rest)) ≡ word (front ++ unsigned_text w exponent fraction) ∷ lex Clear rest
unfolding unsigned_calls unsigned_text
unsigned_lexes w front negative exponent fraction rest h d = by (eqb exponent (greatest_exponent w)) h
  where
    by : (b : Bool) → is_word (front ++ cond b (special_text w fraction) (finite_text w exponent fraction)) ≡ true
        → lex Clear (front ++ (text_of (cond b (special_calls w negative fraction) (finite_calls w exponent fraction)) ++ rest)) ≡ word (front ++ cond b (special_text w fraction) (finite_text w exponent fraction)) ∷ lex Clear rest
    by true h = special_lexes w front negative fraction rest h
    by false h = finite_lexes w front exponent fraction rest h d

-- The text of a float's calls lexes to one word, which is the float's text.
pub float_lexes : (w : Width) → IsWidth w → (bits : ℕ) (rest : List ℕ) → bits < 2 * sign_bit w → delimited rest ≡ true →
    lex Clear (text_of (float_calls w bits) ++ rest) ≡ word (float_text w bits) ∷ lex Clear rest
unfolding float_calls float_text
float_lexes w is bits rest h d = by (ltb bits (sign_bit w)) (is_word-float_text w is bits h)
  where
    by : (b : Bool)
        → is_word (cond b (unsigned_text w (bits / 2 ^ w.fraction) (bits % 2 ^ w.fraction)) (45 ∷ unsigned_text w ((bits - sign_bit w) / 2 ^ w.fraction) ((bits - sign_bit w) % 2 ^ w.fraction))) ≡ true
        → lex Clear (text_of (cond b (unsigned_calls w false (bits / 2 ^ w.fraction) (bits % 2 ^ w.fraction)) (Text (codes "-") ∷ unsigned_calls w true ((bits - sign_bit w) / 2 ^ w.fraction) ((bits - sign_bit w) % 2 ^ w.fraction))) ++ rest)
        ≡ word (cond b (unsigned_text w (bits / 2 ^ w.fraction) (bits % 2 ^ w.fraction)) (45 ∷ unsigned_text w ((bits - sign_bit w) / 2 ^ w.fraction) ((bits - sign_bit w) % 2 ^ w.fraction))) ∷ lex Clear rest
    by true k = unsigned_lexes w [] false (bits / 2 ^ w.fraction) (bits % 2 ^ w.fraction) rest k d
    by false k = unsigned_lexes w (45 ∷ []) true ((bits - sign_bit w) / 2 ^ w.fraction) ((bits - sign_bit w) % 2 ^ w.fraction) rest k d

-- ---- plain bytes

printed_remark : (negative : Bool) (fraction : ℕ) → all_printed (32 ∷ remark negative fraction) ≡ true
printed_remark negative fraction = by (eqb fraction 0) negative
  where
    by : (b c : Bool) → all_printed (32 ∷ cond b (cond c (codes "(;=-inf;)") (codes "(;=inf;)")) (codes "(;=NaN;)")) ≡ true
    by true true = refl
    by true false = refl
    by false c = refl

printed_special : (w : Width) (front : List ℕ) (negative : Bool) (fraction : ℕ) → is_word (front ++ special_text w fraction) ≡ true →
    all_printed (front ++ text_of (special_calls w negative fraction)) ≡ true
printed_special w front negative fraction h =
    let t : List ℕ = special_text w fraction in
    let r : List ℕ = remark negative fraction in
    let shape : front ++ text_of (special_calls w negative fraction) ≡ (front ++ t) ++ (32 ∷ r) =
    simp (append_assoc, append-nil) in
    ap all_printed shape ∙ all_printed-append (front ++ t) (32 ∷ r) (printed_word (front ++ t) h) (printed_remark negative fraction)

printed_finite : (w : Width) (front : List ℕ) (exponent fraction : ℕ) → is_word (front ++ finite_text w exponent fraction) ≡ true →
    all_printed (front ++ text_of (finite_calls w exponent fraction)) ≡ true
printed_finite w front exponent fraction h =
    let t : List ℕ = finite_text w exponent fraction in
    ap (λ x. all_printed (front ++ x)) (append-nil t) ∙ printed_word (front ++ t) h

printed_unsigned : (w : Width) (front : List ℕ) (negative : Bool) (exponent fraction : ℕ) → is_word (front ++ unsigned_text w exponent fraction) ≡ true →
    all_printed (front ++ text_of (unsigned_calls w negative exponent fraction)) ≡ true
unfolding unsigned_calls unsigned_text
printed_unsigned w front negative exponent fraction h = by (eqb exponent (greatest_exponent w)) h
  where
    by : (b : Bool) → is_word (front ++ cond b (special_text w fraction) (finite_text w exponent fraction)) ≡ true
        → all_printed (front ++ text_of (cond b (special_calls w negative fraction) (finite_calls w exponent fraction))) ≡ true
    by true h = printed_special w front negative fraction h
    by false h = printed_finite w front exponent fraction h

pub printed_float : (w : Width) → IsWidth w → (bits : ℕ) → bits < 2 * sign_bit w → all_printed (text_of (float_calls w bits)) ≡ true
unfolding float_calls float_text
printed_float w is bits h = by (ltb bits (sign_bit w)) (is_word-float_text w is bits h)
  where
    by : (b : Bool)
        → is_word (cond b (unsigned_text w (bits / 2 ^ w.fraction) (bits % 2 ^ w.fraction)) (45 ∷ unsigned_text w ((bits - sign_bit w) / 2 ^ w.fraction) ((bits - sign_bit w) % 2 ^ w.fraction))) ≡ true
        → all_printed (text_of (cond b (unsigned_calls w false (bits / 2 ^ w.fraction) (bits % 2 ^ w.fraction)) (Text (codes "-") ∷ unsigned_calls w true ((bits - sign_bit w) / 2 ^ w.fraction) ((bits - sign_bit w) % 2 ^ w.fraction)))) ≡ true
    by true k = printed_unsigned w [] false (bits / 2 ^ w.fraction) (bits % 2 ^ w.fraction) k
    by false k = printed_unsigned w (45 ∷ []) true ((bits - sign_bit w) / 2 ^ w.fraction) ((bits - sign_bit w) % 2 ^ w.fraction) k
