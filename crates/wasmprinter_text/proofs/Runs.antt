-- Identifier characters.
use Rattle.std.specs.Prelude.{◌≡◌, ℕ, ◌<◌, ◌^◌, Bool, true, false, List, [], ◌∷◌, length, IsUtf8, chars, decimal, if◌then◌else◌, encode_utf8_all}
use Rattle.std.specs.Str.{IsAscii}
use Rattle.std.proofs.Common.{refl, sym, ap, ◌∙◌, arith, true≢false, ltb, cond, suc, zero}
use Rattle.std.proofs.lemmas.Bool.{and_parts, ltb-true, ltb-false}
use Rattle.std.proofs.lemmas.Fmt.{decimal_is_IsNumeral}
use Rattle.std.proofs.lemmas.Str.{chars-IsAscii, encodes-IsAscii, encodes-chars}
use Rattle.wasmprinter_spec.specs.Character.{class}
use Rattle.wasmprinter_spec.specs.Names.Content.{index_content}
use Rattle.wasmprinter_spec.specs.Quoted.{is_id_char, all_id_chars, is_id, quoted_text, identifier_text}
use Rattle.wasmprinter_spec.proofs.Classes.{foreign}
use Rattle.wasmprinter_spec.proofs.Runs.{all_id_chars-append, all_id_chars-digits}

low : (c : ℕ) → is_id_char (class c) ≡ true → c < 128
low c h = by (ltb c 128) refl
  where
    by : (t : Bool) → ltb c 128 ≡ t → c < 128
    by true e = ltb-true c 128 e
    by false e = absurd (true≢false (sym h ∙ ap is_id_char (foreign c (ltb-false c 128 e))))

-- Identifier characters are ASCII.
ascii_at : (cs : List ℕ) → all_id_chars cs ≡ true → IsAscii cs
ascii_at [] h i = omega arith
ascii_at (c ∷ cs) h zero = low c (and_parts (is_id_char (class c)) (all_id_chars cs) h).0
ascii_at (c ∷ cs) h (suc i) = ascii_at cs (and_parts (is_id_char (class c)) (all_id_chars cs) h).1 i

-- The characters of a text of identifier characters are its bytes.
pub run-chars : (bs : List ℕ) → IsUtf8 bs → all_id_chars (chars bs) ≡ true → chars bs ≡ bs
run-chars bs u h = sym (encodes-IsAscii (chars bs) (ascii_at (chars bs) h)) ∙ encodes-chars bs u

-- All characters of a text are identifier characters if and only if all of its bytes are.
bytes-run : (bs : List ℕ) → IsUtf8 bs → all_id_chars bs ≡ all_id_chars (chars bs)
bytes-run bs u = by (all_id_chars bs) (all_id_chars (chars bs)) refl refl
  where
    by : (s t : Bool) → all_id_chars bs ≡ s → all_id_chars (chars bs) ≡ t → all_id_chars bs ≡ all_id_chars (chars bs)
    by true t e f = ap all_id_chars (sym (chars-IsAscii bs (ascii_at bs e)))
    by false true e f = ap all_id_chars (sym (run-chars bs u f))
    by false false e f = e ∙ sym f

is_id-all : (cs : List ℕ) → is_id cs ≡ true → all_id_chars cs ≡ true
is_id-all [] h = absurd (true≢false (sym h))
is_id-all (c ∷ cs) h = h

-- The characters of a text that needs no quotes in an identifier are its bytes.
pub plain-chars : (bs : List ℕ) → IsUtf8 bs → is_id (chars bs) ≡ true → chars bs ≡ bs
plain-chars bs u h = run-chars bs u (is_id-all (chars bs) h)

-- The empty text needs quotes in an identifier.
run-empty : (bs : List ℕ) → IsUtf8 bs → length bs ≡ 0 → is_id (chars bs) ≡ false
run-empty [] u e = ap is_id (chars-IsAscii [] (λ i. omega arith))
run-empty (b ∷ bs) u e = absurd cc

-- A nonempty text needs no quotes in an identifier if and only if all of its characters are identifier characters.
run-some : (bs : List ℕ) → IsUtf8 bs → (length bs ≡ 0 → ⊥) → is_id (chars bs) ≡ all_id_chars (chars bs)
run-some bs u n = by (chars bs) refl
  where
    by : (cs : List ℕ) → chars bs ≡ cs → is_id cs ≡ all_id_chars cs
    by [] e = absurd (n (ap length (sym (encodes-chars bs u) ∙ ap encode_utf8_all e)))
    by (c ∷ cs) e = refl

-- The characters of a text need quotes in an identifier if and only if its bytes, as characters, need them.
pub bytes-is_id : (bs : List ℕ) → IsUtf8 bs → is_id bs ≡ is_id (chars bs)
bytes-is_id [] u = sym (run-empty [] u refl)
bytes-is_id (b ∷ bs) u = bytes-run (b ∷ bs) u ∙ sym (run-some (b ∷ bs) u (λ e. cc))

-- ---- synthesized identifiers

synthesized-is_id_char : (group : List ℕ) (n : ℕ) → n < 2 ^ 64 → all_id_chars group ≡ true → all_id_chars (index_content group n) ≡ true
unfolding class
synthesized-is_id_char group n h g =
    let ((some, digits), value) = decimal_is_IsNumeral n h in
    all_id_chars-append group (decimal n) g (all_id_chars-digits (decimal n) digits)

-- A synthesized identifier is written without quotes.
pub synthesized-text : (group : List ℕ) (n : ℕ) → n < 2 ^ 64 → all_id_chars group ≡ true →
    identifier_text (chars (index_content group n)) ≡ 36 ∷ index_content group n
unfolding identifier_text
synthesized-text group n h g =
    let run : all_id_chars (index_content group n) ≡ true = synthesized-is_id_char group n h g in
    let plain : chars (index_content group n) ≡ index_content group n = chars-IsAscii (index_content group n) (ascii_at (index_content group n) run) in
    ap (λ cs. 36 ∷ (if is_id cs then cs else quoted_text cs)) plain ∙ ap (λ t. 36 ∷ cond t (index_content group n) (quoted_text (index_content group n))) run
