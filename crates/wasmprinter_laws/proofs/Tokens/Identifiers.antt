-- Identifiers, and the annotation with a given name, read back.
use Rattle.std.proofs.Common.{◌≡◌, ℕ, Bool, true, false, cond, List, [], ◌∷◌, ◌++◌, refl, sym, ap, ap₂, ◌∙◌, true≢false, append_assoc, flat_map, encode_utf8_all, codes}
use Rattle.std.proofs.lemmas.Bool.{and_parts}
use Rattle.std.proofs.lemmas.Str.{encode_ascii}
use Rattle.std.proofs.Math.Utf8.{scalars}
use Rattle.wasmprinter_spec.specs.Character.{Class, Backslash, Dollar, At, Plain, class}
use Rattle.wasmprinter_spec.specs.Token.{open_annotation, close_paren, name, string, reserved, AsName, AsString, Clear, Tight, InRun, InQuoted, AfterDollar, Next, after_dollar, is_name, lex}
use Rattle.wasmprinter_spec.specs.Quoted.{char_text, quoted_text, is_id_char, all_id_chars, is_id, identifier_text}
use Rattle.wasmprinter_laws.proofs.Tokens.Runs.{delimited, run_goes_on, run_ends, tight_clears}
use Rattle.wasmprinter_laws.proofs.Tokens.Printed.{is_printed, all_printed, all_printed-run}
use Rattle.wasmprinter_laws.proofs.Tokens.Plain.{plain_byte, is_low}
use Rattle.wasmprinter_laws.proofs.Tokens.Quotes.{chars_lex}

-- ---- plain bytes are characters of one byte

encode-printed : (cs : List ℕ) → all_printed cs ≡ true → encode_utf8_all cs ≡ cs
encode-printed [] h = refl
encode-printed (c ∷ cs) h =
    let parts : (is_printed c ≡ true) × (all_printed cs ≡ true) = and_parts (is_printed c) (all_printed cs) h in
    ap₂ (λ x y. x ++ y) (encode_ascii c (is_low c (plain_byte c parts.0))) (encode-printed cs parts.1)

-- ---- identifiers

after_dollar_begins : (c : Class) (b : ℕ) (k : Next) → is_id_char c ≡ true → after_dollar c b k ≡ k (InRun AsName (b ∷ []))
after_dollar_begins Backslash b k h = refl
after_dollar_begins Dollar b k h = refl
after_dollar_begins At b k h = refl
after_dollar_begins Plain b k h = refl
after_dollar_begins _ b k h = absurd (true≢false (sym h))

pub run_name : (cs rest : List ℕ) → is_id cs ≡ true → delimited rest ≡ true → lex AfterDollar (cs ++ rest) ≡ name cs ∷ lex Clear rest
unfolding lex
run_name [] rest h d = absurd (true≢false (sym h))
run_name (b ∷ bs) rest h d =
    let parts : (is_id_char (class b) ≡ true) × (all_id_chars bs ≡ true) = and_parts (is_id_char (class b)) (all_id_chars bs) h in
    after_dollar_begins (class b) b (λ next. lex next (bs ++ rest)) parts.0
    ∙ run_goes_on AsName (b ∷ []) bs rest parts.1
    ∙ run_ends AsName (b ∷ bs) rest d

quoted_name : (cs rest : List ℕ) → scalars cs ≡ true → is_name (encode_utf8_all cs) ≡ true → delimited rest ≡ true →
    lex AfterDollar (quoted_text cs ++ rest) ≡ name (encode_utf8_all cs) ∷ lex Clear rest
unfolding lex class quoted_text
quoted_name cs rest h n d =
    ap (lex (InQuoted AsName [])) (append_assoc (flat_map char_text cs) (34 ∷ []) rest)
    ∙ chars_lex AsName [] cs (34 ∷ rest) h
    ∙ ap (λ t. cond t (name (encode_utf8_all cs)) reserved ∷ lex Tight rest) n
    ∙ ap (λ t. name (encode_utf8_all cs) ∷ t) (tight_clears rest d)

pub run_is_printed : (cs : List ℕ) → is_id cs ≡ true → all_printed cs ≡ true
run_is_printed [] h = absurd (true≢false (sym h))
run_is_printed (c ∷ cs) h = all_printed-run (c ∷ cs) h

pub identifier_lexes : (cs rest : List ℕ) → scalars cs ≡ true → is_name (encode_utf8_all cs) ≡ true → delimited rest ≡ true →
    lex Clear (identifier_text cs ++ rest) ≡ name (encode_utf8_all cs) ∷ lex Clear rest
unfolding lex class identifier_text
identifier_lexes cs rest h n d = by (is_id cs) refl
  where
    by : (t : Bool) → is_id cs ≡ t → lex AfterDollar (cond t cs (quoted_text cs) ++ rest) ≡ name (encode_utf8_all cs) ∷ lex Clear rest
    by true e = run_name cs rest e d ∙ ap (λ t. name t ∷ lex Clear rest) (sym (encode-printed cs (run_is_printed cs e)))
    by false e = quoted_name cs rest h n d

-- ---- (@name "..")

pub name_note_lexes : (cs rest : List ℕ) → scalars cs ≡ true →
    lex Clear (codes "(@name \"" ++ (flat_map char_text cs ++ (codes "\")" ++ rest))) ≡ open_annotation (codes "name") ∷ (string (encode_utf8_all cs) ∷ (close_paren ∷ lex Clear rest))
unfolding lex class
name_note_lexes cs rest h = ap (λ t. open_annotation (codes "name") ∷ t) (chars_lex AsString [] cs (codes "\")" ++ rest) h)
