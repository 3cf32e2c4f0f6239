-- Quoted strings and quoted bytes read back.
use Rattle.std.proofs.Common.{◌≡◌, ℕ, ◌<◌, ◌≤◌, ◌^◌, ◌/◌, ◌%◌, ◌*◌, ◌+◌, Bool, true, false, ◌&&◌, ◌||◌, not, cond, leb, ltb, eqb, List, [], ◌∷◌, ◌++◌, refl, sym, ap, ◌∙◌, arith, true≢false, append_assoc, append-nil, flat_map, encode_utf8, encode_utf8_all, lt_trans, lit<}
use Rattle.std.proofs.lemmas.Bool.{and_parts, agree_below, agree_below_at, leb-true, lt-ltb, eqb-true}
use Rattle.std.proofs.lemmas.Str.{encode_ascii}
use Rattle.std.proofs.Math.Utf8.{scalar, scalars, scalar_fits}
use Rattle.std.specs.Char.{digit_value}
use Rattle.std.specs.Fmt.{digits, digit_glyph}
use Rattle.std.specs.List.{AllByRecursion}
use Rattle.wasmprinter_spec.specs.Character.{Class, Tab, Feed, Quote, Backslash, Control, class}
use Rattle.wasmprinter_spec.specs.Token.{string, RunKind, AsString, Clear, InQuoted, InBrace, Next, in_quoted, in_brace, in_hex, end_brace, with_char, in_escape, lex, escape, Escape, Digit}
use Rattle.wasmprinter_spec.specs.Quoted.{char_text, byte_text, is_plain, quoted_text, quoted_bytes}
use Rattle.wasmprinter_laws.proofs.Tokens.Runs.{tight_clears, delimited}
use Rattle.wasmprinter_laws.proofs.Tokens.Numbers.{no_brace, no_brace-digits, numeral-digits}

-- Whether a byte of this class needs no escape in a string
stands : Class → Bool
stands Quote = false
stands Backslash = false
stands Tab = false
stands Feed = false
stands Control = false
stands _ = true

in_quoted_stands : (p : RunKind) (s : List ℕ) (c : Class) (b : ℕ) (k : Next) → stands c ≡ true → in_quoted p s c b k ≡ k (InQuoted p (s ++ (b ∷ [])))
unfolding stands
in_quoted_stands p s Quote b k h = absurd (true≢false (sym h))
in_quoted_stands p s Backslash b k h = absurd (true≢false (sym h))
in_quoted_stands p s Tab b k h = absurd (true≢false (sym h))
in_quoted_stands p s Feed b k h = absurd (true≢false (sym h))
in_quoted_stands p s Control b k h = absurd (true≢false (sym h))
in_quoted_stands p s _ b k h = refl

plain_stands_at : ℕ → Bool
plain_stands_at c = not (is_plain c) || stands (class c)

plain_stands_below : agree_below plain_stands_at (λ c. true) 127 ≡ true
unfolding plain_stands_at class stands
plain_stands_below = refl

plain_is_low : (c : ℕ) → is_plain c ≡ true → c < 127
plain_is_low c h =
    let a : ((leb 32 c && leb c 126 && not (eqb c 34)) ≡ true) × (not (eqb c 92) ≡ true) = and_parts _ _ h in
    let b : ((leb 32 c && leb c 126) ≡ true) × (not (eqb c 34) ≡ true) = and_parts _ _ a.0 in
    let d : (leb 32 c ≡ true) × (leb c 126 ≡ true) = and_parts _ _ b.0 in
    let e : c ≤ 126 = leb-true c 126 d.1 in
    omega arith

plain_stands : (c : ℕ) → is_plain c ≡ true → stands (class c) ≡ true
unfolding plain_stands_at
plain_stands c h =
    let e : (not (is_plain c) || stands (class c)) ≡ true = agree_below_at plain_stands_at (λ x. true) 127 c plain_stands_below (plain_is_low c h) in
    rw h at e

-- A byte that is not escaped lexes as itself.
plain_lexes : (p : RunKind) (s : List ℕ) (c : ℕ) (rest : List ℕ) → is_plain c ≡ true → lex (InQuoted p s) (c ∷ rest) ≡ lex (InQuoted p (s ++ (c ∷ []))) rest
unfolding lex
plain_lexes p s c rest h = in_quoted_stands p s (class c) c (λ next. lex next rest) (plain_stands c h)

-- ---- characters

brace_goes_on : (p : RunKind) (s d w rest : List ℕ) → no_brace w ≡ true → lex (InBrace p s d) (w ++ rest) ≡ lex (InBrace p s (d ++ w)) rest
unfolding lex
brace_goes_on p s d [] rest h = ap (λ t. lex (InBrace p s t) rest) (sym (append-nil d))
brace_goes_on p s d (b ∷ bs) rest h =
    let parts : (not (eqb b 125) ≡ true) × (no_brace bs ≡ true) = and_parts (not (eqb b 125)) (no_brace bs) h in
    not_end (eqb b 125) b bs rest parts.0 (λ next. lex next (bs ++ rest))
    ∙ brace_goes_on p s (d ++ (b ∷ [])) bs rest parts.1
    ∙ ap (λ t. lex (InBrace p s t) rest) (append_assoc d (b ∷ []) bs)
  where
    not_end : (t : Bool) (b : ℕ) (bs rest : List ℕ) → not t ≡ true → (k : Next) → in_brace p s d t b k ≡ k (InBrace p s (d ++ (b ∷ [])))
    not_end true b bs rest g k = absurd (true≢false (sym g))
    not_end false b bs rest g k = refl

-- A character that is escaped by its number lexes as the bytes of its UTF-8.
escaped : (p : RunKind) (s : List ℕ) (c : ℕ) (rest : List ℕ) → scalar c ≡ true → lex (InQuoted p s) (92 ∷ (117 ∷ (123 ∷ (digits 16 false c ++ (125 ∷ rest))))) ≡ lex (InQuoted p (s ++ encode_utf8 c)) rest
unfolding lex class escape
escaped p s c rest h =
    let small : c < 16 ^ 64 = lt_trans (scalar_fits c h) (lit< tt) in
    brace_goes_on p s [] (digits 16 false c) (125 ∷ rest) (no_brace-digits c small)
    ∙ ap (λ o. end_brace p s o (λ next. lex next rest)) (numeral-digits c small)
    ∙ ap (λ t. with_char p s t c (λ next. lex next rest)) h

one_char : (p : RunKind) (s : List ℕ) (c : ℕ) (rest : List ℕ) → scalar c ≡ true → lex (InQuoted p s) (char_text c ++ rest) ≡ lex (InQuoted p (s ++ encode_utf8 c)) rest
unfolding char_text
one_char p s c rest h = by (is_plain c) refl
  where
    by : (t : Bool) → is_plain c ≡ t → lex (InQuoted p s) ((cond t (c ∷ []) (92 ∷ (117 ∷ (123 ∷ (digits 16 false c ++ (125 ∷ [])))))) ++ rest) ≡ lex (InQuoted p (s ++ encode_utf8 c)) rest
    by true e =
        plain_lexes p s c rest e
        ∙ ap (λ t. lex (InQuoted p (s ++ t)) rest) (sym (encode_ascii c (lt_trans (plain_is_low c e) (lit< tt))))
    by false e =
        ap (λ t. lex (InQuoted p s) (92 ∷ (117 ∷ (123 ∷ t)))) (append_assoc (digits 16 false c) (125 ∷ []) rest)
        ∙ escaped p s c rest h

pub chars_lex : (p : RunKind) (s cs rest : List ℕ) → scalars cs ≡ true → lex (InQuoted p s) (flat_map char_text cs ++ rest) ≡ lex (InQuoted p (s ++ encode_utf8_all cs)) rest
chars_lex p s [] rest h = ap (λ t. lex (InQuoted p t) rest) (sym (append-nil s))
chars_lex p s (c ∷ cs) rest h =
    let parts : (scalar c ≡ true) × (scalars cs ≡ true) = and_parts (scalar c) (scalars cs) h in
    ap (lex (InQuoted p s)) (append_assoc (char_text c) (flat_map char_text cs) rest)
    ∙ one_char p s c (flat_map char_text cs ++ rest) parts.0
    ∙ chars_lex p (s ++ encode_utf8 c) cs rest parts.1
    ∙ ap (λ t. lex (InQuoted p t) rest) (append_assoc s (encode_utf8 c) (encode_utf8_all cs))

-- A quoted string before a delimiter lexes to that string.
pub text_lexes : (cs rest : List ℕ) → scalars cs ≡ true → delimited rest ≡ true → lex Clear (quoted_text cs ++ rest) ≡ string (encode_utf8_all cs) ∷ lex Clear rest
unfolding lex class quoted_text
text_lexes cs rest h d =
    ap (lex (InQuoted AsString [])) (append_assoc (flat_map char_text cs) (34 ∷ []) rest)
    ∙ chars_lex AsString [] cs (34 ∷ rest) h
    ∙ ap (λ t. string (encode_utf8_all cs) ∷ t) (tight_clears rest d)

-- ---- bytes

-- The value of a digit after a backslash, or 16 if there is no digit
digit_of : Escape → ℕ
digit_of (Digit h) = h
digit_of _ = 16

is_digit_of : (e : Escape) (d : ℕ) → d < 16 → digit_of e ≡ d → e ≡ Digit d
unfolding digit_of
is_digit_of (Digit h) d small e = ap Digit e
is_digit_of _ d small e = absurd (omega arith)

glyph_at : ℕ → Bool
glyph_at d = eqb (digit_value (digit_glyph false d)) d && eqb (digit_of (escape (digit_glyph false d))) d

glyphs_below : agree_below glyph_at (λ d. true) 16 ≡ true
unfolding glyph_at digit_of escape
glyphs_below = refl

-- The character of a number below 16 has that number as its value, and is a digit after a backslash too.
record IsGlyph (d : ℕ) : Type 0 where
  value : digit_value (digit_glyph false d) ≡ d
  digit : escape (digit_glyph false d) ≡ Digit d

glyph : (d : ℕ) → d < 16 → IsGlyph d
unfolding glyph_at
glyph d h =
    let e : (eqb (digit_value (digit_glyph false d)) d && eqb (digit_of (escape (digit_glyph false d))) d) ≡ true = agree_below_at glyph_at (λ x. true) 16 d glyphs_below h in
    let parts : (eqb (digit_value (digit_glyph false d)) d ≡ true) × (eqb (digit_of (escape (digit_glyph false d))) d ≡ true) = and_parts _ _ e in
    record {
      value = eqb-true _ d parts.0;
      digit = is_digit_of (escape (digit_glyph false d)) d h (eqb-true _ d parts.1);
    }

-- A byte that is escaped by its two digits lexes as that byte.
hex_lexes : (p : RunKind) (s : List ℕ) (high low : ℕ) (rest : List ℕ) → high < 16 → low < 16 →
    lex (InQuoted p s) (92 ∷ (digit_glyph false high ∷ (digit_glyph false low ∷ rest))) ≡ lex (InQuoted p (s ++ ((high * 16 + low) ∷ []))) rest
unfolding lex class
hex_lexes p s high low rest h l =
    let first : IsGlyph high = glyph high h in
    let second : IsGlyph low = glyph low l in
    let is_hex : ltb (digit_value (digit_glyph false low)) 16 ≡ true = ap (λ d. ltb d 16) second.value ∙ lt-ltb low 16 l in
    ap (λ e. in_escape p s e (λ next. lex next (digit_glyph false low ∷ rest))) first.digit
    ∙ ap (λ t. in_hex p s high t (digit_glyph false low) (λ next. lex next rest)) is_hex
    ∙ ap (λ d. lex (InQuoted p (s ++ ((high * 16 + d) ∷ []))) rest) second.value

one_byte : (p : RunKind) (s : List ℕ) (b : ℕ) (rest : List ℕ) → b < 256 → lex (InQuoted p s) (byte_text b ++ rest) ≡ lex (InQuoted p (s ++ (b ∷ []))) rest
unfolding byte_text
one_byte p s b rest h = by (is_plain b) refl
  where
    by : (t : Bool) → is_plain b ≡ t → lex (InQuoted p s) (cond t (b ∷ []) (92 ∷ (digit_glyph false (b / 16) ∷ (digit_glyph false (b % 16) ∷ []))) ++ rest) ≡ lex (InQuoted p (s ++ (b ∷ []))) rest
    by true e = plain_lexes p s b rest e
    by false e =
        hex_lexes p s (b / 16) (b % 16) rest (omega arith) (omega arith)
        ∙ ap (λ n. lex (InQuoted p (s ++ (n ∷ []))) rest) (omega arith)

bytes_lex : (p : RunKind) (s bs rest : List ℕ) → AllByRecursion (λ b. b < 256) bs → lex (InQuoted p s) (flat_map byte_text bs ++ rest) ≡ lex (InQuoted p (s ++ bs)) rest
bytes_lex p s [] rest h = ap (λ t. lex (InQuoted p t) rest) (sym (append-nil s))
bytes_lex p s (b ∷ bs) rest h =
    ap (lex (InQuoted p s)) (append_assoc (byte_text b) (flat_map byte_text bs) rest)
    ∙ one_byte p s b (flat_map byte_text bs ++ rest) h.0
    ∙ bytes_lex p (s ++ (b ∷ [])) bs rest h.1
    ∙ ap (λ t. lex (InQuoted p t) rest) (append_assoc s (b ∷ []) bs)

-- Quoted bytes before a delimiter lex to the string of these bytes.
pub quoted_bytes_lex : (bs rest : List ℕ) → AllByRecursion (λ b. b < 256) bs → delimited rest ≡ true → lex Clear (quoted_bytes bs ++ rest) ≡ string bs ∷ lex Clear rest
unfolding lex class quoted_bytes
quoted_bytes_lex bs rest h d =
    ap (lex (InQuoted AsString [])) (append_assoc (flat_map byte_text bs) (34 ∷ []) rest)
    ∙ bytes_lex AsString [] bs (34 ∷ rest) h
    ∙ ap (λ t. string bs ∷ t) (tight_clears rest d)
