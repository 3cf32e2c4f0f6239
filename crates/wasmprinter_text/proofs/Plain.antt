-- Plain characters at the start of a text: a quoted string contains them unescaped.
use Rattle.std.specs.Prelude.{◌≡◌, ℕ, ◌+◌, ◌<◌, List, [], ◌∷◌, ◌++◌, length, take, drop, true, flat_map, chars, IsUtf8}
use Rattle.std.specs.Char.{encode_utf8}
use Rattle.std.proofs.Common.{refl, sym, ap, ◌∙◌, append_assoc, get_or}
use Rattle.std.proofs.lemmas.List.{take_more, drop_more, nil_from_length}
use Rattle.std.proofs.lemmas.Str.{encode_ascii, chars-nil, chars_past_char, IsUtf8-past_char}
use Rattle.wasmprinter_spec.specs.Quoted.{is_plain, char_text, byte_text}
use Rattle.wasmprinter_text.proofs.Tables.{plain_low}

-- The empty text has no characters in a quoted string.
pub none_left : (bs : List ℕ) → length bs ≡ 0 → flat_map char_text (chars bs) ≡ []
none_left bs e = ap (λ (s : List ℕ). flat_map char_text (chars s)) (nil_from_length bs e) ∙ ap (flat_map char_text) chars-nil

-- The text of a character in a quoted string, and then that of the characters after it.
pub next_char : (bs rest : List ℕ) (c : ℕ) → IsUtf8 bs → bs ≡ encode_utf8 c ++ rest →
    flat_map char_text (chars bs) ≡ char_text c ++ flat_map char_text (chars rest)
next_char bs rest c u e = ap (flat_map char_text) (chars_past_char bs rest c u e)

-- A quoted string contains the first `i` bytes of the text unescaped, and the rest of the text is valid UTF-8.
abbrev pub BeginsPlain : List ℕ → ℕ → Type 0
BeginsPlain bs i = IsUtf8 (drop i bs) × (flat_map char_text (chars bs) ≡ take i bs ++ flat_map char_text (chars (drop i bs)))

itself : (c : ℕ) → is_plain c ≡ true → char_text c ≡ c ∷ []
unfolding char_text
itself c h = rw h refl

-- The UTF-8 encoding of a plain character is its text in a quoted string.
pub plain_char : (c : ℕ) → is_plain c ≡ true → encode_utf8 c ≡ char_text c
plain_char c h = encode_ascii c (plain_low c h) ∙ sym (itself c h)

byte_itself : (b : ℕ) → is_plain b ≡ true → byte_text b ≡ b ∷ []
unfolding byte_text
byte_itself b h = rw h refl

-- The UTF-8 encoding of a plain byte is its text in a quoted string.
pub plain_byte : (b : ℕ) → is_plain b ≡ true → encode_utf8 b ≡ byte_text b
plain_byte b h = encode_ascii b (plain_low b h) ∙ sym (byte_itself b h)

-- If `BeginsPlain` holds for `i` bytes and the next character is plain, then it holds for one more byte.
pub plain_more : (bs : List ℕ) (i : ℕ) → i < length bs → is_plain (get_or bs i 0) ≡ true → BeginsPlain bs i → BeginsPlain bs (i + 1)
plain_more bs i l h (u, e) =
    let b = get_or bs i 0 in
    let left = drop (i + 1) bs in
    let split : drop i bs ≡ encode_utf8 b ++ left = drop_more bs i 0 l ∙ ap (λ x. x ++ left) (sym (encode_ascii b (plain_low b h))) in (
      IsUtf8-past_char (drop i bs) left b u split,
      e
          ∙ ap (λ cs. take i bs ++ flat_map char_text cs) (chars_past_char (drop i bs) left b u split)
          ∙ ap (λ x. take i bs ++ (x ++ flat_map char_text (chars left))) (itself b h)
          ∙ sym (append_assoc (take i bs) (b ∷ []) (flat_map char_text (chars left)))
          ∙ ap (λ x. x ++ flat_map char_text (chars left)) (sym (take_more bs i 0 l)),
    )
