-- Names and words in messages, character by character.
use Rattle.std.specs.Prelude.{◌≡◌, ℕ, List, [], ◌∷◌, ◌++◌, length, flat_map, chars, encode_utf8, encode_utf8_all, Bool, true, false, ◌||◌, IsUtf8, if◌then◌else◌}
use Rattle.std.specs.List.{list_any}
use Rattle.std.specs.Char.Escape.{escape_default}
use Rattle.std.proofs.Common.{refl, sym, ap, ◌∙◌, append-nil, append_assoc}
use Rattle.std.proofs.lemmas.Bool.{or_parts}
use Rattle.std.proofs.lemmas.List.{nil_from_length}
use Rattle.std.proofs.lemmas.Str.{chars-nil, chars_past_char, encodes-append, encodes-chars}
use Rattle.wasm2text.specs.Messages.{is_escaped, message_char, in_message}

-- The empty text in a message.
pub none_left : (bs : List ℕ) → length bs ≡ 0 → in_message bs ≡ []
none_left bs e = ap in_message (nil_from_length bs e) ∙ ap (λ (cs : List ℕ). encode_utf8_all (flat_map message_char cs)) chars-nil

-- A character in a message, and then the characters after it.
pub next_char : (bs rest : List ℕ) (c : ℕ) → IsUtf8 bs → bs ≡ encode_utf8 c ++ rest → in_message bs ≡ encode_utf8_all (message_char c) ++ in_message rest
next_char bs rest c u e =
    ap (λ (cs : List ℕ). encode_utf8_all (flat_map message_char cs)) (chars_past_char bs rest c u e)
    ∙ encodes-append (message_char c) (flat_map message_char (chars rest))

-- The text `written`, and then a character and the characters after it.
pub written_more : (written bs rest : List ℕ) (c : ℕ) → IsUtf8 bs → bs ≡ encode_utf8 c ++ rest →
    (written ++ encode_utf8_all (message_char c)) ++ in_message rest ≡ written ++ in_message bs
written_more written bs rest c u e =
    append_assoc written (encode_utf8_all (message_char c)) (in_message rest) ∙ ap (λ (t : List ℕ). written ++ t) (sym (next_char bs rest c u e))

-- A character that is not escaped.
as_itself : (c : ℕ) → is_escaped c ≡ false → message_char c ≡ c ∷ []
as_itself c e = ap (λ (b : Bool). if b then escape_default c else c ∷ []) e

-- A character that is escaped.
pub as_escape : (c : ℕ) → is_escaped c ≡ true → message_char c ≡ escape_default c
as_escape c e = ap (λ (b : Bool). if b then escape_default c else c ∷ []) e

pub encoded_itself : (c : ℕ) → is_escaped c ≡ false → encode_utf8 c ≡ encode_utf8_all (message_char c)
encoded_itself c e = sym (ap encode_utf8_all (as_itself c e) ∙ append-nil (encode_utf8 c))

all_as_themselves : (cs : List ℕ) → list_any is_escaped cs ≡ false → flat_map message_char cs ≡ cs
all_as_themselves [] e = refl
all_as_themselves (c ∷ cs) e =
    let parts = or_parts (is_escaped c) (list_any is_escaped cs) e in
    ap (λ (t : List ℕ). t ++ flat_map message_char cs) (as_itself c parts.0) ∙ ap (λ (t : List ℕ). c ∷ t) (all_as_themselves cs parts.1)

-- A text without escapes is in a message as it is.
pub unescaped : (bs : List ℕ) → IsUtf8 bs → list_any is_escaped (chars bs) ≡ false → in_message bs ≡ bs
unescaped bs u e = ap encode_utf8_all (all_as_themselves (chars bs) e) ∙ encodes-chars bs u

-- The empty text has no escapes.
pub none_escaped : (bs : List ℕ) → length bs ≡ 0 → list_any is_escaped (chars bs) ≡ false
none_escaped bs e = ap (λ (t : List ℕ). list_any is_escaped (chars t)) (nil_from_length bs e) ∙ ap (list_any is_escaped) chars-nil

-- A text has escapes if its first character or a later one is escaped.
pub next_escaped : (bs rest : List ℕ) (c : ℕ) → IsUtf8 bs → bs ≡ encode_utf8 c ++ rest →
    list_any is_escaped (chars bs) ≡ (is_escaped c || list_any is_escaped (chars rest))
next_escaped bs rest c u e = ap (list_any is_escaped) (chars_past_char bs rest c u e)
