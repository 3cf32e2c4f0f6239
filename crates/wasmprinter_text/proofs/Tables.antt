-- Tables of bytes, and the text of bytes in a quoted string.
use Rattle.std.specs.Prelude.{◌≡◌, ℕ, zero, suc, ◌<◌, ◌≤◌, ◌+◌, ◌/◌, ◌%◌, Bool, true, false, cond, List, [], ◌∷◌, ◌++◌, length, take, set, flat_map, if◌then◌else◌}
use Rattle.std.specs.Str.{IsAscii}
use Rattle.std.specs.Fmt.{digit_glyph}
use Rattle.std.proofs.Common.{refl, sym, ap, ◌∙◌, append_assoc, arith, eqb, true≢false, slice_index_or}
use Rattle.std.proofs.lemmas.Bool.Decides.{nat_tests}
use Rattle.std.proofs.lemmas.Bool.{agree_below, agree_below_at, eqb-true}
use Rattle.std.proofs.lemmas.List.{take-set-le, length-set}
use Rattle.std.proofs.lemmas.Grind.{take-set_at}
use Rattle.std.proofs.lemmas.Str.{IsAscii-append}
use Rattle.std.proofs.lemmas.Str.Ascii.{IsAscii-nil}
use Rattle.wasmprinter_spec.specs.Quoted.{is_plain, byte_text}

unfoldable pub agrees_at : (ℕ → ℕ) → (ℕ → ℕ) → ℕ → Bool
agrees_at f g b = eqb (f b) (g b)

unfoldable pub always : ℕ → Bool
always b = true

-- Two functions have the same values below `n`.
unfoldable pub equal_below : (ℕ → ℕ) → (ℕ → ℕ) → ℕ → Bool
equal_below f g n = agree_below (agrees_at f g) always n

pub equal_at : (f g : ℕ → ℕ) (n b : ℕ) → equal_below f g n ≡ true → b < n → f b ≡ g b
unfolding equal_below agrees_at always
equal_at f g n b h k = eqb-true (f b) (g b) (agree_below_at (agrees_at f g) always n b h k)

-- The first byte of the text of a byte in a quoted string.
abbrev pub beginning : ℕ → ℕ
beginning b = if is_plain b then b else 92

-- If the text of a byte begins with a backslash, then it is the backslash and two hexadecimal digits.
pub in_digits : (b : ℕ) → beginning b ≡ 92 → byte_text b ≡ beginning b ∷ (digit_glyph false (b / 16) ∷ (digit_glyph false (b % 16) ∷ []))
unfolding byte_text
in_digits b h = by (is_plain b) refl h
  where
    digits : ℕ → List ℕ
    digits x = x ∷ (digit_glyph false (b / 16) ∷ (digit_glyph false (b % 16) ∷ []))

    by : (t : Bool) → is_plain b ≡ t → cond t b 92 ≡ 92 → cond t (b ∷ []) (digits 92) ≡ digits (cond t b 92)
    by true e k = absurd (true≢false (sym e ∙ ap is_plain k))
    by false e k = refl

-- If the text of a byte does not begin with a backslash, then it is that first byte alone.
pub as_itself : (b : ℕ) → (beginning b ≡ 92 → ⊥) → byte_text b ≡ beginning b ∷ []
unfolding byte_text
as_itself b h = by (is_plain b) h
  where
    by : (t : Bool) → (cond t b 92 ≡ 92 → ⊥) → cond t (b ∷ []) (92 ∷ (digit_glyph false (b / 16) ∷ (digit_glyph false (b % 16) ∷ []))) ≡ cond t b 92 ∷ []
    by true k = refl
    by false k = absurd (k refl)

-- ---- stores

-- After three elements are stored one after another from `i` on, the first `i + 3` elements are the old first `i`
-- and these three.
pub three_stored : (xs : List ℕ) (i a b c : ℕ) → i + 3 ≤ length xs →
    take (i + 3) (set (set (set xs i a) (i + 1) b) (i + 2) c) ≡ take i xs ++ (a ∷ (b ∷ (c ∷ [])))
three_stored xs i a b c h =
    let ys : List ℕ = set xs i a in
    let zs : List ℕ = set ys (i + 1) b in
    let m : length ys ≡ length xs = length-set xs i a in
    let n : length zs ≡ length ys = length-set ys (i + 1) b in
    take-set_at zs (i + 2) (i + 3) c (omega arith) (omega arith)
    ∙ ap (λ t. t ++ (c ∷ [])) (take-set_at ys (i + 1) (i + 2) b (omega arith) (omega arith) ∙ ap (λ t. t ++ (b ∷ [])) (take-set_at xs i (i + 1) a refl (omega arith)))
    ∙ append_assoc (take i xs ++ (a ∷ [])) (b ∷ []) (c ∷ []) ∙ append_assoc (take i xs) (a ∷ []) (b ∷ (c ∷ []))

-- The first `i + 1` elements are then the old first `i` and the first stored element.
pub first_stored : (xs : List ℕ) (i a b c : ℕ) → i + 3 ≤ length xs →
    take (i + 1) (set (set (set xs i a) (i + 1) b) (i + 2) c) ≡ take i xs ++ (a ∷ [])
first_stored xs i a b c h =
    take-set-le (i + 1) (set (set xs i a) (i + 1) b) (i + 2) c (omega arith) ∙ take-set-le (i + 1) (set xs i a) (i + 1) b (omega arith)
    ∙ take-set_at xs i (i + 1) a refl (omega arith)

-- ---- ASCII

glyph_low : (d : ℕ) → d < 16 → digit_glyph false d < 128
glyph_low d h = grind (arith, nat_tests)

pub plain_low : (b : ℕ) → is_plain b ≡ true → b < 128
plain_low b h = grind (arith, nat_tests)

ascii_cons : (b : ℕ) (bs : List ℕ) → b < 128 → IsAscii bs → IsAscii (b ∷ bs)
ascii_cons b bs h k zero = h
ascii_cons b bs h k (suc i) = k i

ascii_byte : (b : ℕ) → b < 256 → IsAscii (byte_text b)
unfolding byte_text
ascii_byte b h = by (is_plain b) refl
  where
    by : (t : Bool) → is_plain b ≡ t → IsAscii (cond t (b ∷ []) (92 ∷ (digit_glyph false (b / 16) ∷ (digit_glyph false (b % 16) ∷ []))))
    by true e = ascii_cons b [] (plain_low b e) IsAscii-nil
    by false e =
        let low : IsAscii (digit_glyph false (b % 16) ∷ []) = ascii_cons (digit_glyph false (b % 16)) [] (glyph_low (b % 16) (omega arith)) IsAscii-nil in
        let both : IsAscii (digit_glyph false (b / 16) ∷ (digit_glyph false (b % 16) ∷ [])) = ascii_cons (digit_glyph false (b / 16)) (digit_glyph false (b % 16) ∷ []) (glyph_low (b / 16) (omega arith)) low in
        ascii_cons 92 (digit_glyph false (b / 16) ∷ (digit_glyph false (b % 16) ∷ [])) (omega arith) both

pub ascii_bytes : (bs : List ℕ) → ((i : ℕ) → slice_index_or bs i 0 < 256) → IsAscii (flat_map byte_text bs)
ascii_bytes [] h = IsAscii-nil
ascii_bytes (b ∷ bs) h = IsAscii-append (byte_text b) (flat_map byte_text bs) (ascii_byte b (h 0)) (ascii_bytes bs (λ i. h (suc i)))
