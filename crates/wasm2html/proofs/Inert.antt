-- Encoded text is inert.
use Rattle.std.specs.Prelude.{◌≡◌, ℕ, ◌+◌, ◌<◌, ◌≤◌, ◌≢◌, Bool, true, false, List, [], ◌∷◌, ◌==◌, nat_lt, if◌then◌else◌}
use Rattle.std.proofs.Common.{refl, sym, ◌∙◌, arith, true≢false}
use Rattle.std.proofs.lemmas.Bool.Decides.{nat_tests, Decides-eqb}
use Rattle.std.proofs.lemmas.List.Elements.{All-nil, All-cons, All-append}
use Rattle.wasm2html.specs.Escaped.{escape_byte, escaped, IsInertByte, IsInert}

inert_byte : (b : ℕ) → 32 ≤ b → b ≢ 38 → b ≢ 60 → IsInertByte b
inert_byte b h k m = (h, k, m)

one : (b : ℕ) → IsInertByte b → IsInert (b ∷ [])
one b h = All-cons IsInertByte b [] h (All-nil IsInertByte)

two : (a b : ℕ) → IsInertByte a → IsInertByte b → IsInert (a ∷ (b ∷ []))
two a b h k = All-cons IsInertByte a (b ∷ []) h (one b k)

by_test : (t : Bool) (xs ys : List ℕ) → (t ≡ true → IsInert xs) → (t ≡ false → IsInert ys) → IsInert (if t then xs else ys)
by_test true xs ys h k = h refl
by_test false xs ys h k = k refl

at_least : (b : ℕ) → nat_lt b 32 ≡ false → 32 ≤ b
at_least b e = grind (arith, nat_tests)

other : (b n : ℕ) → (b == n) ≡ false → b ≢ n
other b n e h = true≢false (sym ((Decides-eqb b n).1 h) ∙ e)

above : (a b : ℕ) → a < b → b ≢ a
above a b h e = omega arith

percent : IsInertByte 37
percent = inert_byte 37 (omega arith) (other 37 38 refl) (other 37 60 refl)

-- The byte of a percent sign and the character `n`.
after_percent : (n : ℕ) → 61 ≤ n → IsInert (37 ∷ (n ∷ []))
after_percent n h = two 37 n percent (inert_byte n (omega arith) (above 38 n (omega arith)) (above 60 n (omega arith)))

itself : (b : ℕ) → nat_lt b 32 ≡ false → (b == 38) ≡ false → (b == 60) ≡ false → IsInert (b ∷ [])
itself b e f g = one b (inert_byte b (at_least b e) (other b 38 f) (other b 60 g))

escape_is_inert : (b : ℕ) → IsInert (escape_byte b)
escape_is_inert b =
    by_test (nat_lt b 32) _ _ (λ _. after_percent (b + 64) (omega arith)) (λ e.
    by_test (b == 37) _ _ (λ _. after_percent 101 (omega arith)) (λ _.
    by_test (b == 38) _ _ (λ _. after_percent 102 (omega arith)) (λ f.
    by_test (b == 60) _ _ (λ _. after_percent 124 (omega arith)) (λ g. itself b e f g))))

pub escaped_is_inert : (text : List ℕ) → IsInert (escaped text)
escaped_is_inert [] = All-nil IsInertByte
escaped_is_inert (b ∷ text) =
    All-append IsInertByte (escape_byte b) (escaped text) (escape_is_inert b) (escaped_is_inert text)
