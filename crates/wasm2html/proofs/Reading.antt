-- The text can be read from its encoding.
use Rattle.std.specs.Prelude.{◌≡◌, ℕ, ◌+◌, ◌-◌, Bool, true, false, List, [], ◌∷◌, ◌++◌, ◌==◌, nat_lt, if◌then◌else◌}
use Rattle.std.proofs.Common.{refl, ap, ◌∙◌, arith}
use Rattle.std.proofs.lemmas.Bool.Decides.{Decides-eqb}
use Rattle.wasm2html.specs.Escaped.{escape_byte, escaped, unescaped}

-- What `xs` represents, with `ys` after it, is `b` with what `ys` represents after it.
abbrev Represents : List ℕ → ℕ → List ℕ → Type 0
Represents xs b ys = unescaped (xs ++ ys) ≡ b ∷ unescaped ys

by_test : (t : Bool) (xs ys : List ℕ) (b : ℕ) (zs : List ℕ) → (t ≡ true → Represents xs b zs) → (t ≡ false → Represents ys b zs) →
    Represents (if t then xs else ys) b zs
by_test true xs ys b zs h k = h refl
by_test false xs ys b zs h k = k refl

equal : (b n : ℕ) → (b == n) ≡ true → b ≡ n
equal b n e = (Decides-eqb b n).0 e

pair : (n b : ℕ) (ys : List ℕ) → n - 64 ≡ b → Represents (37 ∷ (n ∷ [])) b ys
pair n b ys h = ap (λ x. x ∷ unescaped ys) h

itself : (b : ℕ) (ys : List ℕ) → (b == 37) ≡ false → Represents (b ∷ []) b ys
itself b [] e = refl
itself b (c ∷ ys) e = rw e refl

byte_is_read : (b : ℕ) (ys : List ℕ) → Represents (escape_byte b) b ys
byte_is_read b ys =
    by_test (nat_lt b 32) _ _ b ys (λ _. pair (b + 64) b ys (omega arith)) (λ _.
    by_test (b == 37) _ _ b ys (λ e. let h : b ≡ 37 = equal b 37 e in pair 101 b ys (omega arith)) (λ f.
    by_test (b == 38) _ _ b ys (λ e. let h : b ≡ 38 = equal b 38 e in pair 102 b ys (omega arith)) (λ _.
    by_test (b == 60) _ _ b ys (λ e. let h : b ≡ 60 = equal b 60 e in pair 124 b ys (omega arith)) (λ _. itself b ys f))))

pub text_is_read : (text : List ℕ) → unescaped (escaped text) ≡ text
text_is_read [] = refl
text_is_read (b ∷ text) = byte_is_read b (escaped text) ∙ ap (λ xs. b ∷ xs) (text_is_read text)
