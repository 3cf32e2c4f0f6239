-- The place after the first two bytes of an explicit group of types.
use Rattle.std.specs.Prelude.{◌≡◌, ℕ, ◌+◌, ◌<◌, ◌^◌, List, [], ◌∷◌, length, Some}
use Rattle.std.proofs.Common.{ap, arith}
use Rattle.wasmprinter_spec.specs.Grammar.{Input, input, Grammar, byte, some_is}
use Rattle.wasmprinter_spec.specs.Name.{vec}
use Rattle.wasmprinter_bytes.specs.Reads.{end_of}

-- A list takes at least one byte.
list_of : {A : Type 0} (g : Grammar A) (p : ℕ) (bytes : List ℕ) (x : List A × Input) → (vec g).parse (input p bytes) ≡ Some x → 0 < length bytes
list_of g p [] x e = absurd cc
list_of g p (b ∷ bs) x e = omega arith

fits_of : {A : Type 0} (g : Grammar A) (p : ℕ) (bytes : List ℕ) (x : ℕ × Input) (y : List A × Input) → byte.parse (input p bytes) ≡ Some x → (vec g).parse x.1 ≡ Some y →
    p + length bytes < 2 ^ 64 → p + 2 < 2 ^ 64
fits_of g p [] x y e f h = absurd cc
fits_of g p (b ∷ []) x y e f h =
    let none = ap (λ (z : ℕ × Input). length z.1.bytes) (some_is (b, input (p + 1) []) x e) in
    absurd (omega (arith, none, list_of g x.1.place x.1.bytes y f))
fits_of g p (b ∷ c ∷ bs) x y e f h = omega (arith, h)

-- That place fits in 64 bits.
pub group_place : {A : Type 0} (g : Grammar A) (at : Input) (x : ℕ × Input) (y : List A × Input) → byte.parse at ≡ Some x → (vec g).parse x.1 ≡ Some y →
    end_of at < 2 ^ 64 → at.place + 2 < 2 ^ 64
group_place g at x y e f h = fits_of g at.place at.bytes x y e f h
