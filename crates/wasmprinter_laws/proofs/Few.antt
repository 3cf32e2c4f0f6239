-- Facts about all values that fewer than 2 ^ 32 bytes encode; a section has no more. They are those of any number of
-- bytes, and in addition an expression has at most as many operators as bytes.
use Rattle.std.proofs.Common.{ℕ, ◌<◌, ◌^◌, List, ◌++◌, length, subst, sym, arith}
use Rattle.std.proofs.lemmas.List.{length-append}
use Rattle.wasmprinter_spec.specs.Grammar.{Grammar}
use Rattle.wasmprinter_spec.specs.Sized.{alone, exactly}
use Rattle.wasmprinter_spec.specs.Binary.{AreBytes}
use Rattle.wasmprinter_laws.proofs.AllSpelled.{ByteStrings, Spelled, AllSpelled, split_bytes}

-- Fewer than 2 ^ 32 bytes
abbrev pub AreFewBytes : List ℕ → Type 0
AreFewBytes text = AreBytes text × (length text < 2 ^ 32)

pub split_few : (t u : List ℕ) → AreFewBytes (t ++ u) → AreFewBytes t × AreFewBytes u
split_few t u h =
    let parts = split_bytes t u h.0 in
    ((parts.0, omega (arith, h.1, length-append t u)), (parts.1, omega (arith, h.1, length-append t u)))

abbrev pub few_bytes : ByteStrings
few_bytes = record { Are = AreFewBytes; bytes = λ text h. h.0; split = split_few }

-- Each value that fewer than 2 ^ 32 bytes encode has P.
abbrev pub FewSpelled : {A : Type 0} → Grammar A → (A → Type 0) → Type 0
FewSpelled g P = Spelled few_bytes g P

-- A value encoded by exactly n bytes has P if n is below 2 ^ 32.
pub AllSpelled-few : {A : Type 0} {g : Grammar A} {P : A → Type 0} → FewSpelled g P → (n : ℕ) → AllSpelled (exactly (alone g) n) (λ a. n < 2 ^ 32 → P a)
AllSpelled-few all n = record { has = λ p text a bytes s small. all.has p text a (bytes, subst (λ k. k < 2 ^ 32) (sym s.0) small) s.1 }
