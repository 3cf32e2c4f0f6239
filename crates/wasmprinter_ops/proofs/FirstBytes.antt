-- Grammars that the first byte selects.
use Rattle.std.proofs.Common.{◌≡◌, ℕ, ◌<◌, List, [], ◌∷◌, length, Option, Some, refl, sym, ap, subst, ◌∙◌, arith, length-append}
use Rattle.std.specs.Prelude.{ℤ, slice_get}
use Rattle.std.proofs.lemmas.Bool.{lt-ltb}
use Rattle.wasmprinter_spec.specs.Grammar.{Input, input, Grammar, ◌>>=◌, some_is}
use Rattle.wasmprinter_spec.specs.FirstByte.{after_first_byte, shorter, by_first_byte, by_first_byte_of}
use Rattle.wasmprinter_spec.specs.Leb.{IsSigned}
use Rattle.wasmprinter_spec.specs.Binary.ValTypes.{signed_index}

module _ {A : Type 0} (h : ℕ → Grammar A) where
  peeked_of_is : (p b : ℕ) (bytes : List ℕ) (x : A × Input) → slice_get bytes 0 ≡ Some b → (h b).parse (input p bytes) ≡ Some x → length x.1.bytes < length bytes → by_first_byte_of h p bytes ≡ Some x
  peeked_of_is p b [] x s e lt = absurd cc
  peeked_of_is p b (c ∷ cs) x s e lt =
      let same : b ≡ c = sym (some_is c b s) in
      let here : (h c).parse (input p (c ∷ cs)) ≡ Some x = subst (λ (d : ℕ). (h d).parse (input p (c ∷ cs)) ≡ Some x) same e in
      ap (λ (r : Option (A × Input)). r >>= shorter h (length (c ∷ cs))) here ∙ rw (lt-ltb (length x.1.bytes) (length (c ∷ cs)) lt) refl

  -- If the first byte is b, and reading by the grammar for b gives a value and takes at least one byte, then reading
  -- by the first byte gives that value.
  pub peeked_is : (at : Input) (b : ℕ) (x : A × Input) → slice_get at.bytes 0 ≡ Some b → (h b).parse at ≡ Some x → length x.1.bytes < length at.bytes → (by_first_byte h).parse at ≡ Some x
  peeked_is at b x s e lt = peeked_of_is at.place b at.bytes x s e lt

some_signed : (bits : ℕ) (text : List ℕ) (n : ℤ) → IsSigned bits text n → 0 < length text
some_signed bits [] n s = absurd s
some_signed bits (b ∷ bs) n s = omega arith

-- A type index takes at least one byte.
pub index_takes_byte : (at : Input) (x : ℕ × Input) → signed_index.parse at ≡ Some x → length x.1.bytes < length at.bytes
index_takes_byte at x e =
    let s = signed_index.sound at x e in
    let (number, not_negative, signed) = s.spelled in
    omega (arith, ap length s.parts, length-append s.text x.1.bytes, some_signed 33 s.text number signed)

-- A value that is selected by a byte before it takes at least that byte.
pub announced_takes_byte : {A : Type 0} (h : ℕ → Grammar A) (at : Input) (x : A × Input) → (after_first_byte h).parse at ≡ Some x → length x.1.bytes < length at.bytes
announced_takes_byte h at x e =
    let s = (after_first_byte h).sound at x e in
    let (value, kept, (front, after, joined, byte_spelled, spelled)) = s.spelled in
    omega (arith, ap length s.parts, length-append s.text x.1.bytes, ap length joined, length-append front after, ap length byte_spelled)
