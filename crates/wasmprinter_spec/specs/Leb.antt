-- Integers in LEB128 (section 5.2 of the standard, "Integers"): seven bits in each byte, the lowest first. A byte
-- of at least 128 is followed by another. An integer of N bits takes at most ceil(N/7) bytes. Within them, longer
-- encodings than needed are encodings too. The unused bits of the last byte are zero, or those of a signed integer
-- repeat its sign.
use Rattle.std.specs.Prelude.{◌≡◌, ℕ, ℤ, pos, negsuc, ◌+ℤ◌, ◌*ℤ◌, List, [], ◌∷◌, ◌++◌, ◌+◌, ◌*◌, ◌-◌, ◌^◌, ◌<◌, ◌≤◌, ◌⊎◌, length, Option, Some, None, nat_lt, if◌then◌else◌, refl}
use Rattle.std.proofs.Common.{sym, ap, subst, ◌∙◌, arith, cond, inl, inr, ltb}
use Rattle.std.proofs.lemmas.Bool.{ltb-true, ltb-false, lt-ltb, le-ltb}
use Rattle.wasmprinter_spec.specs.Grammar.{Input, input, Spans, Grammar, ◌>>=◌, bind_some, some_is}
use Rattle.wasmprinter_spec.specs.Choices.{tested, cond_cases}

-- The bytes encode the unsigned integer n of the given number of bits (the standard's `uN`).
abbrev pub IsUnsigned : ℕ → List ℕ → ℕ → Type 0
IsUnsigned bits [] n = ⊥
IsUnsigned bits (b ∷ bs) n =
    ((b < 128) × (b < 2 ^ bits) × (bs ≡ []) × (n ≡ b))
    ⊎ ((128 ≤ b) × (7 < bits) × (high : ℕ) × (n ≡ b - 128 + 128 * high) × IsUnsigned (bits - 7) bs high)

-- Reads an unsigned integer of the given number of bits (first argument) from bytes that start at the given offset
-- (second argument).
abbrev pub unsigned_of : ℕ → ℕ → List ℕ → Option (ℕ × Input)
unsigned_of bits p [] = None
unsigned_of bits p (b ∷ rest) =
    if nat_lt b 128 then (if nat_lt b (2 ^ bits) then Some (b, input (p + 1) rest) else None)
    else (if nat_lt 7 bits then (unsigned_of (bits - 7) (p + 1) rest >>= λ h. Some (b - 128 + 128 * h.0, h.1)) else None)

module _ (bits : ℕ) where
  -- The bytes encode the unsigned integer n of the given number of bits. The first argument is the offset where the
  -- bytes start.
  abbrev pub Unsigned : ℕ → List ℕ → ℕ → Type 0
  Unsigned p text n = IsUnsigned bits text n

  -- Reads an unsigned integer from the input.
  abbrev pub unsigned_at : Input → Option (ℕ × Input)
  unsigned_at at = unsigned_of bits at.place at.bytes

unsigned_sound_of : (bits p : ℕ) (bytes : List ℕ) (x : ℕ × Input) → unsigned_of bits p bytes ≡ Some x →
    Spans (Unsigned bits) (input p bytes) x
unsigned_sound_of bits p [] x e = absurd cc
unsigned_sound_of bits p (b ∷ rest) x e =
    let more : Option (ℕ × Input) = unsigned_of (bits - 7) (p + 1) rest >>= λ h. Some (b - 128 + 128 * h.0, h.1) in
    elim (cond_cases (ltb b 128) (cond (ltb b (2 ^ bits)) (Some (b, input (p + 1) rest)) None) (cond (ltb 7 bits) more None) (Some x) e) [
      | inl last ↦
          let t = tested (ltb b (2 ^ bits)) (Some (b, input (p + 1) rest)) x last.1 in
          subst (λ (y : ℕ × Input). Spans (Unsigned bits) (input p (b ∷ rest)) y) (some_is (b, input (p + 1) rest) x t.1)
          (record { text = b ∷ []; parts = refl; ends = refl; spelled = inl (ltb-true _ _ last.0, ltb-true _ _ t.0, refl, refl) })
      | inr other ↦
          let t = tested (ltb 7 bits) more x other.1 in
          let ((high, after), parsed, result) =
          bind_some (unsigned_of (bits - 7) (p + 1) rest) (λ h. Some (b - 128 + 128 * h.0, h.1)) x t.1 in
          let s = unsigned_sound_of (bits - 7) (p + 1) rest (high, after) parsed in
          subst (λ (y : ℕ × Input). Spans (Unsigned bits) (input p (b ∷ rest)) y) (some_is (b - 128 + 128 * high, after) x result)
          (record {
            text = b ∷ s.text;
            parts = ap (λ (r : List ℕ). b ∷ r) s.parts;
            ends = omega (arith, s.ends);
            spelled = inr (ltb-false _ _ other.0, ltb-true _ _ t.0, high, refl, s.spelled);
          })
    ]

unsigned_complete_of : (text : List ℕ) (bits p n : ℕ) (rest : List ℕ) → IsUnsigned bits text n →
    unsigned_of bits p (text ++ rest) ≡ Some (n, input (p + length text) rest)
unsigned_complete_of [] bits p n rest s = absurd s
unsigned_complete_of (b ∷ bs) bits p n rest s =
    elim s [
      | inl (below, fits, last, is) ↦
          rw (lt-ltb b 128 below, lt-ltb b (2 ^ bits) fits, last, is) refl
      | inr (above, room, high, is, spelled) ↦
          rw (le-ltb b 128 above, lt-ltb 7 bits room, unsigned_complete_of bs (bits - 7) (p + 1) high rest spelled, is)
          (ap (λ (q : ℕ). Some (b - 128 + 128 * high, input q rest)) (omega arith))
    ]

pub unsigned_sound : (bits : ℕ) (at : Input) (x : ℕ × Input) → unsigned_at bits at ≡ Some x → Spans (Unsigned bits) at x
unsigned_sound bits at x e = unsigned_sound_of bits at.place at.bytes x e

pub unsigned_complete : (bits : ℕ) (at : Input) (x : ℕ × Input) → Spans (Unsigned bits) at x → unsigned_at bits at ≡ Some x
unsigned_complete bits at x s =
    rw s.parts
    (unsigned_complete_of s.text bits at.place x.0 x.1.bytes s.spelled ∙ ap (λ (q : ℕ). Some (x.0, input q x.1.bytes)) (sym s.ends))

-- Unsigned integers of the given number of bits, in at most ceil(bits / 7) bytes, needed or not.
abbrev pub unsigned : ℕ → Grammar ℕ
unsigned bits = record { spells = Unsigned bits; parse = unsigned_at bits; sound = unsigned_sound bits; complete = unsigned_complete bits }

-- ---- Signed integers

-- The bytes encode the signed integer n of the given number of bits (the standard's `sN`). A last byte b of at
-- least 64 means b - 128.
abbrev pub IsSigned : ℕ → List ℕ → ℤ → Type 0
IsSigned bits [] n = ⊥
IsSigned bits (b ∷ bs) n =
    ((b < 64) × (b < 2 ^ (bits - 1)) × (bs ≡ []) × (n ≡ pos b))
    ⊎ (((64 ≤ b) × (b < 128) × (127 - b < 2 ^ (bits - 1)) × (bs ≡ []) × (n ≡ negsuc (127 - b)))
    ⊎ ((128 ≤ b) × (7 < bits) × (high : ℤ) × (n ≡ pos (b - 128) +ℤ pos 128 *ℤ high) × IsSigned (bits - 7) bs high))

-- Reads a signed integer of the given number of bits (first argument) from bytes that start at the given offset
-- (second argument).
abbrev pub signed_of : ℕ → ℕ → List ℕ → Option (ℤ × Input)
signed_of bits p [] = None
signed_of bits p (b ∷ rest) =
    if nat_lt b 64 then (if nat_lt b (2 ^ (bits - 1)) then Some (pos b, input (p + 1) rest) else None)
    else (if nat_lt b 128 then (if nat_lt (127 - b) (2 ^ (bits - 1)) then Some (negsuc (127 - b), input (p + 1) rest) else None)
    else (if nat_lt 7 bits then (signed_of (bits - 7) (p + 1) rest >>= λ h. Some (pos (b - 128) +ℤ pos 128 *ℤ h.0, h.1)) else None))

module _ (bits : ℕ) where
  -- The bytes encode the signed integer n of the given number of bits. The first argument is the offset where the
  -- bytes start.
  abbrev pub Signed : ℕ → List ℕ → ℤ → Type 0
  Signed p text n = IsSigned bits text n

  -- Reads a signed integer from the input.
  abbrev pub signed_at : Input → Option (ℤ × Input)
  signed_at at = signed_of bits at.place at.bytes

signed_sound_of : (bits p : ℕ) (bytes : List ℕ) (x : ℤ × Input) → signed_of bits p bytes ≡ Some x → Spans (Signed bits) (input p bytes) x
signed_sound_of bits p [] x e = absurd cc
signed_sound_of bits p (b ∷ rest) x e =
    let more : Option (ℤ × Input) = signed_of (bits - 7) (p + 1) rest >>= λ h. Some (pos (b - 128) +ℤ pos 128 *ℤ h.0, h.1) in
    let positive : Option (ℤ × Input) = Some (pos b, input (p + 1) rest) in
    let negative : Option (ℤ × Input) = Some (negsuc (127 - b), input (p + 1) rest) in
    let P : ℤ × Input → Type 0 = λ y. Spans (Signed bits) (input p (b ∷ rest)) y in
    let from_64 : Option (ℤ × Input) =
    cond (ltb b 128) (cond (ltb (127 - b) (2 ^ (bits - 1))) negative None) (cond (ltb 7 bits) more None) in
    elim (cond_cases (ltb b 64) (cond (ltb b (2 ^ (bits - 1))) positive None) from_64 (Some x) e) [
      | inl last ↦
          let t = tested (ltb b (2 ^ (bits - 1))) positive x last.1 in
          subst P (some_is (pos b, input (p + 1) rest) x t.1)
          (record { text = b ∷ []; parts = refl; ends = refl; spelled = inl (ltb-true _ _ last.0, ltb-true _ _ t.0, refl, refl) })
      | inr other ↦
          elim (cond_cases (ltb b 128) (cond (ltb (127 - b) (2 ^ (bits - 1))) negative None) (cond (ltb 7 bits) more None) (Some x) other.1) [
            | inl last ↦
                let t = tested (ltb (127 - b) (2 ^ (bits - 1))) negative x last.1 in
                subst P (some_is (negsuc (127 - b), input (p + 1) rest) x t.1)
                (record {
                  text = b ∷ [];
                  parts = refl;
                  ends = refl;
                  spelled = inr (inl (ltb-false _ _ other.0, ltb-true _ _ last.0, ltb-true _ _ t.0, refl, refl));
                })
            | inr on ↦
                let t = tested (ltb 7 bits) more x on.1 in
                let ((high, after), parsed, result) =
                bind_some (signed_of (bits - 7) (p + 1) rest) (λ h. Some (pos (b - 128) +ℤ pos 128 *ℤ h.0, h.1)) x t.1 in
                let s = signed_sound_of (bits - 7) (p + 1) rest (high, after) parsed in
                subst P (some_is (pos (b - 128) +ℤ pos 128 *ℤ high, after) x result)
                (record {
                  text = b ∷ s.text;
                  parts = ap (λ (r : List ℕ). b ∷ r) s.parts;
                  ends = omega (arith, s.ends);
                  spelled = inr (inr (ltb-false _ _ on.0, ltb-true _ _ t.0, high, refl, s.spelled));
                })
          ]
    ]

signed_complete_of : (text : List ℕ) (bits p : ℕ) (n : ℤ) (rest : List ℕ) → IsSigned bits text n →
    signed_of bits p (text ++ rest) ≡ Some (n, input (p + length text) rest)
signed_complete_of [] bits p n rest s = absurd s
signed_complete_of (b ∷ bs) bits p n rest s =
    elim s [
      | inl (below, fits, last, is) ↦ rw (lt-ltb b 64 below, lt-ltb b (2 ^ (bits - 1)) fits, last, is) refl
      | inr (inl (from, below, fits, last, is)) ↦
          rw (le-ltb b 64 from, lt-ltb b 128 below, lt-ltb (127 - b) (2 ^ (bits - 1)) fits, last, is) refl
      | inr (inr (above, room, high, is, spelled)) ↦
          let others = signed_complete_of bs (bits - 7) (p + 1) high rest spelled in
          rw (le-ltb b 64 (omega (arith, above)), le-ltb b 128 above, lt-ltb 7 bits room, others, is)
          (ap (λ (q : ℕ). Some (pos (b - 128) +ℤ pos 128 *ℤ high, input q rest)) (omega arith))
    ]

pub signed_sound : (bits : ℕ) (at : Input) (x : ℤ × Input) → signed_at bits at ≡ Some x → Spans (Signed bits) at x
signed_sound bits at x e = signed_sound_of bits at.place at.bytes x e

pub signed_complete : (bits : ℕ) (at : Input) (x : ℤ × Input) → Spans (Signed bits) at x → signed_at bits at ≡ Some x
signed_complete bits at x s =
    rw s.parts
    (signed_complete_of s.text bits at.place x.0 x.1.bytes s.spelled ∙ ap (λ (q : ℕ). Some (x.0, input q x.1.bytes)) (sym s.ends))

-- Signed integers of the given number of bits, in at most ceil(bits / 7) bytes, needed or not.
abbrev pub signed : ℕ → Grammar ℤ
signed bits = record { spells = Signed bits; parse = signed_at bits; sound = signed_sound bits; complete = signed_complete bits }
