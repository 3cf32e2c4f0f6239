-- Grammars that depend on the first byte, which is consumed or only inspected: it selects the grammar of the
-- value. The standard has no name for them.
use Rattle.std.specs.Prelude.{◌≡◌, ℕ, List, [], ◌∷◌, ◌++◌, ◌+◌, ◌<◌, ◌==◌, length, nat_lt, Option, Some, None, if◌then◌else◌, refl}
use Rattle.std.proofs.Common.{sym, ap, subst, ◌∙◌, arith, ltb}
use Rattle.std.proofs.lemmas.Bool.{ltb-true, lt-ltb}
use Rattle.std.proofs.lemmas.List.{length-append}
use Rattle.wasmprinter_spec.specs.Grammar.{Input, input, Spans, Grammar, ◌>>=◌, bind_some, some_is, byte, seq, try_map, map_value}
use Rattle.wasmprinter_spec.specs.Choices.{tested}

-- The byte c and no other.
abbrev pub only : ℕ → Grammar ℕ
only c = try_map (λ b. if b == c then Some b else None) byte

-- A byte b, which is consumed, and then a value of `h b`.
abbrev pub after_first_byte : {A : Type 0} → (ℕ → Grammar A) → Grammar A
after_first_byte h = map_value (λ x. x.1) (seq byte h)

-- A value of `h b`, where b is the first of the bytes that encode the value.
module _ {A : Type 0} (h : ℕ → Grammar A) where
  -- There is a first byte b, and the bytes, b included, encode the value by `h b`.
  abbrev pub Peeked : ℕ → List ℕ → A → Type 0
  Peeked p [] a = ⊥
  Peeked p (b ∷ bs) a = (h b).spells p (b ∷ bs) a

  -- The result of reading, if it consumed at least one of the n bytes.
  abbrev pub shorter : ℕ → A × Input → Option (A × Input)
  shorter n x = if nat_lt (length x.1.bytes) n then Some x else None

  -- Reads, from bytes that start at the given offset, a value of the grammar that h gives for the first byte. The
  -- first byte is a part of what that grammar reads.
  abbrev pub by_first_byte_of : ℕ → List ℕ → Option (A × Input)
  by_first_byte_of p [] = None
  by_first_byte_of p (b ∷ bs) = (h b).parse (input p (b ∷ bs)) >>= shorter (length (b ∷ bs))

  -- Reads a value of the grammar that h gives for the first byte of the input.
  abbrev pub by_first_byte_at : Input → Option (A × Input)
  by_first_byte_at at = by_first_byte_of at.place at.bytes

  head_of : (b : ℕ) (bs text rest : List ℕ) (p : ℕ) (a : A) → b ∷ bs ≡ text ++ rest → length rest < length (b ∷ bs) →
      (h b).spells p text a → Peeked p text a
  head_of b bs [] rest p a e lt s = absurd (omega (arith, ap length e, lt))
  head_of b bs (c ∷ cs) rest p a e lt s = let same : b ≡ c = cc in subst (λ (x : ℕ). (h x).spells p (c ∷ cs) a) same s

  sound_of : (p : ℕ) (bytes : List ℕ) (x : A × Input) → by_first_byte_of p bytes ≡ Some x → Spans Peeked (input p bytes) x
  sound_of p [] x e = absurd cc
  sound_of p (b ∷ bs) x e =
      let ((value, after), parsed, rest) = bind_some ((h b).parse (input p (b ∷ bs))) (shorter (length (b ∷ bs))) x e in
      let t = tested (ltb (length after.bytes) (length (b ∷ bs))) (Some (value, after)) x rest in
      let s = (h b).sound (input p (b ∷ bs)) (value, after) parsed in
      let spelled = head_of b bs s.text after.bytes p value s.parts (ltb-true _ _ t.0) s.spelled in
      subst (λ (z : A × Input). Spans Peeked (input p (b ∷ bs)) z) (some_is (value, after) x t.1)
      (record { text = s.text; parts = s.parts; ends = s.ends; spelled = spelled })

  pub by_first_byte_sound : (at : Input) (x : A × Input) → by_first_byte_at at ≡ Some x → Spans Peeked at x
  by_first_byte_sound at x e = sound_of at.place at.bytes x e

  complete_of : (p : ℕ) (text rest : List ℕ) (a : A) → Peeked p text a →
      by_first_byte_of p (text ++ rest) ≡ Some (a, input (p + length text) rest)
  complete_of p [] rest a s = absurd s
  complete_of p (b ∷ bs) rest a s =
      let after : Input = input (p + length (b ∷ bs)) rest in
      let e : (h b).parse (input p (b ∷ (bs ++ rest))) ≡ Some (a, after) =
      (h b).complete (input p (b ∷ (bs ++ rest))) (a, after) (record { text = b ∷ bs; parts = refl; ends = refl; spelled = s }) in
      let lt : length rest < length (b ∷ (bs ++ rest)) = omega (arith, length-append bs rest) in
      rw (e, lt-ltb (length rest) (length (b ∷ (bs ++ rest))) lt) refl

  pub by_first_byte_complete : (at : Input) (x : A × Input) → Spans Peeked at x → by_first_byte_at at ≡ Some x
  by_first_byte_complete at x s =
      ap (by_first_byte_of at.place) s.parts ∙ complete_of at.place s.text x.1.bytes x.0 s.spelled
      ∙ ap (λ (q : ℕ). Some (x.0, input q x.1.bytes)) (sym s.ends)

  -- A value of the grammar that h gives for the first of the bytes that encode the value.
  abbrev pub by_first_byte : Grammar A
  by_first_byte = record { spells = Peeked; parse = by_first_byte_at; sound = by_first_byte_sound; complete = by_first_byte_complete }
