-- A size, and a value of exactly that many bytes, which are cut out and read separately.
use Rattle.std.proofs.Common.{◌≡◌, ℕ, ◌+◌, ◌≤◌, List, [], ◌∷◌, ◌++◌, length, Option, Some, None, refl, sym, ap, ◌∙◌, arith, length-append}
use Rattle.wasmprinter_spec.specs.Grammar.{Input, input, Grammar, Remainder, ◌>>=◌, bind_some, some_is, seq}
use Rattle.wasmprinter_spec.specs.Sized.{front_at, front_sound, exactly, alone, value_at_end}
use Rattle.wasmprinter_spec.specs.Name.{u32}
use Rattle.wasmprinter_bytes.specs.Reads.{end_of}

-- ---- A value with nothing after it

module _ {A : Type 0} (g : Grammar A) (at : Input) where
  -- The value is the one that was read.
  ended_is : (bytes : List ℕ) (a b : A) → value_at_end bytes a ≡ Some b → a ≡ b
  ended_is [] a b e = some_is a b e
  ended_is (c ∷ cs) a b e = absurd cc

  -- If a value takes all bytes, it can be read.
  pub alone_some : (a : A) → (alone g).parse at ≡ Some a → (after : Input) × (g.parse at ≡ Some (a, after))
  alone_some a e =
      let ((value, after), parsed, ended) = bind_some (g.parse at) (λ y. value_at_end y.1.bytes y.0) a e in
      (after, parsed ∙ ap (λ (v : A). Some (v, after)) (ended_is after.bytes value a ended))

  -- If no value can be read, no value takes all bytes.
  pub alone_none : g.parse at ≡ None → (alone g).parse at ≡ None
  alone_none e = rw e refl

  -- A value that was read, with no bytes after it, takes all bytes.
  pub alone_read : (a : A) (after : Input) → g.parse at ≡ Some (a, after) → after.bytes ≡ [] → (alone g).parse at ≡ Some a
  alone_read a after e none = rw (e, none) refl

  -- If bytes remain after the value, no value takes all bytes.
  left_none : (bytes : List ℕ) (a : A) → (bytes ≡ [] → ⊥) → value_at_end bytes a ≡ None
  left_none [] a some = absurd (some refl)
  left_none (c ∷ cs) a some = refl

  pub alone_left : (a : A) (after : Input) → g.parse at ≡ Some (a, after) → (after.bytes ≡ [] → ⊥) → (alone g).parse at ≡ None
  alone_left a after e some = rw e (left_none after.bytes a some)

-- ---- The part that is cut out: the size, and the position after the part

module _ (old mid part new : Input) (size : ℕ) (size_read : u32.parse old ≡ Some (size, mid)) (cut : front_at size mid ≡ Some (part.bytes, new)) (begins : part.place ≡ mid.place) where
  -- The bytes are the size, the part, and the rest.
  pub old_parts : (t : List ℕ) × (old.bytes ≡ t ++ (part.bytes ++ new.bytes)) × (part.place ≡ old.place + length t) × u32.spells old.place t size
  old_parts =
      let s = u32.sound old (size, mid) size_read in
      let f = front_sound size mid (part.bytes, new) cut in
      let same : f.text ≡ part.bytes = sym f.spelled.1 in
      (s.text, s.parts ∙ ap (λ (bs : List ℕ). s.text ++ bs) (f.parts ∙ ap (λ (bs : List ℕ). bs ++ new.bytes) same), begins ∙ s.ends, s.spelled)

  -- The part starts no earlier and ends no later than the whole.
  pub part_within : (old.place ≤ part.place) × (end_of part ≤ end_of old)
  part_within =
      let (text, split, after, spelled) = old_parts in
      omega (arith, ap length split, after, length-append text (part.bytes ++ new.bytes), length-append part.bytes new.bytes)

  module _ {A : Type 0} (w : Remainder A) where
    -- A size, and a value of that many bytes.
    abbrev pub sized : Grammar (ℕ × A)
    sized = seq u32 (λ size. exactly w size)

    -- The value that was read from the part, with its size.
    abbrev with_size : Option A → Option ((ℕ × A) × Input)
    with_size r = r >>= λ a. Some ((size, a), new)

    -- The value that was read from the part, with the position after the part.
    abbrev cut_out : Option A → Option (A × Input)
    cut_out r = r >>= λ a. Some (a, new)

    -- The value that was read, with its size.
    abbrev after_size : Option (A × Input) → Option ((ℕ × A) × Input)
    after_size r = r >>= λ b. Some ((size, b.0), b.1)

    -- Adding the size after the position gives the same result as adding both at once.
    regroup : (r : Option A) → after_size (cut_out r) ≡ with_size r
    regroup None = refl
    regroup (Some a) = refl

    -- The part starts at its own place.
    there : input mid.place part.bytes ≡ part
    there = ap (λ (p : ℕ). input p part.bytes) (sym begins)

    -- Reading the size and the value gives the size and the result of reading the part.
    pub sized_is : sized.parse old ≡ with_size (w.parse part)
    sized_is = rw (size_read, cut, there) (regroup (w.parse part))

    -- If no value can be read from the part, no value can be read with its size.
    pub sized_none : w.parse part ≡ None → sized.parse old ≡ None
    sized_none e = sized_is ∙ ap with_size e

    -- If a value is read with its size, reading the part gives that value.
    pub sized_some : (x : (ℕ × A) × Input) → sized.parse old ≡ Some x → w.parse part ≡ Some x.0.1
    sized_some x e =
        let ((front, value), after) = x in
        let (own, parsed, given) = bind_some (w.parse part) (λ a. Some ((size, a), new)) x (sym sized_is ∙ e) in
        let same : own ≡ value = ap (λ (((_, v), _) : (ℕ × A) × Input). v) (some_is ((size, own), new) x given) in
        parsed ∙ ap (λ (v : A). Some v) same
