-- Grammars with a given number of bytes: n bytes, a value in exactly n bytes, a value that all bytes encode, a
-- value and a remainder, and all remaining bytes (section 5.5 of the standard: "Sections" have a size, "Modules" a
-- preamble).
use Rattle.std.specs.Prelude.{◌≡◌, ℕ, List, [], ◌∷◌, ◌++◌, ◌+◌, ◌≤◌, length, take, drop, false, Option, Some, None, nat_lt, if◌then◌else◌, refl}
use Rattle.std.proofs.Common.{sym, ap, subst, ◌∙◌, arith, ltb}
use Rattle.std.proofs.lemmas.Bool.{ltb-false, le-ltb}
use Rattle.std.proofs.lemmas.List.{length-append, length-take-le, take-append-drop, take_at, drop_at, append-nil}
use Rattle.wasmprinter_spec.specs.Grammar.{Input, input, Spans, Grammar, Remainder, ◌>>=◌, bind_some, some_is, Placed}
use Rattle.wasmprinter_spec.specs.Choices.{untested}

-- n bytes, which encode themselves.
module _ (n : ℕ) where
  -- There are n bytes, and the value is these bytes.
  abbrev pub Front : ℕ → List ℕ → List ℕ → Type 0
  Front p text bytes = (length text ≡ n) × (bytes ≡ text)

  -- Reads n bytes; `None` if there are fewer.
  abbrev pub front_at : Input → Option (List ℕ × Input)
  front_at at = if nat_lt (length at.bytes) n then None else Some (take n at.bytes, input (at.place + n) (drop n at.bytes))

  pub front_sound : (at : Input) (x : List ℕ × Input) → front_at at ≡ Some x → Spans Front at x
  front_sound at x e =
      let t = untested (ltb (length at.bytes) n) (Some (take n at.bytes, input (at.place + n) (drop n at.bytes))) x e in
      let long : n ≤ length at.bytes = ltb-false _ _ t.0 in
      let len : length (take n at.bytes) ≡ n = length-take-le n at.bytes long in
      subst (λ (y : List ℕ × Input). Spans Front at y) (some_is (take n at.bytes, input (at.place + n) (drop n at.bytes)) x t.1)
      (record {
        text = take n at.bytes;
        parts = sym (take-append-drop n at.bytes);
        ends = ap (λ (k : ℕ). at.place + k) (sym len);
        spelled = (len, refl);
      })

  pub front_complete : (at : Input) (x : List ℕ × Input) → Spans Front at x → front_at at ≡ Some x
  front_complete at x s =
      let len : length s.text ≡ n = s.spelled.0 in
      let long : ltb (length at.bytes) n ≡ false = le-ltb _ _ (omega (arith, ap length s.parts, length-append s.text x.1.bytes)) in
      let t : take n at.bytes ≡ x.0 = ap (take n) s.parts ∙ take_at s.text x.1.bytes n len ∙ sym s.spelled.1 in
      let d : drop n at.bytes ≡ x.1.bytes = ap (drop n) s.parts ∙ drop_at s.text x.1.bytes n len in
      let l : at.place + n ≡ x.1.place = ap (λ (k : ℕ). at.place + k) (sym len) ∙ sym s.ends in
      rw (long, t, d, l) refl

  -- The grammar of n bytes, which encode themselves.
  abbrev pub take_bytes : Grammar (List ℕ)
  take_bytes = record { spells = Front; parse = front_at; sound = front_sound; complete = front_complete }

-- A value that exactly n bytes encode.
module _ {A : Type 0} (w : Remainder A) where
  module _ (n : ℕ) where
    -- There are n bytes, and all of them encode the value by w.
    abbrev pub Exactly : ℕ → List ℕ → A → Type 0
    Exactly p text a = (length text ≡ n) × w.spells p text a

    -- Reads n bytes, all of which must encode a value of w.
    abbrev pub exactly_at : Input → Option (A × Input)
    exactly_at at = front_at n at >>= λ x. w.parse (input at.place x.0) >>= λ a. Some (a, x.1)

    pub exactly_sound : (at : Input) (x : A × Input) → exactly_at at ≡ Some x → Spans Exactly at x
    exactly_sound at x e =
        let ((front, after), taken, rest) = bind_some (front_at n at) (λ x. w.parse (input at.place x.0) >>= λ a. Some (a, x.1)) x e in
        let (value, parsed, result) = bind_some (w.parse (input at.place front)) (λ a. Some (a, after)) x rest in
        let s = front_sound n at (front, after) taken in
        let spelled = subst (λ (t : List ℕ). w.spells at.place t value) s.spelled.1 (w.sound (input at.place front) value parsed) in
        subst (λ (y : A × Input). Spans Exactly at y) (some_is (value, after) x result)
        (record { text = s.text; parts = s.parts; ends = s.ends; spelled = (s.spelled.0, spelled) })

    pub exactly_complete : (at : Input) (x : A × Input) → Spans Exactly at x → exactly_at at ≡ Some x
    exactly_complete at x s =
        let f : front_at n at ≡ Some (s.text, x.1) =
        front_complete n at (s.text, x.1) (record { text = s.text; parts = s.parts; ends = s.ends; spelled = (s.spelled.0, refl) }) in
        let a : w.parse (input at.place s.text) ≡ Some x.0 = w.complete (input at.place s.text) x.0 s.spelled.1 in
        rw (f, a) refl

    -- The values of w that exactly n bytes encode.
    abbrev pub exactly : Grammar A
    exactly = record { spells = Exactly; parse = exactly_at; sound = exactly_sound; complete = exactly_complete }

-- The value, if no byte remains after it.
abbrev pub value_at_end : {A : Type 0} → List ℕ → A → Option A
value_at_end [] a = Some a
value_at_end (b ∷ bs) a = None

-- A value of g that all bytes encode: no byte remains after it.
module _ {A : Type 0} (g : Grammar A) where
  -- Reads a value of g; `None` if a byte remains after it.
  abbrev pub alone_at : Input → Option A
  alone_at at = g.parse at >>= λ x. value_at_end x.1.bytes x.0

  ended_some : (bytes : List ℕ) (a b : A) → value_at_end bytes a ≡ Some b → (bytes ≡ []) × (a ≡ b)
  ended_some [] a b e = (refl, some_is a b e)
  ended_some (c ∷ cs) a b e = absurd cc

  pub alone_sound : (at : Input) (a : A) → alone_at at ≡ Some a → g.spells at.place at.bytes a
  alone_sound at a e =
      let ((value, after), parsed, result) = bind_some (g.parse at) (λ x. value_at_end x.1.bytes x.0) a e in
      let (none_left, same) = ended_some after.bytes value a result in
      let s = g.sound at (value, after) parsed in
      let t : s.text ≡ at.bytes = sym (s.parts ∙ ap (λ (r : List ℕ). s.text ++ r) none_left ∙ append-nil s.text) in
      subst (λ (b : A). g.spells at.place at.bytes b) same (subst (λ (r : List ℕ). g.spells at.place r value) t s.spelled)

  pub alone_complete : (at : Input) (a : A) → g.spells at.place at.bytes a → alone_at at ≡ Some a
  alone_complete at a s =
      let e : g.parse at ≡ Some (a, input (at.place + length at.bytes) []) =
      g.complete at (a, input (at.place + length at.bytes) [])
      (record { text = at.bytes; parts = sym (append-nil at.bytes); ends = refl; spelled = s }) in
      rw e refl

  -- The values of g, each encoded by all bytes of the input.
  abbrev pub alone : Remainder A
  alone = record { spells = g.spells; parse = alone_at; sound = alone_sound; complete = alone_complete }

-- A value, and then another, which all other bytes encode.
module _ {A B : Type 0} (g : Grammar A) (w : Remainder B) where
  -- The bytes are those of x.0 by g, followed by those of x.1 by w.
  abbrev pub Headed : ℕ → List ℕ → A × B → Type 0
  Headed p text x = (t u : List ℕ) × (text ≡ t ++ u) × g.spells p t x.0 × w.spells (p + length t) u x.1

  -- Reads a value of g, and then a value of w up to the end of the input.
  abbrev pub seq_to_end_at : Input → Option (A × B)
  seq_to_end_at at = g.parse at >>= λ a. w.parse a.1 >>= λ b. Some (a.0, b)

  pub seq_to_end_sound : (at : Input) (x : A × B) → seq_to_end_at at ≡ Some x → Headed at.place at.bytes x
  seq_to_end_sound at x e =
      let ((first, mid), first_parsed, rest) = bind_some (g.parse at) (λ a. w.parse a.1 >>= λ b. Some (a.0, b)) x e in
      let (second, second_parsed, result) = bind_some (w.parse mid) (λ b. Some (first, b)) x rest in
      let s = g.sound at (first, mid) first_parsed in
      subst (λ (y : A × B). Headed at.place at.bytes y) (some_is (first, second) x result)
      (s.text, mid.bytes, s.parts, s.spelled, subst (λ (p : ℕ). w.spells p mid.bytes second) s.ends (w.sound mid second second_parsed))

  pub seq_to_end_complete : (at : Input) (x : A × B) → Headed at.place at.bytes x → seq_to_end_at at ≡ Some x
  seq_to_end_complete at x s =
      let (t, u, joined, first_spelled, second_spelled) = s in
      let mid : Input = input (at.place + length t) u in
      let e : g.parse at ≡ Some (x.0, mid) =
      g.complete at (x.0, mid) (record { text = t; parts = joined; ends = refl; spelled = first_spelled }) in
      let f : w.parse mid ≡ Some x.1 = w.complete mid x.1 second_spelled in
      rw (e, f) refl

  -- A value of g, and then a value of w up to the end of the input.
  abbrev pub seq_to_end : Remainder (A × B)
  seq_to_end = record { spells = Headed; parse = seq_to_end_at; sound = seq_to_end_sound; complete = seq_to_end_complete }

-- All remaining bytes, with the place of the first.
abbrev pub AllLeft : ℕ → List ℕ → Placed (List ℕ) → Type 0
AllLeft p text x = (x.place ≡ p) × (x.value ≡ text)

-- Reads all bytes of the input and returns them with the place of the first.
abbrev pub remaining_bytes_at : Input → Option (Placed (List ℕ))
remaining_bytes_at at = Some (record { place = at.place; value = at.bytes })

pub remaining_bytes_sound : (at : Input) (x : Placed (List ℕ)) → remaining_bytes_at at ≡ Some x → AllLeft at.place at.bytes x
remaining_bytes_sound at x e =
    let s = some_is (record { place = at.place; value = at.bytes }) x e in
    (sym (ap (λ (y : Placed (List ℕ)). y.place) s), sym (ap (λ (y : Placed (List ℕ)). y.value) s))

pub remaining_bytes_complete : (at : Input) (x : Placed (List ℕ)) → AllLeft at.place at.bytes x → remaining_bytes_at at ≡ Some x
remaining_bytes_complete at x s = rw (← s.0, ← s.1) refl

-- The grammar of all remaining bytes, which encode themselves, with the place of the first.
abbrev pub remaining_bytes : Remainder (Placed (List ℕ))
remaining_bytes =
    record { spells = AllLeft; parse = remaining_bytes_at; sound = remaining_bytes_sound; complete = remaining_bytes_complete }

-- A value that all bytes encode, with the place of the first.
module _ {A : Type 0} (w : Remainder A) where
  -- All bytes encode the value of x by w, and the place of x is the offset p where they start.
  abbrev pub PlacedWhole : ℕ → List ℕ → Placed A → Type 0
  PlacedWhole p text x = (x.place ≡ p) × w.spells p text x.value

  -- Reads a value of w up to the end of the input and returns it with the place where it starts.
  abbrev pub whole_with_place_at : Input → Option (Placed A)
  whole_with_place_at at = w.parse at >>= λ a. Some (record { place = at.place; value = a })

  pub whole_with_place_sound : (at : Input) (x : Placed A) → whole_with_place_at at ≡ Some x → PlacedWhole at.place at.bytes x
  whole_with_place_sound at x e =
      let with_place : A → Placed A = λ a. record { place = at.place; value = a } in
      let (value, parsed, result) = bind_some (w.parse at) (λ a. Some (with_place a)) x e in
      subst (λ (y : Placed A). PlacedWhole at.place at.bytes y) (some_is (with_place value) x result) (refl, w.sound at value parsed)

  pub whole_with_place_complete : (at : Input) (x : Placed A) → PlacedWhole at.place at.bytes x → whole_with_place_at at ≡ Some x
  whole_with_place_complete at x s = rw (w.complete at x.value s.1, ← s.0) refl

  -- The values of w, each with its place.
  abbrev pub whole_with_place : Remainder (Placed A)
  whole_with_place =
      record { spells = PlacedWhole; parse = whole_with_place_at; sound = whole_with_place_sound; complete = whole_with_place_complete }

-- The values of w under a partial function, which also takes the place where the bytes end.
module _ {A B : Type 0} (f : ℕ → A → Option B) (w : Remainder A) where
  -- All bytes encode, by w, a value that f maps to b. The first argument of f is the place where the bytes end.
  abbrev pub Concluded : ℕ → List ℕ → B → Type 0
  Concluded p text b = (a : A) × (f (p + length text) a ≡ Some b) × w.spells p text a

  -- Reads a value of w up to the end of the input, and applies f to the place of the end and to the value; `None` if
  -- f has no value there.
  abbrev pub try_map_by_end_at : Input → Option B
  try_map_by_end_at at = w.parse at >>= λ a. f (at.place + length at.bytes) a

  pub try_map_by_end_sound : (at : Input) (b : B) → try_map_by_end_at at ≡ Some b → Concluded at.place at.bytes b
  try_map_by_end_sound at b e =
      let (value, parsed, maps) = bind_some (w.parse at) (λ a. f (at.place + length at.bytes) a) b e in
      (value, maps, w.sound at value parsed)

  pub try_map_by_end_complete : (at : Input) (b : B) → Concluded at.place at.bytes b → try_map_by_end_at at ≡ Some b
  try_map_by_end_complete at b s = let (value, maps, spelled) = s in rw (w.complete at value spelled) maps

  -- The values of w under f. Bytes of a value where f has no value encode nothing.
  abbrev pub try_map_by_end : Remainder B
  try_map_by_end =
      record { spells = Concluded; parse = try_map_by_end_at; sound = try_map_by_end_sound; complete = try_map_by_end_complete }
