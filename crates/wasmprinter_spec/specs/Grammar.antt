-- Grammars over bytes. A grammar states twice which bytes encode a value: `spells` is a relation in the style of
-- the standard (section 5.1, "Conventions"), and `parse` reads a value from the front of the bytes. `sound` and
-- `complete` prove that the two agree. So by a grammar that is built from these combinators, each byte string
-- encodes at most one value. A lemma whose name ends in `_sound` or `_complete` is this field of a grammar.
use Rattle.std.specs.Prelude.{◌≡◌, ℕ, List, [], ◌∷◌, ◌++◌, ◌+◌, length, Bool, true, false, Option, Some, None, refl}
use Rattle.std.proofs.Common.{sym, ap, subst, ◌∙◌, arith, append_assoc}
use Rattle.std.proofs.lemmas.List.{length-append}

-- The input that is still unread: the offset of the next byte from the start of the module, and the bytes from
-- there on.
pub record Input : Type 0 where
  pub place : ℕ
  pub bytes : List ℕ

-- The input that starts at this place and consists of these bytes.
abbrev pub input : ℕ → List ℕ → Input
input p bytes = record { place = p; bytes = bytes }

-- The bytes from `at` up to the input x.1 encode the value x.0. `spells p text a` says that the bytes `text`,
-- which start at offset p, encode a.
pub record Spans {A : Type 0} (spells : ℕ → List ℕ → A → Type 0) (at : Input) (x : A × Input) : Type 0 where
  pub text : List ℕ
  pub parts : at.bytes ≡ text ++ x.1.bytes
  pub ends : x.1.place ≡ at.place + length text
  pub spelled : spells at.place text x.0

-- A grammar of values that a prefix of the input encodes. `parse` returns the value and the input after it.
pub record Grammar (A : Type 0) : Type 1 where
  pub spells : ℕ → List ℕ → A → Type 0
  pub parse : Input → Option (A × Input)
  pub sound : (at : Input) (x : A × Input) → parse at ≡ Some x → Spans spells at x
  pub complete : (at : Input) (x : A × Input) → Spans spells at x → parse at ≡ Some x

-- A grammar of values that all bytes of the input encode, up to the last one.
pub record Remainder (A : Type 0) : Type 1 where
  pub spells : ℕ → List ℕ → A → Type 0
  pub parse : Input → Option A
  pub sound : (at : Input) (a : A) → parse at ≡ Some a → spells at.place at.bytes a
  pub complete : (at : Input) (a : A) → spells at.place at.bytes a → parse at ≡ Some a

-- `f` of the value, or `None` if there is no value.
infixl 10 ◌>>=◌
abbrev pub ◌>>=◌ : {A B : Type 0} → Option A → (A → Option B) → Option B
(Some x) >>= f = f x
None >>= f = None

-- A value of `r >>= f` is the value of f for the value of r.
pub bind_some : {A B : Type 0} (r : Option A) (f : A → Option B) (y : B) → (r >>= f) ≡ Some y → (x : A) × (r ≡ Some x) × (f x ≡ Some y)
bind_some (Some x) f y e = (x, refl, e)
bind_some None f y e = absurd cc

-- Two equal options have equal values.
pub some_is : {A : Type 0} (x y : A) → ◌≡◌ {A = Option A} (Some x) (Some y) → x ≡ y
some_is x y e = cc

-- ---- A byte

-- The bytes are the byte b alone. The arguments are the offset where the bytes start, the bytes and the value, as for
-- every relation `spells`.
abbrev pub Byte : ℕ → List ℕ → ℕ → Type 0
Byte p text b = text ≡ b ∷ []

-- Reads a byte from bytes that start at the given offset: the byte and the input after it, or `None` if there is no
-- byte.
abbrev pub byte_of : ℕ → List ℕ → Option (ℕ × Input)
byte_of p [] = None
byte_of p (b ∷ rest) = Some (b, input (p + 1) rest)

-- Reads a byte from the input.
abbrev pub byte_at : Input → Option (ℕ × Input)
byte_at at = byte_of at.place at.bytes

-- The lemma `byte_sound` for an input given by its place and its bytes.
byte_sound_of : (p : ℕ) (bytes : List ℕ) (x : ℕ × Input) → byte_of p bytes ≡ Some x → Spans Byte (input p bytes) x
byte_sound_of p [] x e = absurd cc
byte_sound_of p (b ∷ rest) x e =
    subst (λ (y : ℕ × Input). Spans Byte (input p (b ∷ rest)) y) (some_is (b, input (p + 1) rest) x e)
    (record { text = b ∷ []; parts = refl; ends = refl; spelled = refl })

pub byte_sound : (at : Input) (x : ℕ × Input) → byte_at at ≡ Some x → Spans Byte at x
byte_sound at x e = byte_sound_of at.place at.bytes x e

pub byte_complete : (at : Input) (x : ℕ × Input) → Spans Byte at x → byte_at at ≡ Some x
byte_complete at x s =
    let e : at.bytes ≡ x.0 ∷ x.1.bytes = s.parts ∙ ap (λ (t : List ℕ). t ++ x.1.bytes) s.spelled in
    let l : x.1.place ≡ at.place + 1 = s.ends ∙ ap (λ (t : List ℕ). at.place + length t) s.spelled in
    ap (byte_of at.place) e ∙ ap (λ (p : ℕ). Some (x.0, input p x.1.bytes)) (sym l)

-- A byte, which encodes itself (section 5.2 of the standard, "Bytes").
abbrev pub byte : Grammar ℕ
byte = record { spells = Byte; parse = byte_at; sound = byte_sound; complete = byte_complete }

-- ---- A value and then another, whose grammar may depend on the first: a kind and its content, a count and the items

module _ {A B : Type 0} (g : Grammar A) (h : A → Grammar B) where
  -- The bytes are those of x.0 by g, followed by those of x.1 by `h x.0`.
  abbrev pub Seq : ℕ → List ℕ → A × B → Type 0
  Seq p text x = (t u : List ℕ) × (text ≡ t ++ u) × g.spells p t x.0 × (h x.0).spells (p + length t) u x.1

  -- Reads a value of g, and then a value of the grammar that h gives for it.
  abbrev pub seq_at : Input → Option ((A × B) × Input)
  seq_at at = g.parse at >>= λ a. (h a.0).parse a.1 >>= λ b. Some ((a.0, b.0), b.1)

  pub seq_sound : (at : Input) (x : (A × B) × Input) → seq_at at ≡ Some x → Spans Seq at x
  seq_sound at x e =
      let ((first, mid), first_parsed, rest) = bind_some (g.parse at) (λ a. (h a.0).parse a.1 >>= λ b. Some ((a.0, b.0), b.1)) x e in
      let ((second, after), second_parsed, result) = bind_some ((h first).parse mid) (λ b. Some ((first, b.0), b.1)) x rest in
      let s = g.sound at (first, mid) first_parsed in
      let t = (h first).sound mid (second, after) second_parsed in
      subst (λ (y : (A × B) × Input). Spans Seq at y) (some_is ((first, second), after) x result)
      (record {
        text = s.text ++ t.text;
        parts = s.parts ∙ ap (λ (r : List ℕ). s.text ++ r) t.parts ∙ sym (append_assoc s.text t.text after.bytes);
        ends = omega (arith, s.ends, t.ends, length-append s.text t.text);
        spelled = (s.text, t.text, refl, s.spelled, subst (λ (p : ℕ). (h first).spells p t.text second) s.ends t.spelled);
      })

  pub seq_complete : (at : Input) (x : (A × B) × Input) → Spans Seq at x → seq_at at ≡ Some x
  seq_complete at x s =
      let ((first, second), after) = x in
      let (t, u, joined, first_spelled, second_spelled) = s.spelled in
      let mid : Input = input (at.place + length t) (u ++ after.bytes) in
      let e : g.parse at ≡ Some (first, mid) = g.complete at (first, mid) (record {
        text = t;
        parts = s.parts ∙ ap (λ (r : List ℕ). r ++ after.bytes) joined ∙ append_assoc t u after.bytes;
        ends = refl;
        spelled = first_spelled;
      }) in
      let f : (h first).parse mid ≡ Some (second, after) = (h first).complete mid (second, after) (record {
        text = u;
        parts = refl;
        ends = omega (arith, s.ends, length-append t u, ap length joined);
        spelled = second_spelled;
      }) in
      rw (e, f) refl

  -- A value of g, and then a value of the grammar that h gives for it.
  abbrev pub seq : Grammar (A × B)
  seq = record { spells = Seq; parse = seq_at; sound = seq_sound; complete = seq_complete }

-- ---- The values of another grammar under a partial function

module _ {A B : Type 0} (f : A → Option B) (g : Grammar A) where
  -- The bytes encode, by g, a value that f maps to b.
  abbrev pub Mapped : ℕ → List ℕ → B → Type 0
  Mapped p text b = (a : A) × (f a ≡ Some b) × g.spells p text a

  -- Reads a value of g and applies f to it; `None` if f has no value there.
  abbrev pub try_map_at : Input → Option (B × Input)
  try_map_at at = g.parse at >>= λ a. f a.0 >>= λ b. Some (b, a.1)

  pub try_map_sound : (at : Input) (x : B × Input) → try_map_at at ≡ Some x → Spans Mapped at x
  try_map_sound at x e =
      let ((value, after), parsed, rest) = bind_some (g.parse at) (λ a. f a.0 >>= λ b. Some (b, a.1)) x e in
      let (image, maps, result) = bind_some (f value) (λ b. Some (b, after)) x rest in
      let s = g.sound at (value, after) parsed in
      subst (λ (y : B × Input). Spans Mapped at y) (some_is (image, after) x result)
      (record { text = s.text; parts = s.parts; ends = s.ends; spelled = (value, maps, s.spelled) })

  pub try_map_complete : (at : Input) (x : B × Input) → Spans Mapped at x → try_map_at at ≡ Some x
  try_map_complete at x s =
      let (value, maps, spelled) = s.spelled in
      let e : g.parse at ≡ Some (value, x.1) =
      g.complete at (value, x.1) (record { text = s.text; parts = s.parts; ends = s.ends; spelled = spelled }) in
      rw (e, maps) refl

  -- The values of g under f. Bytes of a value where f has no value encode nothing.
  abbrev pub try_map : Grammar B
  try_map = record { spells = Mapped; parse = try_map_at; sound = try_map_sound; complete = try_map_complete }

-- The values of a grammar under a total function.
abbrev pub map_value : {A B : Type 0} → (A → B) → Grammar A → Grammar B
map_value f g = try_map (λ a. Some (f a)) g

-- ---- A value that the empty byte string encodes

module _ {A : Type 0} (a : A) where
  -- There are no bytes, and the value is a.
  abbrev pub Nothing : ℕ → List ℕ → A → Type 0
  Nothing p text b = (text ≡ []) × (b ≡ a)

  -- Reads no byte and returns a.
  abbrev pub nothing_at : Input → Option (A × Input)
  nothing_at at = Some (a, at)

  pub nothing_sound : (at : Input) (x : A × Input) → nothing_at at ≡ Some x → Spans Nothing at x
  nothing_sound at x e =
      subst (λ (y : A × Input). Spans Nothing at y) (some_is (a, at) x e)
      (record { text = []; parts = refl; ends = omega arith; spelled = (refl, refl) })

  pub nothing_complete : (at : Input) (x : A × Input) → Spans Nothing at x → nothing_at at ≡ Some x
  nothing_complete at x s =
      let e : at.bytes ≡ x.1.bytes = s.parts ∙ ap (λ (t : List ℕ). t ++ x.1.bytes) s.spelled.0 in
      let l : x.1.place ≡ at.place = omega (arith, s.ends, ap length s.spelled.0) in
      let same : at ≡ x.1 = ap (λ (p : ℕ). input p at.bytes) (sym l) ∙ ap (λ (bs : List ℕ). input x.1.place bs) e in
      ap (λ (y : Input). Some (a, y)) same ∙ ap (λ (v : A). Some (v, x.1)) (sym s.spelled.1)

  -- The value a, encoded by the empty byte string.
  abbrev pub succeed : Grammar A
  succeed = record { spells = Nothing; parse = nothing_at; sound = nothing_sound; complete = nothing_complete }

-- ---- The grammar without values

module _ {A : Type 0} where
  pub never_sound : (at : Input) (x : A × Input) → None ≡ Some x → Spans {A = A} (λ p text a. ⊥) at x
  never_sound at x e = absurd cc

  pub never_complete : (at : Input) (x : A × Input) → Spans {A = A} (λ p text a. ⊥) at x → None ≡ Some x
  never_complete at x s = absurd s.spelled

-- No bytes encode a value.
abbrev pub fail : {A : Type 0} → Grammar A
fail {A} = record { spells = λ p text a. ⊥; parse = λ at. None; sound = never_sound; complete = never_complete }

-- The first grammar if the test is true, the second otherwise.
abbrev pub choose : {A : Type 0} → Bool → Grammar A → Grammar A → Grammar A
choose true g h = g
choose false g h = h

-- ---- A value with the place of its first byte

-- A value and its place: the offset of its first byte from the start of the module.
pub record Placed (A : Type 0) : Type 0 where
  pub place : ℕ
  pub value : A

module _ {A : Type 0} (g : Grammar A) where
  -- The bytes encode the value of x by g, and the place of x is the offset p where they start.
  abbrev pub IsPlaced : ℕ → List ℕ → Placed A → Type 0
  IsPlaced p text x = (x.place ≡ p) × g.spells p text x.value

  -- Reads a value of g and returns it with the place where it starts.
  abbrev pub value_with_place_at : Input → Option (Placed A × Input)
  value_with_place_at at = g.parse at >>= λ a. Some (record { place = at.place; value = a.0 }, a.1)

  pub value_with_place_sound : (at : Input) (x : Placed A × Input) → value_with_place_at at ≡ Some x → Spans IsPlaced at x
  value_with_place_sound at x e =
      let with_place : A × Input → Placed A × Input = λ a. (record { place = at.place; value = a.0 }, a.1) in
      let (read, parsed, result) = bind_some (g.parse at) (λ a. Some (with_place a)) x e in
      let s = g.sound at read parsed in
      subst (λ (y : Placed A × Input). Spans IsPlaced at y) (some_is (with_place read) x result)
      (record { text = s.text; parts = s.parts; ends = s.ends; spelled = (refl, s.spelled) })

  pub value_with_place_complete : (at : Input) (x : Placed A × Input) → Spans IsPlaced at x → value_with_place_at at ≡ Some x
  value_with_place_complete at x s =
      let e : g.parse at ≡ Some (x.0.value, x.1) =
      g.complete at (x.0.value, x.1) (record { text = s.text; parts = s.parts; ends = s.ends; spelled = s.spelled.1 }) in
      let moved : ℕ → Option (Placed A × Input) = λ p. Some (record { place = p; value = x.0.value }, x.1) in
      rw e (ap moved (sym s.spelled.0))

  -- The values of g, each with the place of its first byte.
  abbrev pub value_with_place : Grammar (Placed A)
  value_with_place =
      record { spells = IsPlaced; parse = value_with_place_at; sound = value_with_place_sound; complete = value_with_place_complete }

-- ---- An equivalent relation: the relation S, in the standard's words, with the `parse` of the grammar g

module _ {A : Type 0} (g : Grammar A) (S : ℕ → List ℕ → A → Type 0)
    (says : (p : ℕ) (text : List ℕ) (a : A) → g.spells p text a → S p text a)
    (said : (p : ℕ) (text : List ℕ) (a : A) → S p text a → g.spells p text a) where
  pub with_spelling_sound : (at : Input) (x : A × Input) → g.parse at ≡ Some x → Spans S at x
  with_spelling_sound at x e =
      let s = g.sound at x e in record { text = s.text; parts = s.parts; ends = s.ends; spelled = says at.place s.text x.0 s.spelled }

  pub with_spelling_complete : (at : Input) (x : A × Input) → Spans S at x → g.parse at ≡ Some x
  with_spelling_complete at x s =
      g.complete at x (record { text = s.text; parts = s.parts; ends = s.ends; spelled = said at.place s.text x.0 s.spelled })

  -- The grammar with the relation S and the `parse` of g. By `says` and `said`, S is equivalent to the relation of g.
  abbrev pub with_spelling : Grammar A
  with_spelling = record { spells = S; parse = g.parse; sound = with_spelling_sound; complete = with_spelling_complete }
