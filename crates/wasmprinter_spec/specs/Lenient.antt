-- Readings up to the first error: the entries before it, and the input after them, or None if there was an error.
-- `gives` states as a relation which entries these are, `read` computes them, and `sound` and `complete` prove
-- that the two agree. So each place gives exactly one list of entries. A lemma whose name ends in `_sound` or
-- `_complete` is this field of a reading. (By section 5.5 of the standard, "Custom Section", an error in the data of
-- a custom section does not invalidate the module.)
use Rattle.std.specs.Prelude.{◌≡◌, ◌≢◌, ◌==◌, if◌then◌else◌, ◌⊎◌, ℕ, zero, suc, List, [], ◌∷◌, ◌++◌, ◌<◌, length, Bool, true, false, Option, Some, None, MatchOption, refl}
use Rattle.std.proofs.Common.{ap, inl, inr}
use Rattle.std.proofs.lemmas.Bool.{eqb-true, eqb-false, eq-eqb, ne_eqb}
use Rattle.std.proofs.lemmas.List.{nil_from_length}
use Rattle.wasmprinter_spec.specs.Grammar.{Input, input, Spans, Grammar}
use Rattle.wasmprinter_spec.specs.Repeated.{some_or}
use Rattle.wasmprinter_spec.specs.Sized.{take_bytes}

-- A reading of entries. `gives at xs end` says that the input `at` has the entries xs, and `end` is the input
-- after them.
pub record Lenient (E : Type 0) : Type 1 where
  pub gives : Input → List E → Option Input → Type 0
  pub read : Input → List E × Option Input
  pub sound : (at : Input) → gives at (read at).0 (read at).1
  pub complete : (at : Input) (xs : List E) (end : Option Input) → gives at xs end → read at ≡ (xs, end)

-- No prefix of the input encodes a value of g.
abbrev pub Lacks : {A : Type 0} → Grammar A → Input → Type 0
Lacks g at = (x : _ × Input) → Spans g.spells at x → ⊥

pub lacks : {A : Type 0} (g : Grammar A) (at : Input) → g.parse at ≡ None → Lacks g at
lacks g at e x s = let f = g.complete at x s in absurd cc

pub none_of : {A : Type 0} (g : Grammar A) (at : Input) (r : Option (A × Input)) → g.parse at ≡ r → Lacks g at → r ≡ None
none_of g at None e l = refl
none_of g at (Some x) e l = absurd (l x (g.sound at x e))

-- ---- Entries without a byte

module _ {E : Type 0} (entries : List E) where
  -- The input has the entries of this reading, and all of it is left.
  abbrev pub Gives : Input → List E → Option Input → Type 0
  Gives at xs end = (xs ≡ entries) × (end ≡ Some at)

  pub give_complete : (at : Input) (xs : List E) (end : Option Input) → Gives at xs end →
      ◌≡◌ {A = List E × Option Input} (entries, Some at) (xs, end)
  give_complete at xs end s = rw (s.0, s.1) refl

  -- These entries, for which no byte is read.
  abbrev pub give : Lenient E
  give = record { gives = Gives; read = λ at. (entries, Some at); sound = λ at. (refl, refl); complete = give_complete }

-- ---- A value, and then entries, which may depend on it; an error if no value is encoded

module _ {A E : Type 0} (g : Grammar A) (h : A → Lenient E) where
  -- A prefix of the input encodes a value of g, and the input after it has the entries xs by h of this value. Or no
  -- prefix encodes a value; then there are no entries, and there is an error.
  abbrev pub Follows : Input → List E → Option Input → Type 0
  Follows at xs end =
      ((x : A × Input) × Spans g.spells at x × (h x.0).gives x.1 xs end)
      ⊎ (Lacks g at × (xs ≡ []) × (end ≡ None))

  -- The entries by h of the value that was read, or none and an error if no value was read.
  abbrev pub read_after : Option (A × Input) → List E × Option Input
  read_after None = ([], None)
  read_after (Some x) = (h x.0).read x.1

  -- Reads a value of g, and then the entries that h gives for it.
  abbrev pub follow_at : Input → List E × Option Input
  follow_at at = read_after (g.parse at)

  follow_sound_of : (at : Input) (r : Option (A × Input)) → g.parse at ≡ r → Follows at (read_after r).0 (read_after r).1
  follow_sound_of at None e = inr (lacks g at e, refl, refl)
  follow_sound_of at (Some x) e = inl (x, g.sound at x e, (h x.0).sound x.1)

  pub follow_sound : (at : Input) → Follows at (follow_at at).0 (follow_at at).1
  follow_sound at = follow_sound_of at (g.parse at) refl

  pub follow_complete : (at : Input) (xs : List E) (end : Option Input) → Follows at xs end → follow_at at ≡ (xs, end)
  follow_complete at xs end (inl ((value, mid), spelled, given)) =
      rw (g.complete at (value, mid) spelled) ((h value).complete mid xs end given)
  follow_complete at xs end (inr (lacking, no_entry, ended)) = rw (none_of g at (g.parse at) refl lacking, no_entry, ended) refl

  -- A value of g, and then the entries by h of this value.
  abbrev pub follow : Lenient E
  follow = record { gives = Follows; read = follow_at; sound = follow_sound; complete = follow_complete }

-- The entries of one value.
abbrev pub one : {A E : Type 0} → (A → List E) → Grammar A → Lenient E
one entries g = follow g (λ a. give (entries a))

-- The first reading if the test is true, the second otherwise.
abbrev pub by_test : {E : Type 0} → Bool → Lenient E → Lenient E → Lenient E
by_test true l m = l
by_test false l m = m

-- ---- n times the entries; reading ends at the first error among them

module _ {E : Type 0} (l : Lenient E) where
  -- The input has the entries of l, n times, or up to the first error among them. The first argument is n.
  abbrev pub Repeats : ℕ → Input → List E → Option Input → Type 0
  Repeats zero at xs end = (xs ≡ []) × (end ≡ Some at)
  Repeats (suc n) at xs end =
      ((ys zs : List E) × (mid : Input) × l.gives at ys (Some mid) × Repeats n mid zs end × (xs ≡ ys ++ zs))
      ⊎ (l.gives at xs None × (end ≡ None))

  -- Entries before others.
  abbrev pub prepend : List E → List E × Option Input → List E × Option Input
  prepend ys r = (ys ++ r.0, r.1)

  -- The entries r, and, unless they had an error, those that k reads after them.
  abbrev pub continue_with : List E × Option Input → (Input → List E × Option Input) → List E × Option Input
  continue_with r k = some_or r.1 (r.0, None) (λ mid. prepend r.0 (k mid))

  -- Reads the entries of l, n times, or up to the first error.
  abbrev pub repeat_at : ℕ → Input → List E × Option Input
  repeat_at zero at = ([], Some at)
  repeat_at (suc n) at = continue_with (l.read at) (λ mid. repeat_at n mid)

  repeat_sound_of : (n : ℕ) → ((mid : Input) → Repeats n mid (repeat_at n mid).0 (repeat_at n mid).1) →
      (at : Input) (ys : List E) (end : Option Input) → l.gives at ys end
      → Repeats (suc n) at (continue_with (ys, end) (λ mid. repeat_at n mid)).0 (continue_with (ys, end) (λ mid. repeat_at n mid)).1
  repeat_sound_of n h at ys None s = inr (s, refl)
  repeat_sound_of n h at ys (Some mid) s = inl (ys, (repeat_at n mid).0, mid, s, h mid, refl)

  pub repeat_sound : (n : ℕ) (at : Input) → Repeats n at (repeat_at n at).0 (repeat_at n at).1
  repeat_sound zero at = (refl, refl)
  repeat_sound (suc n) at = repeat_sound_of n (λ mid. repeat_sound n mid) at (l.read at).0 (l.read at).1 (l.sound at)

  pub repeat_complete : (n : ℕ) (at : Input) (xs : List E) (end : Option Input) → Repeats n at xs end → repeat_at n at ≡ (xs, end)
  repeat_complete zero at xs end s = rw (s.0, s.1) refl
  repeat_complete (suc n) at xs end (inl (ys, zs, mid, given, repeated, joined)) =
      let e = l.complete at ys (Some mid) given in
      let f = repeat_complete n mid zs end repeated in
      rw (e, f, joined) refl
  repeat_complete (suc n) at xs end (inr s) = rw (l.complete at xs None s.0, s.1) refl

  -- The entries of l, n times, or up to the first error.
  abbrev pub repeat : ℕ → Lenient E
  repeat n = record { gives = Repeats n; read = repeat_at n; sound = repeat_sound n; complete = repeat_complete n }

-- ---- Entries, or no entries if no byte is left

module _ {E : Type 0} (l : Lenient E) where
  -- The input is empty and has no entries, or it has the entries of l.
  abbrev pub EndsOr : Input → List E → Option Input → Type 0
  EndsOr at xs end = ((at.bytes ≡ []) × (xs ≡ []) × (end ≡ Some at)) ⊎ ((at.bytes ≢ []) × l.gives at xs end)

  -- Reads the entries of l, or none if the input is empty.
  abbrev pub unless_ended_at : Input → List E × Option Input
  unless_ended_at at = if length at.bytes == 0 then ([], Some at) else l.read at

  ends_by : (at : Input) (b : Bool) → (length at.bytes == 0) ≡ b →
      EndsOr at (if b then ([], Some at) else l.read at).0 (if b then ([], Some at) else l.read at).1
  ends_by at true e = inl (nil_from_length at.bytes (eqb-true (length at.bytes) 0 e), refl, refl)
  ends_by at false e = inr (λ n. eqb-false (length at.bytes) 0 e (ap length n), l.sound at)

  pub ends_sound : (at : Input) → EndsOr at (unless_ended_at at).0 (unless_ended_at at).1
  ends_sound at = ends_by at (length at.bytes == 0) refl

  pub ends_complete : (at : Input) (xs : List E) (end : Option Input) → EndsOr at xs end → unless_ended_at at ≡ (xs, end)
  ends_complete at xs end (inl (none_left, no_entry, ended)) = rw (eq-eqb (length at.bytes) 0 (ap length none_left), no_entry, ended) refl
  ends_complete at xs end (inr s) = rw (ne_eqb (length at.bytes) 0 (λ z. s.0 (nil_from_length at.bytes z))) (l.complete at xs end s.1)

  -- The entries of l, or none if the input is empty.
  abbrev pub unless_ended : Lenient E
  unless_ended = record { gives = EndsOr; read = unless_ended_at; sound = ends_sound; complete = ends_complete }

-- ---- Entries within the next n bytes; bytes that are left over are skipped

-- Reading continues after the bytes if they had no error.
abbrev pub after_part : Option Input → Input → Option Input
after_part None after = None
after_part (Some _) after = Some after

module _ {E : Type 0} (l : Lenient E) (n : ℕ) where
  -- The next n bytes have the entries xs, up to the first error among them, and `end` is the input after the n bytes,
  -- or `None` after an error. If there are fewer than n bytes, there are no entries, and there is an error.
  abbrev pub StandsWithin : Input → List E → Option Input → Type 0
  StandsWithin at xs end =
      ((x : List ℕ × Input) × Spans (take_bytes n).spells at x × (inner : Option Input) × l.gives (input at.place x.0) xs inner
      × (end ≡ after_part inner x.1))
      ⊎ (Lacks (take_bytes n) at × (xs ≡ []) × (end ≡ None))

  -- Reads the entries of l from these bytes, which start at the place of `at`. The second argument has the bytes and
  -- the input after them; if it is `None`, there is an error.
  abbrev pub read_inside : Input → Option (List ℕ × Input) → List E × Option Input
  read_inside at None = ([], None)
  read_inside at (Some x) = ((l.read (input at.place x.0)).0, after_part (l.read (input at.place x.0)).1 x.1)

  -- Reads the entries of l from the next n bytes.
  abbrev pub within_at : Input → List E × Option Input
  within_at at = read_inside at ((take_bytes n).parse at)

  within_sound_of : (at : Input) (r : Option (List ℕ × Input)) → (take_bytes n).parse at ≡ r →
      StandsWithin at (read_inside at r).0 (read_inside at r).1
  within_sound_of at None e = inr (lacks (take_bytes n) at e, refl, refl)
  within_sound_of at (Some x) e = inl (x, (take_bytes n).sound at x e, (l.read (input at.place x.0)).1, l.sound (input at.place x.0), refl)

  pub within_sound : (at : Input) → StandsWithin at (within_at at).0 (within_at at).1
  within_sound at = within_sound_of at ((take_bytes n).parse at) refl

  pub within_complete : (at : Input) (xs : List E) (end : Option Input) → StandsWithin at xs end → within_at at ≡ (xs, end)
  within_complete at xs end (inl ((front, after), taken, inner, given, ended)) =
      let p = (take_bytes n).complete at (front, after) taken in
      let e = l.complete (input at.place front) xs inner given in
      rw (p, e, ended) refl
  within_complete at xs end (inr (lacking, no_entry, ended)) =
      rw (none_of (take_bytes n) at ((take_bytes n).parse at) refl lacking, no_entry, ended) refl

  -- The entries of l in the next n bytes.
  abbrev pub within : Lenient E
  within = record { gives = StandsWithin; read = within_at; sound = within_sound; complete = within_complete }

-- ---- Entries up to the end of the bytes, in groups, each of which starts at a remaining byte

module _ {E : Type 0} (l : Lenient E) where
  -- The groups. After an error there are no more groups.
  abbrev pub Groups : Input → List (List E) → Type 0
  Groups at [] = at.bytes ≡ []
  Groups at (xs ∷ groups) =
      (0 < length at.bytes) × (end : Option Input) × l.gives at xs end × MatchOption end (groups ≡ []) (λ mid. Groups mid groups)
