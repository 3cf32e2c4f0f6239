-- Loops that add entries to the store.
use Rattle.std.proofs.Common.{◌≡◌, ◌≢◌, ℕ, zero, suc, ◌<◌, ◌≤◌, List, [], ◌∷◌, ◌++◌, Option, Some, None, refl, sym, ap, ◌∙◌, subst, append_assoc, arith}
use Rattle.std.proofs.lemmas.List.{append-nil}
use Rattle.wasmprinter_spec.specs.Grammar.{Input, some_is}
use Rattle.wasmprinter_spec.specs.Name.{u32}
use Rattle.wasmprinter_bytes.specs.declared.library_error.Error.{Error}
use Rattle.wasmprinter_bytes.specs.declared.library_error.Error.TheVariants.{Malformed, Memory}
use Rattle.wasmprinter_spec.specs.Lenient.{Lenient, follow, repeat, repeat_at, continue_with, prepend}
use Rattle.wasmprinter_spec.specs.Names.Section.{Entry}
use Rattle.wasmprinter_custom.specs.HoldsEntries.{HoldsEntries}
use Rattle.wasmprinter_custom.specs.Adds.{Grows, AddsUpTo, AddsBefore}
use Rattle.wasmprinter_custom.specs.declared.names.NamesBuilder.{NamesBuilder}

-- ---- A store that grows

pub grows_none : (a : NamesBuilder) → Grows a a []
grows_none a = λ es h. subst (λ (xs : List Entry). HoldsEntries xs a) (sym (append-nil es)) h

pub grows_more : (a b c : NamesBuilder) (xs ys : List Entry) → Grows a b xs → Grows b c ys → Grows a c (xs ++ ys)
grows_more a b c xs ys g k = λ es h. subst (λ (zs : List Entry). HoldsEntries zs c) (append_assoc es xs ys) (k (es ++ xs) (g es h))

-- ---- Reading entries n times

module _ {E : Type 0} (l : Lenient E) where
  once_by : (ys : List E) (end : Option Input) → continue_with l (ys, end) (λ mid. ([], Some mid)) ≡ (ys, end)
  once_by ys None = refl
  once_by ys (Some mid) = ap (λ (zs : List E). (zs, Some mid)) (append-nil ys)

  last_by : (n : ℕ) (ys : List E) (end : Option Input) (mid : Input)
      → ((m : Input) → (repeat_at l n m).1 ≡ Some mid → repeat_at l (suc n) m ≡ ((repeat_at l n m).0 ++ (l.read mid).0, (l.read mid).1))
      → (continue_with l (ys, end) (λ m. repeat_at l n m)).1 ≡ Some mid
      → continue_with l (ys, end) (λ m. repeat_at l (suc n) m) ≡ ((continue_with l (ys, end) (λ m. repeat_at l n m)).0 ++ (l.read mid).0, (l.read mid).1)
  last_by n ys None mid h e = absurd cc
  last_by n ys (Some m) mid h e =
      ap (λ (r : List E × Option Input). prepend l ys r) (h m e) ∙ ap (λ (zs : List E). (zs, (l.read mid).1)) (sym (append_assoc ys (repeat_at l n m).0 (l.read mid).0))

  -- Reading n + 1 times is reading n times, and then once more.
  repeat_last : (n : ℕ) (at mid : Input) → (repeat_at l n at).1 ≡ Some mid
      → repeat_at l (suc n) at ≡ ((repeat_at l n at).0 ++ (l.read mid).0, (l.read mid).1)
  repeat_last zero at mid e = subst (λ (m : Input). repeat_at l 1 at ≡ ((l.read m).0, (l.read m).1)) (some_is at mid e) (once_by (l.read at).0 (l.read at).1)
  repeat_last (suc n) at mid e = last_by n (l.read at).0 (l.read at).1 mid (λ m f. repeat_last n m mid f) e

  stopped_by : (n m : ℕ) (ys : List E) (end : Option Input)
      → ((mid : Input) → (repeat_at l n mid).1 ≡ None → repeat_at l m mid ≡ repeat_at l n mid)
      → (continue_with l (ys, end) (λ mid. repeat_at l n mid)).1 ≡ None
      → continue_with l (ys, end) (λ mid. repeat_at l m mid) ≡ continue_with l (ys, end) (λ mid. repeat_at l n mid)
  stopped_by n m ys None h e = refl
  stopped_by n m ys (Some mid) h e = ap (λ (r : List E × Option Input). prepend l ys r) (h mid e)

  -- After an error nothing more is read.
  repeat_stopped : (n m : ℕ) (at : Input) → n ≤ m → (repeat_at l n at).1 ≡ None → repeat_at l m at ≡ repeat_at l n at
  repeat_stopped zero m at le e = absurd cc
  repeat_stopped (suc n) zero at le e = absurd (omega (arith, le))
  repeat_stopped (suc n) (suc m) at le e = stopped_by n m (l.read at).0 (l.read at).1 (λ mid f. repeat_stopped n m mid (omega (arith, le)) f) e

-- ---- Lists that are not empty

pub left-some : {E : Type 0} (xs ys : List E) → xs ≢ [] → (xs ++ ys) ≢ []
left-some [] ys h e = h refl
left-some (x ∷ xs) ys h e = cc

pub right-some : {E : Type 0} (xs ys : List E) → ys ≢ [] → (xs ++ ys) ≢ []
right-some [] ys h e = h e
right-some (x ∷ xs) ys h e = cc

module _ {E : Type 0} (l : Lenient E) where
  first_some : (m : ℕ) (ys : List E) (end : Option Input) → ys ≢ [] → (continue_with l (ys, end) (λ mid. repeat_at l m mid)).0 ≢ []
  first_some m ys None h = h
  first_some m ys (Some mid) h = left-some ys (repeat_at l m mid).0 h

  some_by : (n m : ℕ) (at : Input) (ys : List E) (end : Option Input)
      → ((mid : Input) → (repeat_at l n mid).1 ≡ Some at → (repeat_at l m mid).0 ≢ [])
      → (continue_with l (ys, end) (λ mid. repeat_at l n mid)).1 ≡ Some at
      → (continue_with l (ys, end) (λ mid. repeat_at l m mid)).0 ≢ []
  some_by n m at ys None h e = absurd cc
  some_by n m at ys (Some mid) h e = right-some ys (repeat_at l m mid).0 (h mid e)

  -- If an entry is read after the first n readings, then reading more than n times gives an entry.
  repeat_some : (n m : ℕ) (start at : Input) → n < m → (repeat_at l n start).1 ≡ Some at → (l.read at).0 ≢ [] → (repeat_at l m start).0 ≢ []
  repeat_some n zero start at lt e some = absurd (omega (arith, lt))
  repeat_some zero (suc m) start at lt e some =
      first_some m (l.read start).0 (l.read start).1 (subst (λ (i : Input). (l.read i).0 ≢ []) (sym (some_is start at e)) some)
  repeat_some (suc n) (suc m) start at lt e some =
      some_by n m at (l.read start).0 (l.read start).1 (λ mid f. repeat_some n m mid at (omega (arith, lt)) f some) e

-- ---- A loop that adds entries

pub record Added (l : Lenient Entry) (n : ℕ) (start : Input) (old : NamesBuilder) (at : Input) (new : NamesBuilder) : Type 0 where
  pub stands : (repeat_at l n start).1 ≡ Some at
  pub grown : Grows old new (repeat_at l n start).0

module _ (l : Lenient Entry) (start : Input) (old : NamesBuilder) where
  grown_by : (n : ℕ) (at : Input) (a b : NamesBuilder) (end : Option Input) → Added l n start old at a → AddsUpTo l at a b end
      → ((repeat_at l (suc n) start).1 ≡ end) × Grows old b (repeat_at l (suc n) start).0
  grown_by n at a b end h k =
      let e = repeat_last l n start at h.stands in
      rw e (k.0, grows_more old a b (repeat_at l n start).0 (l.read at).0 h.grown k.1)

  pub added_more : (n m : ℕ) (at after : Input) (a b : NamesBuilder) → m ≡ suc n → Added l n start old at a → AddsUpTo l at a b (Some after) → Added l m start old after b
  added_more n m at after a b e h k =
      let g = grown_by n at a b (Some after) h k in
      subst (λ (i : ℕ). Added l i start old after b) (sym e) (record { stands = g.0; grown = g.1 })

  added_stopped : (n m : ℕ) (at : Input) (a b : NamesBuilder) → n < m → Added l n start old at a → AddsUpTo l at a b None → AddsUpTo (repeat l m) start old b None
  added_stopped n m at a b lt h k =
      let g = grown_by n at a b None h k in
      let e = repeat_stopped l (suc n) m start lt g.0 in
      rw e g

  pub added_all : (n m : ℕ) (at : Input) (a : NamesBuilder) → n ≤ m → m ≤ n → Added l n start old at a → AddsUpTo (repeat l m) start old a (Some at)
  added_all n m at a le ge h =
      let e : n ≡ m = omega (arith, le, ge) in
      let s = subst (λ (i : ℕ). Added l i start old at a) e h in
      (s.stands, s.grown)

  -- The same for an error, which may be that memory ran out.
  pub added_refused : (n m : ℕ) (at : Input) (a b : NamesBuilder) (e : Error) → n < m → Added l n start old at a → AddsBefore l at a b e → AddsBefore (repeat l m) start old b e
  added_refused n m at a b (Malformed place) lt h k = added_stopped n m at a b lt h k
  added_refused n m at a b Memory lt h k = repeat_some l n m start at lt h.stands k
  added_refused n m at a b _ lt h k = absurd k

-- A count, and that many entries.
module _ (l : Lenient Entry) (old : Input) (start : Input) (count : ℕ) (counted : u32.parse old ≡ Some (count, start)) where
  pub counted_up_to : (a b : NamesBuilder) (end : Option Input) → AddsUpTo (repeat l count) start a b end → AddsUpTo (follow u32 (λ n. repeat l n)) old a b end
  counted_up_to a b end h = rw counted h

  pub counted_before : (a b : NamesBuilder) (e : Error) → AddsBefore (repeat l count) start a b e → AddsBefore (follow u32 (λ n. repeat l n)) old a b e
  counted_before a b (Malformed place) h = rw counted h
  counted_before a b Memory h = rw counted h
  counted_before a b _ h = absurd h
