-- The entries that the data of a name section gives are those that are read.
use Rattle.std.proofs.Common.{◌≡◌, ℕ, zero, suc, ◌<◌, ◌≤◌, List, [], ◌∷◌, ◌++◌, length, Option, Some, None, refl, sym, ap, ◌∙◌, subst, arith, inl, inr, eqb}
use Rattle.std.specs.Prelude.{MatchOption, Bool, true, false}
use Rattle.std.proofs.lemmas.Bool.{ne_eqb, eqb-true, eqb-false}
use Rattle.std.proofs.lemmas.List.{append-nil, length-append, nil_from_length}
use Rattle.wasmprinter_spec.specs.Grammar.{Input, Spans, Grammar, some_is, byte}
use Rattle.wasmprinter_spec.specs.Name.{u32}
use Rattle.wasmprinter_spec.specs.Sized.{take_bytes}
use Rattle.wasmprinter_spec.specs.Lenient.{Lenient, Groups, Follows, StandsWithin, after_part, within, unless_ended, ends_complete, repeat_at}
use Rattle.wasmprinter_spec.specs.Types.{concat}
use Rattle.wasmprinter_spec.specs.Names.Section.{Entry, content, subsection, subsections, GivesNames}

module _ (l : Lenient Entry) where
  repeat_at_end : (n : ℕ) (at : Input) → at.bytes ≡ [] → repeat_at (unless_ended l) n at ≡ ([], Some at)
  repeat_at_end zero at e = refl
  repeat_at_end (suc n) at e = rw (ends_complete l at [] (Some at) (inl (e, refl, refl)), repeat_at_end n at e) refl

  groups_by : (xs : List Entry) (groups : List (List Entry)) (n : ℕ) (at : Input) → 0 < length at.bytes → (end : Option Input) → l.gives at xs end
      → MatchOption end (groups ≡ []) (λ mid. Groups l mid groups)
      → ((mid : Input) → l.gives at xs (Some mid) → Groups l mid groups → (repeat_at (unless_ended l) n mid).0 ≡ concat groups)
      → (repeat_at (unless_ended l) (suc n) at).0 ≡ xs ++ concat groups
  groups_by xs groups n at lt None s m h =
      rw (ne_eqb (length at.bytes) 0 (λ z. omega (arith, z, lt)), l.complete at xs None s, m) (sym (append-nil xs))
  groups_by xs groups n at lt (Some mid) s m h =
      rw (ne_eqb (length at.bytes) 0 (λ z. omega (arith, z, lt)), l.complete at xs (Some mid) s) (ap (λ (ys : List Entry). xs ++ ys) (h mid s m))

  module _ (shrinks : (at mid : Input) (xs : List Entry) → l.gives at xs (Some mid) → length mid.bytes < length at.bytes) where
    pub groups_read : (groups : List (List Entry)) (n : ℕ) (at : Input) → length at.bytes ≤ n → Groups l at groups → (repeat_at (unless_ended l) n at).0 ≡ concat groups
    groups_read [] n at le g = ap (λ (r : List Entry × Option Input). r.0) (repeat_at_end n at g)
    groups_read (xs ∷ groups) zero at le g = absurd (omega (arith, g.0, le))
    groups_read (xs ∷ groups) (suc n) at le g =
        let (takes, end, given, after) = g in
        groups_by xs groups n at takes end given after (λ mid s h. groups_read groups n mid (omega (arith, shrinks at mid xs s, le)) h)

-- ---- a subsection consists of at least one byte

module _ {A : Type 0} (g : Grammar A) where
  fewer : (at : Input) (x : A × Input) → Spans g.spells at x → length x.1.bytes ≤ length at.bytes
  fewer at x s = omega (arith, ap length s.parts, length-append s.text x.1.bytes)

after_part_is : (inner : Option Input) (after mid : Input) → Some mid ≡ after_part inner after → mid ≡ after
after_part_is None after mid e = absurd cc
after_part_is (Some x) after mid e = some_is mid after e

within_fewer : (l : Lenient Entry) (n : ℕ) (at mid : Input) (xs : List Entry) → StandsWithin l n at xs (Some mid) → length mid.bytes ≤ length at.bytes
within_fewer l n at mid xs (inl ((front, after), taken, inner, given, ended)) =
    let same : mid ≡ after = after_part_is inner after mid ended in
    subst (λ (m : Input). length m.bytes ≤ length at.bytes) (sym same) (fewer (take_bytes n) at (front, after) taken)
within_fewer l n at mid xs (inr (lacking, no_entry, ended)) = absurd cc

sized_fewer : (l : Lenient Entry) (at mid : Input) (xs : List Entry) → Follows u32 (λ size. within l size) at xs (Some mid) → length mid.bytes ≤ length at.bytes
sized_fewer l at mid xs (inl ((size, inside), spelled, given)) =
    omega (arith, within_fewer l size inside mid xs given, fewer u32 at (size, inside) spelled)
sized_fewer l at mid xs (inr (lacking, no_entry, ended)) = absurd cc

byte_fewer : (at : Input) (x : ℕ × Input) → Spans byte.spells at x → length x.1.bytes < length at.bytes
byte_fewer at x s = omega (arith, ap length s.parts, length-append s.text x.1.bytes, ap length s.spelled)

pub subsection_shrinks : (at mid : Input) (xs : List Entry) → subsection.gives at xs (Some mid) → length mid.bytes < length at.bytes
subsection_shrinks at mid xs (inl ((id, after), spelled, given)) =
    omega (arith, sized_fewer (content id) after mid xs given, byte_fewer at (id, after) spelled)
subsection_shrinks at mid xs (inr (lacking, no_entry, ended)) = absurd cc

-- The entries that the data gives are those that are read.
pub given_read : (at : Input) (xs : List Entry) → GivesNames at xs → ((subsections (length at.bytes)).read at).0 ≡ xs
given_read at xs g =
    let (groups, given, joined) = g in
    groups_read subsection subsection_shrinks groups (length at.bytes) at (omega arith) given ∙ sym joined

-- ---- every data gives a list of entries

module _ (l : Lenient Entry) (shrinks : (at mid : Input) (xs : List Entry) → l.gives at xs (Some mid) → length mid.bytes < length at.bytes) where
  exist_after : (at : Input) → 0 < length at.bytes → (xs : List Entry) (end : Option Input) → l.gives at xs end
      → ((mid : Input) → length mid.bytes < length at.bytes → (groups : List (List Entry)) × Groups l mid groups) → (groups : List (List Entry)) × Groups l at groups
  exist_after at lt xs None s h = (xs ∷ [], (lt, None, s, refl))
  exist_after at lt xs (Some mid) s h = let g = h mid (shrinks at mid xs s) in (xs ∷ g.0, (lt, Some mid, s, g.1))

  exist_by : (at : Input) (b : Bool) → eqb (length at.bytes) 0 ≡ b
      → ((mid : Input) → length mid.bytes < length at.bytes → (groups : List (List Entry)) × Groups l mid groups) → (groups : List (List Entry)) × Groups l at groups
  exist_by at true e h = ([], nil_from_length at.bytes (eqb-true (length at.bytes) 0 e))
  exist_by at false e h =
      let ne = eqb-false (length at.bytes) 0 e in
      exist_after at (omega (arith, ne)) (l.read at).0 (l.read at).1 (l.sound at) h

  pub groups_exist : (n : ℕ) (at : Input) → length at.bytes ≤ n → (groups : List (List Entry)) × Groups l at groups
  groups_exist zero at le = ([], nil_from_length at.bytes (omega (arith, le)))
  groups_exist (suc n) at le = exist_by at (eqb (length at.bytes) 0) refl (λ mid lt. groups_exist n mid (omega (arith, lt, le)))

-- Every data gives a list of entries, and only one.
pub gives_some : (at : Input) → GivesNames at ((subsections (length at.bytes)).read at).0
gives_some at =
    let g = groups_exist subsection subsection_shrinks (length at.bytes) at (omega arith) in
    (g.0, g.1, groups_read subsection subsection_shrinks g.0 (length at.bytes) at (omega arith) g.1)

pub gives_one : (at : Input) (xs ys : List Entry) → GivesNames at xs → GivesNames at ys → xs ≡ ys
gives_one at xs ys g h = sym (given_read at xs g) ∙ given_read at ys h
