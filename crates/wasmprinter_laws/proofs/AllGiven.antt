-- Facts about all entries that bytes give, up to the first error
use Rattle.std.proofs.Common.{◌≡◌, ℕ, zero, suc, List, [], Bool, true, false, Option, Some, None, sym, subst, inl, inr}
use Rattle.std.specs.Prelude.{MatchOption}
use Rattle.std.specs.List.{AllByRecursion}
use Rattle.wasmprinter_spec.specs.Grammar.{Input, input, Grammar}
use Rattle.wasmprinter_spec.specs.Binary.{AreBytes}
use Rattle.wasmprinter_spec.specs.Lenient.{Lenient, give, follow, repeat, Repeats, within, unless_ended, after_part, by_test}
use Rattle.wasmprinter_spec.proofs.Each.{all_both}
use Rattle.wasmprinter_laws.proofs.AllSpelled.{AllSpelled, Spelled-any, split_bytes}

-- The rest of the input consists of bytes, if reading goes on.
abbrev pub Stays : Option Input → Type 0
Stays end = MatchOption end (Unit {0}) (λ mid. AreBytes mid.bytes)

-- The entries that bytes give have P.
pub record AllGiven {E : Type 0} (P : E → Type 0) (l : Lenient E) : Type 0 where
  pub has : (at : Input) (xs : List E) (end : Option Input) → AreBytes at.bytes → l.gives at xs end → AllByRecursion P xs × Stays end

module _ {E : Type 0} (P : E → Type 0) where
  pub AllGiven-give : (ys : List E) → AllByRecursion P ys → AllGiven P (give ys)
  AllGiven-give ys h = record { has = λ at xs end b s. (subst (AllByRecursion P) (sym s.0) h, subst Stays (sym s.1) b) }

  at_fault : (xs : List E) (end : Option Input) → xs ≡ [] → end ≡ None → AllByRecursion P xs × Stays end
  at_fault xs end e f = (subst (AllByRecursion P) (sym e) tt, subst Stays (sym f) tt)

  module _ {A : Type 0} {Q : A → Type 0} (g : Grammar A) (all : AllSpelled g Q) (h : A → Lenient E) (rest : (a : A) → Q a → AllGiven P (h a)) where
    follow_has : (at : Input) (xs : List E) (end : Option Input) → AreBytes at.bytes → (follow g h).gives at xs end → AllByRecursion P xs × Stays end
    follow_has at xs end b (inl ((value, after), spans, given)) =
        let parts = split_bytes spans.text after.bytes (subst AreBytes spans.parts b) in
        (rest value (all.has at.place spans.text value parts.0 spans.spelled)).has after xs end parts.1 given
    follow_has at xs end b (inr (lacking, no_entry, ended)) = at_fault xs end no_entry ended

    pub AllGiven-follow : AllGiven P (follow g h)
    AllGiven-follow = record { has = follow_has }

  -- The same without a fact about the value
  pub AllGiven-follow_any : {A : Type 0} (g : Grammar A) (h : A → Lenient E) → ((a : A) → AllGiven P (h a)) → AllGiven P (follow g h)
  AllGiven-follow_any g h f = AllGiven-follow g (Spelled-any g) h (λ a t. f a)

  module _ (l : Lenient E) (f : AllGiven P l) where
    repeat_has : (n : ℕ) (at : Input) (xs : List E) (end : Option Input) → AreBytes at.bytes → Repeats l n at xs end → AllByRecursion P xs × Stays end
    repeat_has zero at xs end b s = (subst (AllByRecursion P) (sym s.0) tt, subst Stays (sym s.1) b)
    repeat_has (suc n) at xs end b (inl (ys, zs, mid, given, repeated, joined)) =
        let one_more = f.has at ys (Some mid) b given in
        let others = repeat_has n mid zs end one_more.1 repeated in
        (subst (AllByRecursion P) (sym joined) (all_both P ys zs one_more.0 others.0), others.1)
    repeat_has (suc n) at xs end b (inr s) = ((f.has at xs None b s.0).0, subst Stays (sym s.1) tt)

    pub AllGiven-repeat : (n : ℕ) → AllGiven P (repeat l n)
    AllGiven-repeat n = record { has = repeat_has n }

    after_stays : (inner : Option Input) (after : Input) → AreBytes after.bytes → Stays (after_part inner after)
    after_stays None after b = tt
    after_stays (Some x) after b = b

    within_has : (n : ℕ) (at : Input) (xs : List E) (end : Option Input) → AreBytes at.bytes → (within l n).gives at xs end → AllByRecursion P xs × Stays end
    within_has n at xs end b (inl ((front, after), spans, inner, given, ended)) =
        let parts = split_bytes spans.text after.bytes (subst AreBytes spans.parts b) in (
          (f.has (input at.place front) xs inner (subst AreBytes (sym spans.spelled.1) parts.0) given).0,
          subst Stays (sym ended) (after_stays inner after parts.1),
        )
    within_has n at xs end b (inr (lacking, no_entry, ended)) = at_fault xs end no_entry ended

    pub AllGiven-within : (n : ℕ) → AllGiven P (within l n)
    AllGiven-within n = record { has = within_has n }

    ends_has : (at : Input) (xs : List E) (end : Option Input) → AreBytes at.bytes → (unless_ended l).gives at xs end → AllByRecursion P xs × Stays end
    ends_has at xs end b (inl (none_left, no_entry, ended)) = (subst (AllByRecursion P) (sym no_entry) tt, subst Stays (sym ended) b)
    ends_has at xs end b (inr s) = f.has at xs end b s.1

    pub AllGiven-unless_ended : AllGiven P (unless_ended l)
    AllGiven-unless_ended = record { has = ends_has }

  pub AllGiven-by_test : (b : Bool) (l m : Lenient E) → AllGiven P l → AllGiven P m → AllGiven P (by_test b l m)
  AllGiven-by_test true l m f g = f
  AllGiven-by_test false l m f g = g
