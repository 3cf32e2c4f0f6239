-- Entries that are read one by one are those of a counted list.
use Rattle.std.proofs.Common.{◌≡◌, ℕ, zero, suc, List, [], ◌∷◌, ◌++◌, Option, Some, None, refl, sym, ap, ◌∙◌, subst, append_assoc, arith, inl, inr}
use Rattle.std.specs.Prelude.{map}
use Rattle.std.proofs.lemmas.List.{length-append}
use Rattle.wasmprinter_spec.specs.Grammar.{Input, Spans, Grammar, some_is}
use Rattle.wasmprinter_spec.specs.Repeated.{AreItems}
use Rattle.wasmprinter_spec.specs.Lenient.{Lenient, Repeats, one}
use Rattle.wasmprinter_spec.specs.Names.Section.{entry_of, association}
use Rattle.wasmprinter_laws.specs.NameLaws.{IsReadToFirstError, NameMapsEndAtFirstError}

module _ {A E : Type 0} (h : A → E) (g : Grammar A) where
  abbrev Lists : ℕ → Input → List E → Option Input → Type 0
  Lists n at es end = (xs : List A) × IsReadToFirstError g n at xs end × (es ≡ map h xs)

  items_none : (at : Input) → Spans (AreItems g) at ([], at)
  items_none at = record { text = []; parts = refl; ends = omega arith; spelled = refl }

  items_more : (at : Input) (x : A × Input) (xs : List A) (after : Input) → Spans g.spells at x → Spans (AreItems g) x.1 (xs, after) → Spans (AreItems g) at (x.0 ∷ xs, after)
  items_more at x xs after s t = record {
    text = s.text ++ t.text;
    parts = s.parts ∙ ap (λ (r : List ℕ). s.text ++ r) t.parts ∙ sym (append_assoc s.text t.text after.bytes);
    ends = omega (arith, s.ends, t.ends, length-append s.text t.text);
    spelled = (s.text, t.text, refl, s.spelled, subst (λ (p : ℕ). AreItems g p t.text xs) s.ends t.spelled);
  }

  more_by : (n : ℕ) (at : Input) (x : A × Input) (zs : List E) (end : Option Input) → Spans g.spells at x → Lists n x.1 zs end → Lists (suc n) at (h x.0 ∷ zs) end
  more_by n at x zs end s (xs, (after, t, inl whole), e) =
      (x.0 ∷ xs, (after, items_more at x xs after s t, inl (ap suc whole.0, whole.1)), ap (λ (es : List E). h x.0 ∷ es) e)
  more_by n at x zs end s (xs, (after, t, inr (fewer, lacking, ended)), e) =
      (x.0 ∷ xs, (after, items_more at x xs after s t, inr (omega (arith, fewer), lacking, ended)), ap (λ (es : List E). h x.0 ∷ es) e)

  abbrev single : Lenient E
  single = one (λ a. h a ∷ []) g

  -- An entry and the counted list after it are a counted list.
  more : (n : ℕ) (at : Input) (ys zs : List E) (mid : Input) (end : Option Input) → single.gives at ys (Some mid) → Lists n mid zs end → Lists (suc n) at (ys ++ zs) end
  more n at ys zs mid end (inl ((value, after), spans, (one_entry, stands))) r =
      subst (λ (us : List E). Lists (suc n) at (us ++ zs) end) (sym one_entry)
      (more_by n at (value, after) zs end spans (subst (λ (m : Input). Lists n m zs end) (some_is mid after stands) r))
  more n at ys zs mid end (inr (lacking, no_entry, ended)) r = absurd cc

  stop : (n : ℕ) (at : Input) (es : List E) (end : Option Input) → single.gives at es None → end ≡ None → Lists (suc n) at es end
  stop n at es end (inl ((value, after), spans, (one_entry, stands))) e = absurd cc
  stop n at es end (inr (lacking, no_entry, ended)) e = ([], (at, items_none at, inr (omega arith, lacking, e)), no_entry)

  pub listed : (n : ℕ) (at : Input) (es : List E) (end : Option Input) → Repeats single n at es end → Lists n at es end
  listed zero at es end s = ([], (at, items_none at, inl (refl, s.1)), s.0)
  listed (suc n) at es end (inl (ys, zs, mid, given, repeated, joined)) =
      subst (λ (us : List E). Lists (suc n) at us end) (sym joined) (more n at ys zs mid end given (listed n mid zs end repeated))
  listed (suc n) at es end (inr s) = stop n at es end s.0 s.1

pub name_maps_end_at_the_first_error : NameMapsEndAtFirstError
name_maps_end_at_the_first_error s outer n at entries end g = listed (λ x. entry_of s outer x) association n at entries end g
