-- The places that are read from the data of a custom section are within that data.
use Rattle.std.proofs.Common.{◌≡◌, ℕ, suc, zero, ◌+◌, ◌≤◌, List, [], ◌∷◌, ◌++◌, length, Bool, true, false, Option, Some, None, refl, sym, ap, subst, inl, inr, arith}
use Rattle.std.specs.Prelude.{nat_le, bytes_eq, if◌then◌else◌}
use Rattle.std.specs.List.{flat_map}
use Rattle.std.proofs.lemmas.List.{length-append}
use Rattle.std.proofs.lemmas.List.Concat.{flat_map-append}
use Rattle.wasmprinter_spec.specs.Choices.{tested}
use Rattle.wasmprinter_spec.specs.Grammar.{Input, input, Grammar, some_is, Placed, value_with_place}
use Rattle.wasmprinter_spec.specs.Name.{u32, vec, name}
use Rattle.wasmprinter_spec.specs.Lenient.{repeat}
use Rattle.wasmprinter_spec.specs.Placed.{Custom}
use Rattle.wasmprinter_spec.specs.Customs.{CustomTreatment, Silent, ProducersFields, Raw, name_section, hint_section, producers_section, dylink_section, producers_treatment, dylink_treatment, custom_treatment_of}
use Rattle.wasmprinter_spec.specs.Customs.Producers as p
use Rattle.wasmprinter_spec.specs.Customs.Producers.{Field, have_id_names}
use Rattle.wasmprinter_spec.specs.Customs.Dylink.{Subsection, one_subsection, subsections, judgement_of, judgement_by, first_other}
use Rattle.wasmprinter_spec.specs.Customs.Hints as h
use Rattle.wasmprinter_spec.specs.Customs.Hints.{FunctionHints, hint, most_hinted_functions, most_hints, at_most, function_hints, or_none, hints_given}
use Rattle.wasmprinter_spec.specs.Lines.{places, places_of_hints}
use Rattle.wasmprinter_spec.specs.Apart.{treatment_places}
use Rattle.wasmprinter_laws.proofs.Lines.Order.{inside, Inside, inside_both, inside_wider}
use Rattle.wasmprinter_laws.proofs.Lines.Lies.{Lies, Lies-any, Lies-after, Lies-less, Lies-mapped, Lies-map_value, Lies-vec}

-- The place of any value is within its encoding, because the order `inside` also allows the place of the end.
pub Lies-here : {A : Type 0} (g : Grammar A) → Lies inside 0 (value_with_place g) (λ x. x.place ∷ [])
Lies-here g = record { lie = λ p text x s. (omega (arith, s.0), omega (arith, s.0), omega arith) }

pub Lies-list : {A : Type 0} (g : Grammar A) → Lies inside 0 (vec (value_with_place g)) (λ xs. places xs)
Lies-list g = Lies-less 1 0 (omega arith) (Lies-vec (Lies-here g))

-- ---- `producers`

Lies-field : Lies inside 0 p.field (λ f. places f.values)
Lies-field = Lies-map_value (λ f. places f.values) (Lies-after (Lies-any name) (λ n. Lies-list p.value))

Lies-fields : Lies inside 0 (vec p.field) (λ fs. flat_map (λ f. places f.values) fs)
Lies-fields = Lies-less 1 0 (omega arith) (Lies-vec Lies-field)

-- ---- `dylink.0`

-- The subsections that were read, and the position at which reading goes on, are within the bounds.
record Reads (a e : ℕ) (xs : List Subsection) (mid : Input) : Type 0 where
  lie : Inside a (places xs) e
  low : a ≤ mid.place
  high : mid.place + length mid.bytes ≤ e

step_reads : (a e : ℕ) (at mid : Input) (xs : List Subsection) → a ≤ at.place → at.place + length at.bytes ≤ e → one_subsection.gives at xs (Some mid) → Reads a e xs mid
step_reads a e at mid xs low high s = elim s [
  | inl (none_left, no_entry, stands) ↦
      let same : at ≡ mid = sym (some_is mid at stands) in
      let none : Inside a (places xs) e =
      subst (λ (ys : List Subsection). Inside a (places ys) e) (sym no_entry) (omega (arith, low, high)) in
      subst (λ (i : Input). Reads a e xs i) same (record { lie = none; low = low; high = high })
  | inr more ↦ elim more.1 [
    | inl ((own, after), spans, (one_entry, stands)) ↦
        let here : Inside a (places (own ∷ [])) e =
        (omega (arith, low, spans.spelled.0), omega (arith, high, spans.spelled.0), omega (arith, low, high)) in
        let same : after ≡ mid = sym (some_is mid after stands) in
        subst (λ (i : Input). Reads a e xs i) same
        (record {
          lie = subst (λ (ys : List Subsection). Inside a (places ys) e) (sym one_entry) here;
          low = omega (arith, low, spans.ends);
          high = omega (arith, high, spans.ends, ap length spans.parts, length-append spans.text after.bytes);
        })
    | inr (lacking, no_entry, ended) ↦ absurd (let clash : ◌≡◌ {A = Option Input} (Some mid) None = ended in cc)
  ]
]

none_read : (a e : ℕ) (at : Input) (xs : List Subsection) → a ≤ e → one_subsection.gives at xs None → Inside a (places xs) e
none_read a e at xs le s = elim s [
  | inl (none_left, no_entry, stands) ↦ absurd (let clash : ◌≡◌ {A = Option Input} None (Some at) = stands in cc)
  | inr more ↦ elim more.1 [
    | inl ((own, after), spans, (one_entry, stands)) ↦ absurd (let clash : ◌≡◌ {A = Option Input} None (Some after) = stands in cc)
    | inr (lacking, no_entry, ended) ↦ subst (λ (ys : List Subsection). Inside a (places ys) e) (sym no_entry) le
  ]
]

repeats_inside : (n a e : ℕ) (at : Input) (xs : List Subsection) (end : Option Input) → a ≤ at.place → at.place + length at.bytes ≤ e → (repeat one_subsection n).gives at xs end → Inside a (places xs) e
repeats_inside zero a e at xs end low high s = subst (λ (ys : List Subsection). Inside a (places ys) e) (sym s.0) (omega (arith, low, high))
repeats_inside (suc n) a e at xs end low high s = elim s [
  | inl (ys, zs, mid, given, repeated, joined) ↦
      let first = step_reads a e at mid ys low high given in
      let rest : Inside a (places zs) e = repeats_inside n a e mid zs end first.low first.high repeated in
      let both : places (ys ++ zs) ≡ places ys ++ places zs = flat_map-append (λ (x : Subsection). x.place ∷ []) ys zs in
      subst (λ (us : List Subsection). Inside a (places us) e) (sym joined)
      (subst (λ (ps : List ℕ). Inside a ps e) (sym both) (inside_both a e (places ys) (places zs) first.lie rest))
  | inr fault ↦ none_read a e at xs (omega (arith, low, high)) fault.0
]

-- ---- hints

at_most_is : {A : Type 0} (n : ℕ) (xs ys : List A) → at_most n xs ≡ Some ys → xs ≡ ys
at_most_is n xs ys e = some_is xs ys (tested (nat_le (length xs) n) (Some xs) ys e).1

Lies-function_hints : Lies inside 0 function_hints (λ e. places e.hints)
Lies-function_hints =
    Lies-map_value (λ e. places e.hints)
    (Lies-after (Lies-any u32) (λ n. Lies-mapped (λ a b e. ap (λ xs. places xs) (at_most_is most_hints a b e)) (Lies-list hint)))

hints_inside_of : (p : ℕ) (text : List ℕ) (r : Option (List FunctionHints)) → h.hint_section.parse (input p text) ≡ r → Inside p (places_of_hints (or_none r)) (p + length text)
hints_inside_of p text None e = omega arith
hints_inside_of p text (Some es) e =
    let (listed, few, spelled) = h.hint_section.sound (input p text) es e in
    let all : Lies inside 0 (vec function_hints) (λ xs. places_of_hints xs) = Lies-less 1 0 (omega arith) (Lies-vec Lies-function_hints) in
    let same : listed ≡ es = at_most_is most_hinted_functions listed es few in
    inside_wider p (p + 0) (p + length text) (p + length text) (places_of_hints es) (omega arith) (omega arith)
    (subst (λ (xs : List FunctionHints). Inside (p + 0) (places_of_hints xs) (p + length text)) same (all.lie p text listed spelled))

-- The places of the hints that data gives are within the data.
pub hints_inside : (d : Placed (List ℕ)) → Inside d.place (places_of_hints (hints_given d)) (d.place + length d.value)
hints_inside d = hints_inside_of d.place d.value (h.hint_section.parse (input d.place d.value)) refl

-- ---- by the treatment of the section

module _ (a e : ℕ) (le : a ≤ e) where
  abbrev LiesAs : CustomTreatment → Type 0
  LiesAs r = Inside a (treatment_places r) e

  if_lies : (b : Bool) (r s : CustomTreatment) → LiesAs r → LiesAs s → LiesAs (if b then r else s)
  if_lies true r s h k = h
  if_lies false r s h k = k

  producers_lie : (r : Option (List Field)) → ((fs : List Field) → r ≡ Some fs → Inside a (flat_map (λ f. places f.values) fs) e) → LiesAs (producers_treatment r)
  producers_lie None h = le
  producers_lie (Some fs) h = if_lies (have_id_names fs) (ProducersFields fs) Raw (h fs refl) le

  dylink_lie : (ss : List Subsection) (o : Option ℕ) (end : Option Input) → Inside a (places ss) e → LiesAs (dylink_treatment (judgement_by ss o end))
  dylink_lie ss (Some id) end h = le
  dylink_lie ss None (Some after) h = h
  dylink_lie ss None None h = le

-- The places that are read for the lines of a custom section are within its data.
pub treatment_inside : (c : Custom) → Inside c.bytes.place (treatment_places (custom_treatment_of c)) (c.bytes.place + length c.bytes.value)
treatment_inside c =
    let a : ℕ = c.bytes.place in
    let e : ℕ = c.bytes.place + length c.bytes.value in
    let at : Input = input c.bytes.place c.bytes.value in
    let le : a ≤ e = omega arith in
    let listed : (fs : List Field) → p.producers.parse at ≡ Some fs → Inside a (flat_map (λ f. places f.values) fs) e = λ fs x. inside_wider a (a + 0) e e (flat_map (λ f. places f.values) fs) (omega arith) (omega arith) (Lies-fields.lie a c.bytes.value fs (p.producers.sound at fs x)) in
    let read : List Subsection × Option Input = (subsections (length c.bytes.value)).read at in
    let linked : Inside a (places read.0) e = repeats_inside (length c.bytes.value) a e at read.0 read.1 (omega arith) (omega arith) ((subsections (length c.bytes.value)).sound at) in
    if_lies a e le (bytes_eq c.name name_section) Silent _ le
    (if_lies a e le (bytes_eq c.name hint_section) Silent _ le
    (if_lies a e le (bytes_eq c.name producers_section) (producers_treatment (p.producers.parse at)) _ (producers_lie a e le (p.producers.parse at) listed)
    (if_lies a e le (bytes_eq c.name dylink_section) (dylink_treatment (judgement_of at)) Raw (dylink_lie a e le read.0 (first_other read.0) read.1 linked) le)))
