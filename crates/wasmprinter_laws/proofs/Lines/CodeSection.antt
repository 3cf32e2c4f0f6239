-- The places of the code section are in an interval, and those of all other sections are outside of it.
use Rattle.std.proofs.Common.{◌≡◌, ℕ, ◌+◌, ◌<◌, ◌≤◌, inl, inr, List, [], ◌∷◌, ◌++◌, length, Bool, true, false, ◌&&◌, Option, Some, None, sym, ap, ◌∙◌, subst, arith}
use Rattle.std.specs.Prelude.{bytes_eq, codes, if◌then◌else◌}
use Rattle.std.specs.List.{AllByRecursion, flat_map}
use Rattle.std.proofs.lemmas.List.{length-append}
use Rattle.wasmprinter_spec.specs.Choices.{tested}
use Rattle.wasmprinter_spec.specs.Grammar.{Placed, ◌>>=◌, bind_some, some_is}
use Rattle.wasmprinter_spec.specs.Repeated.{some_or, Entries}
use Rattle.wasmprinter_spec.specs.Placed.{Body, Custom, CustomEntry, PlacedFunction, PlacedModule}
use Rattle.wasmprinter_spec.specs.Kinds.{Kind}
use Rattle.wasmprinter_spec.specs.Sections.{CustomSection, TypeSection, ImportSection, TableSection, MemorySection, TagSection, GlobalSection, ExportSection, StartSection, ElementSection, CodeSection, DataSection, Section, holds, section, are_above, content_of, content_in, kind_after, customs_after}
use Rattle.wasmprinter_spec.specs.Customs.{custom_treatment_of}
use Rattle.wasmprinter_spec.specs.Customs.Hints.{hints_given, hints_by, last_named}
use Rattle.wasmprinter_spec.specs.Binary.{type_indices_in, bodies_in, data_count_in, datas_in, customs_in, counts_data, function_pairs, module_from, module_of_sections}
use Rattle.wasmprinter_spec.specs.Lines.{places_of_hints}
use Rattle.wasmprinter_spec.specs.Apart.{Rises, IsOutside, treatment_places, custom_places, body_places, IsApart}
use Rattle.wasmprinter_spec.specs.PlaceLaws.{BodiesLieApart}
use Rattle.wasmprinter_spec.proofs.Ordered.{picks, held_each}
use Rattle.wasmprinter_spec.proofs.Each.{all_both, all_parts}
use Rattle.wasmprinter_laws.proofs.Lines.Order.{Inside}
use Rattle.wasmprinter_laws.proofs.Lines.Sections.{given_places, other_places, Lies-other_section, Lies-code_section}

-- If all numbers between the bounds have a property, so have all places within these bounds.
all_inside : (P : ℕ → Type 0) (low high : ℕ) (xs : List ℕ) → ((x : ℕ) → low ≤ x → x ≤ high → P x) → Inside low xs high → AllByRecursion P xs
all_inside P low high [] have h = tt
all_inside P low high (x ∷ xs) have (above, below, others) = (have x above below, all_inside P low high xs have others)

-- ---- the interval

-- The places of all sections other than code sections are outside of the interval.
abbrev AreOutside : ℕ → ℕ → List Section → Type 0
AreOutside low high ss = AllByRecursion (λ s. AllByRecursion (IsOutside low high) (other_places s)) ss

-- The interval of the last code section among sections that start at place `p`. If there is none, it is the
-- interval from before these sections. Places up to `p` that are outside of the earlier interval are outside of
-- this one.
record CodeLies (older old p : ℕ) (text : List ℕ) (before : List (Placed Body)) (ss : List Section) : Type 0 where
  low : ℕ
  high : ℕ
  above : older ≤ low
  below : high ≤ p + length text
  stays : (x : ℕ) → x ≤ p → IsOutside older old x → IsOutside low high x
  rise : Rises low (flat_map body_places (content_in CodeSection before ss)) high
  others : AreOutside low high ss

code_lies : (ss : List Section) (older old p : ℕ) (text : List ℕ) (before : List (Placed Body)) → older ≤ p → old ≤ p → Rises older (flat_map body_places before) old →
    Entries section p text ss → CodeLies older old p text before ss
code_lies [] older old p text before start end rise e = record {
  low = older;
  high = old;
  above = omega arith;
  below = omega (arith, end);
  stays = λ x le out. out;
  rise = rise;
  others = tt;
}
code_lies (s ∷ ss) older old p text before start end rise e =
    let (t, u, joined, takes, spelled, all_spelled) = e in
    let long : length text ≡ length t + length u = omega (arith, ap length joined, length-append t u) in
    elim (picks CodeSection s) [
      | inl other ↦
          let rest : CodeLies older old (p + length t) u before ss =
          code_lies ss older old (p + length t) u before (omega (arith, start)) (omega (arith, end)) rise all_spelled in
          let own : Inside (p + 0) (other_places s) (p + length t) = Lies-other_section.lie p t s spelled in
          let same : content_in CodeSection before (s ∷ ss) ≡ content_in CodeSection before ss =
          ap (λ (r : Option (List (Placed Body))). content_in CodeSection (some_or r before (λ x. x)) ss) other in
          record {
            low = rest.low;
            high = rest.high;
            above = rest.above;
            below = omega (arith, rest.below, long);
            stays = λ x le out. rest.stays x (omega (arith, le)) out;
            rise = subst (λ (bs : List (Placed Body)). Rises rest.low (flat_map body_places bs) rest.high) (sym same) rest.rise;
            others = (all_inside (IsOutside rest.low rest.high) (p + 0) (p + length t) (other_places s) (λ x above below. rest.stays x below (inr (omega (arith, end, above)))) own, rest.others);
          }
      | inr code ↦
          let own : Rises (p + 1) (flat_map body_places code.0) (p + length t) =
          Lies-code_section.lie p t (holds CodeSection code.0) (subst (λ (x : Section). section.spells p t x) code.1 spelled) in
          let rest : CodeLies (p + 1) (p + length t) (p + length t) u code.0 ss =
          code_lies ss (p + 1) (p + length t) (p + length t) u code.0 (omega (arith, takes)) (omega arith) own all_spelled in
          let same : content_in CodeSection before (s ∷ ss) ≡ content_in CodeSection code.0 ss =
          ap (λ (r : Option (List (Placed Body))). content_in CodeSection (some_or r before (λ x. x)) ss) (ap (content_of CodeSection) code.1) in
          record {
            low = rest.low;
            high = rest.high;
            above = omega (arith, start, rest.above);
            below = omega (arith, rest.below, long);
            stays = λ x le out. rest.stays x (omega (arith, le)) (inl (omega (arith, le)));
            rise = subst (λ (bs : List (Placed Body)). Rises rest.low (flat_map body_places bs) rest.high) (sym same) rest.rise;
            others = (subst (λ (x : Section). AllByRecursion (IsOutside rest.low rest.high) (other_places x)) (sym code.1) tt, rest.others);
          }
    ]

-- ---- custom sections

module _ (P : ℕ → Type 0) where
  abbrev HaveGiven : List CustomEntry → Type 0
  HaveGiven cs = AllByRecursion (λ c. AllByRecursion P (given_places c.section)) cs

  customs_each : (last : Option Kind) (ss : List Section) → AllByRecursion (λ s. AllByRecursion P (other_places s)) ss → HaveGiven (customs_after last ss)
  customs_each last [] all = tt
  customs_each last (s ∷ ss) all =
      elim (picks CustomSection s) [
        | inl other ↦ rw other (customs_each (kind_after last s) ss all.1)
        | inr own ↦ rw (ap (content_of CustomSection) own.1) (subst (λ (x : Section). AllByRecursion P (other_places x)) own.1 all.0, customs_each (kind_after last s) ss all.1)
      ]

  -- The places of a custom section have the property.
  record GivenHave (c : Custom) (place : ℕ) : Type 0 where
    section : P place
    content : P c.bytes.place
    role : AllByRecursion P (treatment_places (custom_treatment_of c))
    hints : AllByRecursion P (places_of_hints (hints_given c.bytes))

  given_parts : (c : Custom) (place : ℕ) → AllByRecursion P (given_places (record { place = place; value = c })) → GivenHave c place
  given_parts c place (section, (content, others)) =
      let parts = all_parts P (treatment_places (custom_treatment_of c)) (places_of_hints (hints_given c.bytes)) others in
      record { section = section; content = content; role = parts.0; hints = parts.1 }

  customs_have : (cs : List CustomEntry) → HaveGiven cs → AllByRecursion P (flat_map custom_places cs)
  customs_have [] h = tt
  customs_have (c ∷ cs) h =
      let own : Custom = c.section.value in
      let given = given_parts own c.section.place h.0 in
      all_both P (custom_places c) (flat_map custom_places cs) (given.section, (given.content, given.role)) (customs_have cs h.1)

  hints_if : (b : Bool) (c : Custom) (last : Option Custom) → AllByRecursion P (places_of_hints (hints_given c.bytes)) → AllByRecursion P (places_of_hints (hints_by last)) →
      AllByRecursion P (places_of_hints (hints_by (if b then Some c else last)))
  hints_if true c last h k = h
  hints_if false c last h k = k

  hints_have : (n : List ℕ) (last : Option Custom) (cs : List CustomEntry) → HaveGiven cs → AllByRecursion P (places_of_hints (hints_by last)) →
      AllByRecursion P (places_of_hints (hints_by (last_named n last cs)))
  hints_have n last [] h k = k
  hints_have n last (c ∷ cs) h k =
      let own : Custom = c.section.value in
      let given = given_parts own c.section.place h.0 in
      hints_have n (if bytes_eq own.name n then Some own else last) cs h.1 (hints_if (bytes_eq own.name n) own last given.hints k)

-- ---- the module

-- The bodies of the functions are those of the code section.
bodies_paired : (is : List ℕ) (bs : List (Placed Body)) (fs : List PlacedFunction) → function_pairs is bs ≡ Some fs → flat_map body_places bs ≡ flat_map (λ f. body_places f.body) fs
bodies_paired [] [] fs e = ap (λ (gs : List PlacedFunction). flat_map (λ f. body_places f.body) gs) (some_is [] fs e)
bodies_paired (i ∷ is) (b ∷ bs) fs e =
    let first : PlacedFunction = record { type_index = i; body = b } in
    let (others, paired, result) = bind_some (function_pairs is bs) (λ gs. Some (first ∷ gs)) fs e in
    ap (λ (ps : List ℕ). body_places b ++ ps) (bodies_paired is bs others paired)
    ∙ ap (λ (gs : List PlacedFunction). flat_map (λ f. body_places f.body) gs) (some_is (first ∷ others) fs result)
bodies_paired [] (b ∷ bs) fs e = absurd cc
bodies_paired (i ∷ is) [] fs e = absurd cc

module_apart : (size p : ℕ) (text : List ℕ) (ss : List Section) (m : PlacedModule) → 0 < p → size ≡ p + length text → module_of_sections size ss ≡ Some m → Entries section p text ss → IsApart m
module_apart size p text ss m some ends e spelled =
    let ordered = tested (are_above 0 ss && counts_data (data_count_in ss) (length (datas_in ss))) (function_pairs (type_indices_in ss) (bodies_in ss) >>= λ fs. Some (module_from size ss fs)) m e in
    let (functions, paired, result) =
    bind_some (function_pairs (type_indices_in ss) (bodies_in ss)) (λ fs. Some (module_from size ss fs)) m ordered.1 in
    let code = code_lies ss p p p text [] (omega arith) (omega arith) (omega arith) spelled in
    let P : ℕ → Type 0 = IsOutside code.low code.high in
    let Q : Section → Type 0 = λ s. AllByRecursion P (other_places s) in
    let given : HaveGiven P (customs_in ss) = customs_each P None ss code.others in
    subst IsApart (some_is (module_from size ss functions) m result)
    (record {
      low = code.low;
      high = code.high;
      first = omega (arith, some, code.above);
      last = omega (arith, ends, code.below);
      bodies =
          subst (λ (xs : List ℕ). Rises code.low xs code.high)
          (bodies_paired (type_indices_in ss) (bodies_in ss) functions paired) code.rise;
      types = held_each TypeSection Q [] ss code.others tt;
      imports = held_each ImportSection Q [] ss code.others tt;
      tables = held_each TableSection Q [] ss code.others tt;
      memories = held_each MemorySection Q [] ss code.others tt;
      tags = held_each TagSection Q [] ss code.others tt;
      globals = held_each GlobalSection Q [] ss code.others tt;
      exports = held_each ExportSection Q [] ss code.others tt;
      start = held_each StartSection Q None ss code.others tt;
      elements = held_each ElementSection Q [] ss code.others tt;
      data_segments = held_each DataSection Q [] ss code.others tt;
      customs = customs_have P (customs_in ss) given;
      hints = hints_have P (codes "metadata.code.branch_hint") None (customs_in ss) given tt;
    })

pub apart : BodiesLieApart
apart bytes m s =
    let (read, made, spelled) = s.spelled in
    let (front, after, parts, preamble, entries) = spelled in
    let (marked, known, eight) = preamble in
    let long : length front ≡ 8 = eight.0 in
    module_apart (0 + length bytes) (0 + length front) after read.1 m (omega (arith, long)) (omega (arith, ap length parts, length-append front after)) made entries
