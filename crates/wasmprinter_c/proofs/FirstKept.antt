-- If the sections with some names are left out and the layout ends with a refusal, it ends at the first of the other
-- sections that is refused.
use Rattle.std.specs.Prelude.{◌≡◌, ◌≢◌, ℕ, List, [], ◌∷◌, ◌++◌, map, flat_map, Bool, true, false, not, Option, Some, None, refl}
use Rattle.std.proofs.Common.{cond, sym, ap, ap₂, ◌∙◌, inl, inr}
use Rattle.wasmprinter_spec.specs.Grammar.{some_is}
use Rattle.wasmprinter_spec.specs.Kinds.{Kind}
use Rattle.wasmprinter_spec.specs.Placed.{CustomEntry, PlacedModule}
use Rattle.wasmprinter_spec.specs.Binary.{Spells}
use Rattle.wasmprinter_spec.specs.ModuleNames.{module_names}
use Rattle.wasmprinter_spec.specs.Options.{Options}
use Rattle.wasmprinter_spec.specs.Piece.{Piece, Claimed}
use Rattle.wasmprinter_spec.specs.Customs.{CustomTreatment, Silent, ProducersFields, DylinkSubsections, Refused, Raw, Malformed, custom_treatment_of}
use Rattle.wasmprinter_spec.specs.Customs.Dylink.{first_some}
use Rattle.wasmprinter_spec.specs.Layout.Declarations.{Scope}
use Rattle.wasmprinter_spec.specs.Layout.{early_scope, section_order, section_parts, module_parts, refusal}
use Rattle.wasmprinter_spec.specs.Layout.Customs.{Part, Shown, Stops, laid_parts, treatment_part, custom_part, same_after, parts_at}
use Rattle.wasmprinter_laws.proofs.Ranges.{ranged}
use Rattle.wasmprinter_laws.proofs.Customs.Notes.{customs_after_kind}
use Rattle.wasmprinter_laws.proofs.Customs.Places.{custom_positions, over, over_all}
use Rattle.wasmprinter.specs.Outcome.{FirstIsUnknown}
use Rattle.wasmprinter_c.specs.Omitted.{answers_for, kept_customs}
use Rattle.wasmprinter_c.proofs.Answered.{is_omitted, named_parts, module-named}

first_some-assoc : (a b c : Option ℕ) → first_some (first_some a b) c ≡ first_some a (first_some b c)
first_some-assoc None b c = refl
first_some-assoc (Some id) b c = refl

-- The id for which a section with this treatment is refused.
abbrev refused_id : CustomTreatment → Option ℕ
refused_id (Refused id) = Some id
refused_id _ = None

-- A treatment with an id is that of a section that is refused for this id. A treatment without an id is not that of a
-- refused section.
refused_treatment : (r : CustomTreatment) (id : ℕ) → refused_id r ≡ Some id → r ≡ Refused id
refused_treatment (Refused i) id e = ap (λ (n : ℕ). Refused n) (some_is i id e)
refused_treatment _ id e = absurd cc

known_treatment : (r : CustomTreatment) → refused_id r ≡ None → (id : ℕ) → r ≢ Refused id
known_treatment (Refused i) e id = absurd cc
known_treatment _ e id = λ h. absurd cc

-- The id for which the layout of these parts ends.
abbrev refused_in : List Part → Option ℕ
refused_in parts = (laid_parts parts).refused

-- The layout of two joined lists ends at the refusal of the first list, or at that of the second if the first has none.
refused-append : (xs ys : List Part) → refused_in (xs ++ ys) ≡ first_some (refused_in xs) (refused_in ys)
refused-append [] ys = refl
refused-append (Shown ps ∷ xs) ys = refused-append xs ys
refused-append (Stops ps id ∷ xs) ys = refl

-- The layout ends at the part of a refused section. After any other part of a section, it continues with the others.
treatment_refused : (skeleton : Bool) (claim : Piece) (c : CustomEntry) (r : CustomTreatment) (parts : List Part) →
    refused_in (treatment_part skeleton claim c r ∷ parts) ≡ first_some (refused_id r) (refused_in parts)
treatment_refused skeleton claim c Silent parts = refl
treatment_refused skeleton claim c (ProducersFields fields) parts = refl
treatment_refused skeleton claim c (DylinkSubsections ss) parts = refl
treatment_refused skeleton claim c (Refused id) parts = refl
treatment_refused skeleton claim c Raw parts = refl
treatment_refused skeleton claim c Malformed parts = refl

module _ (names : List (List ℕ)) where
  -- The id for which a section is refused, unless it is left out.
  abbrev id_by : Bool → CustomEntry → Option ℕ
  id_by omitted c = cond omitted None (refused_id (custom_treatment_of c.section.value))

  abbrev id_of : CustomEntry → Option ℕ
  id_of c = id_by (is_omitted names c) c

  -- The id for which the first refused section is refused.
  abbrev first_id : List CustomEntry → Option ℕ
  first_id [] = None
  first_id (c ∷ cs) = first_some (id_of c) (first_id cs)

  first_id-append : (xs ys : List CustomEntry) → first_id (xs ++ ys) ≡ first_some (first_id xs) (first_id ys)
  first_id-append [] ys = refl
  first_id-append (c ∷ xs) ys = ap (first_some (id_of c)) (first_id-append xs ys) ∙ sym (first_some-assoc (id_of c) (first_id xs) (first_id ys))

  -- The id that `first_id` gives satisfies `FirstIsUnknown`.
  first_unknown : (id : ℕ) (cs : List CustomEntry) → first_id cs ≡ Some id → FirstIsUnknown id (kept_customs names cs)
  first_unknown id [] e = absurd cc
  first_unknown id (c ∷ cs) e = by (is_omitted names c) e (λ others. first_unknown id cs others)
    where
      kept : List CustomEntry
      kept = kept_customs names cs

      known : (own : Option ℕ) → refused_id (custom_treatment_of c.section.value) ≡ own → first_some own (first_id cs) ≡ Some id →
          (first_id cs ≡ Some id → FirstIsUnknown id kept) → FirstIsUnknown id (c ∷ kept)
      known (Some i) is e after = inl (refused_treatment (custom_treatment_of c.section.value) i is ∙ ap (λ (n : ℕ). Refused n) (some_is i id e))
      known None is e after = inr (known_treatment (custom_treatment_of c.section.value) is, after e)

      by : (omitted : Bool) → first_some (id_by omitted c) (first_id cs) ≡ Some id → (first_id cs ≡ Some id → FirstIsUnknown id kept) →
          FirstIsUnknown id (cond (not omitted) (c ∷ kept) kept)
      by true e after = after e
      by false e after = known (refused_id (custom_treatment_of c.section.value)) refl e after

  -- The part of a section that is left out ends no layout.
  custom_refused : (skeleton omitted : Bool) (c : CustomEntry) (parts : List Part) →
      refused_in (custom_part skeleton omitted c ∷ parts) ≡ first_some (id_by omitted c) (refused_in parts)
  custom_refused skeleton true c parts = refl
  custom_refused skeleton false c parts =
      treatment_refused skeleton (Claimed c.section.value.name c.section.value.bytes.place c.section.value.bytes.value false) c (custom_treatment_of c.section.value) parts

  -- The parts at one position end at its first refused section.
  named_refused : (skeleton : Bool) (after : Option Kind) (cs : List CustomEntry) →
      refused_in (named_parts names skeleton after cs) ≡ first_id (customs_after_kind after cs)
  named_refused skeleton after [] = refl
  named_refused skeleton after (c ∷ cs) = by (same_after c.after after) (named_refused skeleton after cs)
    where
      others : List Part
      others = named_parts names skeleton after cs

      by : (t : Bool) → refused_in others ≡ first_id (customs_after_kind after cs) →
          refused_in (cond t (custom_part skeleton (is_omitted names c) c ∷ others) others) ≡ first_id (cond t (c ∷ customs_after_kind after cs) (customs_after_kind after cs))
      by true rest = custom_refused skeleton (is_omitted names c) c others ∙ ap (first_some (id_of c)) rest
      by false rest = rest

  after_refused : (skeleton : Bool) (after : Option Kind) (m : PlacedModule) →
      refused_in (parts_at skeleton (answers_for names m) after 0 m.customs) ≡ first_id (customs_after_kind after m.customs)
  after_refused skeleton after m = ap refused_in (module-named names skeleton after m) ∙ named_refused skeleton after m.customs

  -- The parts of sections end at the first refused section in the order of these kinds.
  sections_refused : (o : Options) (s : Scope) (m : PlacedModule) (ks : List Kind) →
      refused_in (flat_map (section_parts o s m (answers_for names m)) ks) ≡ first_id (over (map Some ks) m.customs)
  sections_refused o s m [] = refl
  sections_refused o s m (k ∷ ks) =
      refused-append (section_parts o s m (answers_for names m) k) (flat_map (section_parts o s m (answers_for names m)) ks)
      ∙ ap₂ first_some (after_refused o.skeleton (Some k) m) (sections_refused o s m ks)
      ∙ sym (first_id-append (customs_after_kind (Some k) m.customs) (over (map Some ks) m.customs))

  -- The layout ends at the first refused section in the order of the positions.
  module_refused : (o : Options) (m : PlacedModule) → refusal o (answers_for names m) m ≡ first_id (over custom_positions m.customs)
  unfolding module_parts
  module_refused o m =
      let s : Scope = early_scope o (module_names o.synthesizes m) m in
      refused-append (parts_at o.skeleton (answers_for names m) None 0 m.customs) (flat_map (section_parts o s m (answers_for names m)) section_order)
      ∙ ap₂ first_some (after_refused o.skeleton None m) (sections_refused o s m section_order)
      ∙ sym (first_id-append (customs_after_kind None m.customs) (over (map Some section_order) m.customs))

  -- If the layout ends with a refusal, it ends at the first refused section that is not left out.
  pub first_kept : (o : Options) (bytes : List ℕ) (m : PlacedModule) (id : ℕ) → Spells bytes m → refusal o (answers_for names m) m ≡ Some id →
      FirstIsUnknown id (kept_customs names m.customs)
  first_kept o bytes m id s e =
      first_unknown id m.customs (ap first_id (sym (over_all 0 m.customs (ranged bytes m s).customs_in_order)) ∙ (sym (module_refused o m) ∙ e))
