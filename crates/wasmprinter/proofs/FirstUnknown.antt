-- If no custom section is claimed and the layout ends with a refusal, it ends at the first refused section of the module.
use Rattle.std.specs.Prelude.{◌≡◌, ◌≢◌, ℕ, ◌+◌, List, [], ◌∷◌, ◌++◌, map, flat_map, Bool, true, false, Option, Some, None, refl}
use Rattle.std.proofs.Common.{cond, sym, ap, ap₂, ◌∙◌, inl, inr}
use Rattle.wasmprinter_spec.specs.Grammar.{some_is}
use Rattle.wasmprinter_spec.specs.Kinds.{Kind}
use Rattle.wasmprinter_spec.specs.Placed.{CustomEntry, PlacedModule}
use Rattle.wasmprinter_spec.specs.Binary.{Spells}
use Rattle.wasmprinter_spec.specs.ModuleNames.{module_names}
use Rattle.wasmprinter_spec.specs.Options.{Options}
use Rattle.wasmprinter_spec.specs.Piece.{Piece}
use Rattle.wasmprinter_spec.specs.Customs.{CustomTreatment, Silent, ProducersFields, DylinkSubsections, Refused, Raw, Malformed, custom_treatment_of}
use Rattle.wasmprinter_spec.specs.Customs.Dylink.{first_some}
use Rattle.wasmprinter_spec.specs.Layout.Declarations.{Scope}
use Rattle.wasmprinter_spec.specs.Layout.{early_scope, section_order, section_parts, module_parts, refusal}
use Rattle.wasmprinter_spec.specs.Layout.Customs.{Part, Shown, Stops, laid_parts, treatment_part, custom_part, same_after, parts_at}
use Rattle.wasmprinter.specs.Outcome.{FirstIsUnknown}
use Rattle.wasmprinter.specs.Printed.{no_claims}
use Rattle.wasmprinter_laws.proofs.Ranges.{ranged}
use Rattle.wasmprinter_laws.proofs.Customs.Notes.{customs_after_kind}
use Rattle.wasmprinter_laws.proofs.Customs.Places.{custom_positions, over, over_all}

-- The first of three optional ids.
first_some-assoc : (a b c : Option ℕ) → first_some (first_some a b) c ≡ first_some a (first_some b c)
first_some-assoc None b c = refl
first_some-assoc (Some id) b c = refl

-- ---- The first refused section of a list

-- The id for which a section with this treatment is refused.
abbrev refused_id : CustomTreatment → Option ℕ
refused_id (Refused id) = Some id
refused_id _ = None

-- The id for which this section is refused.
abbrev id_of : CustomEntry → Option ℕ
id_of c = refused_id (custom_treatment_of c.section.value)

-- The id for which the first refused section is refused.
abbrev first_id : List CustomEntry → Option ℕ
first_id [] = None
first_id (c ∷ cs) = first_some (id_of c) (first_id cs)

-- A treatment with an id is that of a section that is refused for this id. A treatment without an id is not that of a refused
-- section.
refused_treatment : (r : CustomTreatment) (id : ℕ) → refused_id r ≡ Some id → r ≡ Refused id
refused_treatment (Refused i) id e = ap (λ (n : ℕ). Refused n) (some_is i id e)
refused_treatment _ id e = absurd cc

known_treatment : (r : CustomTreatment) → refused_id r ≡ None → (id : ℕ) → r ≢ Refused id
known_treatment (Refused i) e id = absurd cc
known_treatment _ e id = λ h. absurd cc

-- The first refused section of two joined lists is that of the first list, or that of the second if the first has none.
first_id-append : (xs ys : List CustomEntry) → first_id (xs ++ ys) ≡ first_some (first_id xs) (first_id ys)
first_id-append [] ys = refl
first_id-append (c ∷ xs) ys = ap (first_some (id_of c)) (first_id-append xs ys) ∙ sym (first_some-assoc (id_of c) (first_id xs) (first_id ys))

-- The id that `first_id` gives satisfies `FirstIsUnknown`.
first_unknown : (id : ℕ) (cs : List CustomEntry) → first_id cs ≡ Some id → FirstIsUnknown id cs
first_unknown id [] e = absurd cc
first_unknown id (c ∷ cs) e = by (id_of c) refl e (λ others. first_unknown id cs others)
  where
    by : (own : Option ℕ) → id_of c ≡ own → first_some own (first_id cs) ≡ Some id → (first_id cs ≡ Some id → FirstIsUnknown id cs) →
        FirstIsUnknown id (c ∷ cs)
    by (Some i) is e after = inl (refused_treatment (custom_treatment_of c.section.value) i is ∙ ap (λ (n : ℕ). Refused n) (some_is i id e))
    by None is e after = inr (known_treatment (custom_treatment_of c.section.value) is, after e)

-- ---- The first refused section of the layout

-- The id for which the layout of these parts ends.
abbrev refused_in : List Part → Option ℕ
refused_in parts = (laid_parts parts).refused

-- The layout of two joined lists ends at the refusal of the first list, or at that of the second if the first has none.
refused-append : (xs ys : List Part) → refused_in (xs ++ ys) ≡ first_some (refused_in xs) (refused_in ys)
refused-append [] ys = refl
refused-append (Shown ps ∷ xs) ys = refused-append xs ys
refused-append (Stops ps id ∷ xs) ys = refl

-- The layout ends at the part of a refused section. After any other part of a section, it continues with the others.
treatment_refused : (skeleton : Bool) (claim : Piece) (c : CustomEntry) (r : CustomTreatment) (parts : List Part) →
    refused_in (treatment_part skeleton claim c r ∷ parts) ≡ first_some (refused_id r) (refused_in parts)
treatment_refused skeleton claim c Silent parts = refl
treatment_refused skeleton claim c (ProducersFields fields) parts = refl
treatment_refused skeleton claim c (DylinkSubsections ss) parts = refl
treatment_refused skeleton claim c (Refused id) parts = refl
treatment_refused skeleton claim c Raw parts = refl
treatment_refused skeleton claim c Malformed parts = refl

-- The parts at one position end at its first refused section.
after_refused : (skeleton : Bool) (after : Option Kind) (n : ℕ) (cs : List CustomEntry) →
    refused_in (parts_at skeleton no_claims after n cs) ≡ first_id (customs_after_kind after cs)
after_refused skeleton after n [] = refl
after_refused skeleton after n (c ∷ cs) = by (same_after c.after after) (after_refused skeleton after (n + 1) cs)
  where
    others : List Part
    others = parts_at skeleton no_claims after (n + 1) cs

    by : (t : Bool) → refused_in others ≡ first_id (customs_after_kind after cs) →
        refused_in (cond t (custom_part skeleton false c ∷ others) others) ≡ first_id (cond t (c ∷ customs_after_kind after cs) (customs_after_kind after cs))
    by true rest = treatment_refused skeleton _ c (custom_treatment_of c.section.value) others ∙ ap (first_some (id_of c)) rest
    by false rest = rest

-- The parts of sections end at the first refused section in the order of these kinds.
sections_refused : (o : Options) (s : Scope) (m : PlacedModule) (ks : List Kind) →
    refused_in (flat_map (section_parts o s m no_claims) ks) ≡ first_id (over (map Some ks) m.customs)
sections_refused o s m [] = refl
sections_refused o s m (k ∷ ks) =
    refused-append (section_parts o s m no_claims k) (flat_map (section_parts o s m no_claims) ks)
    ∙ ap₂ first_some (after_refused o.skeleton (Some k) 0 m.customs) (sections_refused o s m ks)
    ∙ sym (first_id-append (customs_after_kind (Some k) m.customs) (over (map Some ks) m.customs))

-- The layout ends at the first refused section in the order of the positions.
module_refused : (o : Options) (m : PlacedModule) → refusal o no_claims m ≡ first_id (over custom_positions m.customs)
unfolding module_parts
module_refused o m =
    let s : Scope = early_scope o (module_names o.synthesizes m) m in
    refused-append (parts_at o.skeleton no_claims None 0 m.customs) (flat_map (section_parts o s m no_claims) section_order)
    ∙ ap₂ first_some (after_refused o.skeleton None 0 m.customs) (sections_refused o s m section_order)
    ∙ sym (first_id-append (customs_after_kind None m.customs) (over (map Some section_order) m.customs))

-- If no section is claimed and the layout ends with a refusal, it ends at the first refused section of the module.
pub first_refused : (o : Options) (bytes : List ℕ) (m : PlacedModule) (id : ℕ) → Spells bytes m → refusal o no_claims m ≡ Some id →
    FirstIsUnknown id m.customs
first_refused o bytes m id s e =
    first_unknown id m.customs (ap first_id (sym (over_all 0 m.customs (ranged bytes m s).customs_in_order)) ∙ (sym (module_refused o m) ∙ e))
