-- A refused `dylink.0` section is one of the module's custom sections, and the last claim of the layout is for it.
use Rattle.std.specs.Prelude.{◌≡◌, ◌⊎◌, ℕ, ◌+◌, List, [], ◌∷◌, ◌++◌, flat_map, codes, Bool, true, false, Option, Some, None, refl}
use Rattle.std.proofs.Common.{sym, subst, ap, ◌∙◌, inl, inr, append_assoc}
use Rattle.wasmprinter_spec.specs.Grammar.{some_is}
use Rattle.wasmprinter_spec.specs.Kinds.{Kind}
use Rattle.wasmprinter_spec.specs.Placed.{CustomEntry, PlacedModule}
use Rattle.wasmprinter_spec.specs.Names.{Names}
use Rattle.wasmprinter_spec.specs.ModuleNames.{module_names}
use Rattle.wasmprinter_spec.specs.Call.{Call, Claim, atoms}
use Rattle.wasmprinter_spec.specs.Options.{Options, Answers}
use Rattle.wasmprinter_spec.specs.Piece.{Piece, Begin, Open, Claimed, all_calls}
use Rattle.wasmprinter_spec.specs.Customs.{CustomTreatment, Silent, ProducersFields, DylinkSubsections, Refused, Raw, Malformed, custom_treatment_of}
use Rattle.wasmprinter_spec.specs.Layout.Identifiers.{leading_id_and_name_pieces}
use Rattle.wasmprinter_spec.specs.Layout.{early_scope, section_pieces, section_order, section_parts, module_parts, module_pieces_of, module_pieces_with, module_pieces, layout, refusal}
use Rattle.wasmprinter_spec.specs.Layout.Customs.{Part, Shown, Laid, laid_parts, treatment_part, custom_part, same_after, parts_at}
use Rattle.wasmprinter_print.specs.Change.{Change}
use Rattle.wasmprinter_print.specs.MadeLaws.{atoms-append}
use Rattle.wasmprinter_print.specs.MadeCalls.{Whole}
use Rattle.wasmprinter_print.specs.EffectLaws.{all_calls-append}
use Rattle.wasmprinter_module_text.proofs.Joined.{laid_after, joined-append}
use Rattle.wasmprinter.specs.Outcome.{AnyIsUnknown, IsRefused, AnyIsRefused, MadeUpTo}

abbrev Stop : List Part → ℕ → Type 0
Stop parts id = (laid_parts parts).refused ≡ Some id

abbrev pieces_of : List Part → List Piece
pieces_of parts = (laid_parts parts).pieces

-- The claim for this section, answered no.
abbrev question : CustomEntry → Piece
question c = Claimed c.section.value.name c.section.value.bytes.place c.section.value.bytes.value false

-- The pieces end with the claim for this section, which is refused.
record IsAsked (id : ℕ) (c : CustomEntry) (ps : List Piece) : Type 0 where
  unknown : custom_treatment_of c.section.value ≡ Refused id
  front : List Piece
  ends : ps ≡ front ++ question c ∷ []

abbrev AnyIsAsked : ℕ → List CustomEntry → List Piece → Type 0
AnyIsAsked id [] ps = ⊥
AnyIsAsked id (c ∷ cs) ps = IsAsked id c ps ⊎ AnyIsAsked id cs ps

-- If pieces end with such a claim, they do so after other pieces too.
asked_after : (id : ℕ) (cs : List CustomEntry) (ps qs : List Piece) → AnyIsAsked id cs qs → AnyIsAsked id cs (ps ++ qs)
asked_after id [] ps qs h = absurd h
asked_after id (c ∷ cs) ps qs (inl a) =
    inl (record { unknown = a.unknown; front = ps ++ a.front; ends = ap (λ (rs : List Piece). ps ++ rs) a.ends ∙ sym (append_assoc ps a.front (question c ∷ [])) })
asked_after id (c ∷ cs) ps qs (inr h) = inr (asked_after id cs ps qs h)

-- The first part does not stop the layout: its pieces come before those of the other parts, which stop it.
record GoesOn (part : Part) (others : List Part) (id : ℕ) : Type 0 where
  front : List Piece
  pieces : pieces_of (part ∷ others) ≡ front ++ pieces_of others
  stops : Stop others id

shown_on : (ps : List Piece) (others : List Part) (id : ℕ) → Stop others id → GoesOn (Shown ps) others id
shown_on ps others id h = record { front = ps; pieces = refl; stops = h }

treatment_stops : (skeleton : Bool) (c : CustomEntry) (r : CustomTreatment) (others : List Part) (id : ℕ) → custom_treatment_of c.section.value ≡ r →
    Stop (treatment_part skeleton (question c) c r ∷ others) id →
    IsAsked id c (pieces_of (treatment_part skeleton (question c) c r ∷ others)) ⊎ GoesOn (treatment_part skeleton (question c) c r) others id
treatment_stops skeleton c Silent others id e h = inr (shown_on _ others id h)
treatment_stops skeleton c (ProducersFields fields) others id e h = inr (shown_on _ others id h)
treatment_stops skeleton c (DylinkSubsections ss) others id e h = inr (shown_on _ others id h)
treatment_stops skeleton c (Refused i) others id e h = inl (record { unknown = e ∙ ap (λ (n : ℕ). Refused n) (some_is i id h); front = []; ends = refl })
treatment_stops skeleton c Raw others id e h = inr (shown_on _ others id h)
treatment_stops skeleton c Malformed others id e h = inr (shown_on _ others id h)

custom_stops : (skeleton answer : Bool) (c : CustomEntry) (others : List Part) (id : ℕ) → Stop (custom_part skeleton answer c ∷ others) id →
    IsAsked id c (pieces_of (custom_part skeleton answer c ∷ others)) ⊎ GoesOn (custom_part skeleton answer c) others id
custom_stops skeleton true c others id h = inr (shown_on _ others id h)
custom_stops skeleton false c others id h = treatment_stops skeleton c (custom_treatment_of c.section.value) others id refl h

module _ (skeleton : Bool) (answers : Answers) (place : Option Kind) (id : ℕ) where
  abbrev own_parts : ℕ → List CustomEntry → List Part
  own_parts n cs = parts_at skeleton answers place n cs

  after_stops : (n : ℕ) (cs : List CustomEntry) → Stop (own_parts n cs) id → AnyIsAsked id cs (pieces_of (own_parts n cs))
  after_stops n [] h = absurd cc
  after_stops n (c ∷ cs) h = by (same_after c.after place) (λ rest. after_stops (n + 1) cs rest) refl
    where
      others : List Part
      others = own_parts (n + 1) cs

      here : (Stop others id → AnyIsAsked id cs (pieces_of others)) → (part : Part) → IsAsked id c (pieces_of (part ∷ others)) ⊎ GoesOn part others id →
          AnyIsAsked id (c ∷ cs) (pieces_of (part ∷ others))
      here after part (inl a) = inl a
      here after part (inr g) = inr (subst (AnyIsAsked id cs) (sym g.pieces) (asked_after id cs g.front (pieces_of others) (after g.stops)))

      by : (t : Bool) → (Stop others id → AnyIsAsked id cs (pieces_of others)) → same_after c.after place ≡ t → AnyIsAsked id (c ∷ cs) (pieces_of (own_parts n (c ∷ cs)))
      by true after e = rw e (here after (custom_part skeleton (answers n) c) (custom_stops skeleton (answers n) c others id (rw e at h)))
      by false after e = rw e (inr (after (rw e at h)))

module _ (o : Options) (answers : Answers) (m : PlacedModule) (id : ℕ) where
  -- If the parts stop for this subsection, their pieces end with the claim for such a section.
  record IsAskedIf (parts : List Part) : Type 0 where
    stops : Stop parts id → AnyIsAsked id m.customs (pieces_of parts)

  joined_if : (l k : Laid) → (l.refused ≡ Some id → AnyIsAsked id m.customs l.pieces) → (k.refused ≡ Some id → AnyIsAsked id m.customs k.pieces) →
      (laid_after l.pieces l.refused k).refused ≡ Some id → AnyIsAsked id m.customs (laid_after l.pieces l.refused k).pieces
  joined_if l k f g h = by l.refused f h
    where
      by : (r : Option ℕ) → (r ≡ Some id → AnyIsAsked id m.customs l.pieces) → (laid_after l.pieces r k).refused ≡ Some id → AnyIsAsked id m.customs (laid_after l.pieces r k).pieces
      by None f h = asked_after id m.customs l.pieces k.pieces (g h)
      by (Some i) f h = f h

  both_if : {xs ys : List Part} → IsAskedIf xs → IsAskedIf ys → IsAskedIf (xs ++ ys)
  both_if {xs} {ys} f g = record {
    stops = subst (λ (l : Laid). l.refused ≡ Some id → AnyIsAsked id m.customs l.pieces) (sym (joined-append xs ys)) (joined_if (laid_parts xs) (laid_parts ys) f.stops g.stops);
  }

  customs_if : (place : Option Kind) → IsAskedIf (parts_at o.skeleton answers place 0 m.customs)
  customs_if place = record { stops = λ h. after_stops o.skeleton answers place id 0 m.customs h }

  section_if : (names : Names) (k : Kind) → IsAskedIf (section_parts o (early_scope o names m) m answers k)
  section_if names k = record {
    stops = λ h. asked_after id m.customs (section_pieces o (early_scope o names m) m k) (pieces_of (parts_at o.skeleton answers (Some k) 0 m.customs)) ((customs_if (Some k)).stops h);
  }

  sections_if : (names : Names) (ks : List Kind) → IsAskedIf (flat_map (section_parts o (early_scope o names m) m answers) ks)
  sections_if names [] = record { stops = λ h. absurd cc }
  sections_if names (k ∷ ks) = both_if (section_if names k) (sections_if names ks)

  module_if : (names : Names) → IsAskedIf (module_parts o answers names m)
  unfolding module_parts
  module_if names = both_if (customs_if None) (sections_if names section_order)

-- ---- The refused section is one of the module's

forgets : (id : ℕ) (cs : List CustomEntry) (ps : List Piece) → AnyIsAsked id cs ps → AnyIsUnknown id cs
forgets id [] ps h = absurd h
forgets id (c ∷ cs) ps (inl a) = inl a.unknown
forgets id (c ∷ cs) ps (inr h) = inr (forgets id cs ps h)

asked : (o : Options) (answers : Answers) (m : PlacedModule) (id : ℕ) → refusal o answers m ≡ Some id →
    AnyIsAsked id m.customs (pieces_of (module_parts o answers (module_names o.synthesizes m) m))
asked o answers m id h = (module_if o answers m id (module_names o.synthesizes m)).stops h

pub refusal_unknown : (o : Options) (answers : Answers) (m : PlacedModule) (id : ℕ) → refusal o answers m ≡ Some id → AnyIsUnknown id m.customs
refusal_unknown o answers m id h = forgets id m.customs (pieces_of (module_parts o answers (module_names o.synthesizes m) m)) (asked o answers m id h)

-- ---- The calls end with the claim for it

module _ {P : Type 0} (printer : Change P) (o : Options) (id : ℕ) where
  -- All calls of these pieces were made.
  abbrev AreMade : List Piece → Type 0
  AreMade ps = Whole printer.meaning printer.old printer.new (all_calls o ps)

  -- If pieces end with the claim for a refused section, their calls do.
  ended : (c : CustomEntry) (front : List Piece) → custom_treatment_of c.section.value ≡ Refused id → AreMade (front ++ question c ∷ []) → IsRefused printer id c
  ended c front unknown w =
      let last : List Call = Claim c.section.value.name c.section.value.bytes.place c.section.value.bytes.value false ∷ [] in
      record {
        unknown = unknown;
        calls = w.calls;
        run = w.run;
        before = atoms (all_calls o front);
        asked = w.alike ∙ ap atoms (all_calls-append o front (question c ∷ [])) ∙ atoms-append (all_calls o front) last;
      }

  -- The same with the pieces before those of the sections.
  any_refused : (head : List Piece) (cs : List CustomEntry) (ps : List Piece) → AnyIsAsked id cs ps → AreMade (head ++ ps) → AnyIsRefused printer id cs
  any_refused head [] ps h w = absurd h
  any_refused head (c ∷ cs) ps (inl a) w =
      inl (ended c (head ++ a.front) a.unknown
      (subst AreMade (ap (λ (qs : List Piece). head ++ qs) a.ends ∙ sym (append_assoc head a.front (question c ∷ []))) w))
  any_refused head (c ∷ cs) ps (inr h) w = inr (any_refused head cs ps h w)

  -- If the calls of a layout that ends with a refusal were made, the last claim was for a refused section of the
  -- module.
  pub made_refused : (answers : Answers) (m : PlacedModule) → MadeUpTo printer id o m answers → AnyIsRefused printer id m.customs
  unfolding layout module_pieces module_pieces_with
  made_refused answers m h =
      let names : Names = module_names o.synthesizes m in
      let laid : Laid = laid_parts (module_parts o answers names m) in
      let head : List Piece = Begin 0 ∷ (Open (codes "module") ∷ leading_id_and_name_pieces names.module_name) in
      any_refused head m.customs laid.pieces (asked o answers m id h.ends)
      (subst (λ (r : Option ℕ). AreMade (module_pieces_of o names m.size laid.pieces r)) h.ends h.made)
