-- The parts of a module are those of its sections, with one function of answers for all custom sections.
use Rattle.std.specs.Prelude.{◌≡◌, List, [], ◌∷◌, ◌++◌, flat_map, false, length, Option, Some, None, if◌then◌else◌, refl}
use Rattle.std.proofs.Common.{sym, ap₂, ◌∙◌}
use Rattle.wasmprinter_spec.specs.Kinds.{Kind, same_kind}
use Rattle.wasmprinter_spec.specs.Names.{Names}
use Rattle.wasmprinter_spec.specs.Placed.{PlacedModule}
use Rattle.wasmprinter_spec.specs.Options.{Options, Answers}
use Rattle.wasmprinter_spec.specs.Layout.{module_parts, section_pieces, early_scope, section_order}
use Rattle.wasmprinter_spec.specs.Layout.Declarations.{Scope}
use Rattle.wasmprinter_spec.specs.Layout.Customs.{Part, Shown, parts_at}
use Rattle.wasmprinter_module_text.proofs.Places.{one_table}
use Rattle.wasmprinter_module_text.specs.Sections.{sections_parts}

-- ---- Answers by kinds

-- The answers for the custom sections after the section of a kind.
abbrev answers_after : List Kind → List Answers → Kind → Answers
answers_after (k ∷ ks) (a ∷ bs) j = if same_kind j k then a else answers_after ks bs j
answers_after _ _ j = λ n. false

abbrev table_of : Answers → List Answers → Option Kind → Answers
table_of first answers None = first
table_of first answers (Some k) = answers_after section_order answers k

module _ (o : Options) (s : Scope) (m : PlacedModule) where
  -- Sections, each with the custom sections after it.
  abbrev sections_by : (Option Kind → List Part) → List Kind → List Part
  sections_by customs ks = flat_map (λ k. Shown (section_pieces o s m k) ∷ customs (Some k)) ks

  sections-agree : (f g : Option Kind → List Part) → ((after : Option Kind) → f after ≡ g after) → (ks : List Kind) → sections_by f ks ≡ sections_by g ks
  sections-agree f g e [] = refl
  sections-agree f g e (k ∷ ks) = ap₂ (λ (xs ys : List Part). (Shown (section_pieces o s m k) ∷ xs) ++ ys) (e (Some k)) (sections-agree f g e ks)

  sections-table : (first : Answers) (answers : List Answers) → length answers ≡ length section_order →
      sections_parts o s m answers section_order ≡ sections_by (λ after. parts_at o.skeleton (table_of first answers after) after 0 m.customs) section_order
  sections-table first (a ∷ b ∷ c ∷ d ∷ e ∷ f ∷ g ∷ h ∷ i ∷ j ∷ k ∷ l ∷ []) many = refl
  sections-table first _ many = absurd cc

-- ---- The whole module

-- The parts of sections, each with its own answers, are the parts of the module with one function of answers.
pub module_walk : (o : Options) (names : Names) (m : PlacedModule) (first : Answers) (several : List Answers) → length several ≡ length section_order →
    (answers : Answers) × (parts_at o.skeleton first None 0 m.customs ++ sections_parts o (early_scope o names m) m several section_order ≡ module_parts o answers names m)
unfolding module_parts
module_walk o names m first several many =
    let s : Scope = early_scope o names m in
    let by : Option Kind → List Part = λ after. parts_at o.skeleton (table_of first several after) after 0 m.customs in
    let one = one_table o.skeleton (table_of first several) m.customs in
    let at : Option Kind → List Part = λ after. parts_at o.skeleton one.0 after 0 m.customs in (
      one.0,
      ap₂ (λ (xs ys : List Part). xs ++ ys) (sym (one.1 None))
          (sections-table o s m first several many ∙ sections-agree o s m by at (λ after. sym (one.1 after)) section_order),
    )
