-- Sections one after the other, each with its custom sections.
use Rattle.std.specs.Prelude.{◌≡◌, ℕ, suc, ◌+◌, ◌<◌, ◌≤◌, List, [], ◌∷◌, ◌++◌, length, drop, Some, slice_get}
use Rattle.std.proofs.Common.{ap, ◌∙◌, add-one, drop-cons, get_or, option_map}
use Rattle.std.proofs.lemmas.List.{drop_all}
use Rattle.std.proofs.lemmas.Option.{slice_get-map, slice_get-get_or, get_or_from_slice_get}
use Rattle.wasmprinter_spec.specs.Kinds.{Kind}
use Rattle.wasmprinter_spec.specs.Placed.{PlacedModule}
use Rattle.wasmprinter_spec.specs.Options.{Options, Answers}
use Rattle.wasmprinter_spec.specs.Layout.Declarations.{Scope}
use Rattle.wasmprinter_decoder.specs.Places.{section_kind_view}
use Rattle.wasmprinter_decoder.specs.declared.custom_section_positions.SectionKind.{SectionKind}
use Rattle.wasmprinter_decoder.specs.declared.custom_section_positions.SectionKind.TheVariants as k
use Rattle.wasmprinter_spec.specs.Layout.{section_parts, section_order}
use Rattle.wasmprinter_module_text.specs.Sections.{sections_parts}

-- The kinds of the program, which are those of the definitions.
abbrev pub program_kinds : List SectionKind
program_kinds = k.Type ∷ k.Import ∷ k.Function ∷ k.Table ∷ k.Memory ∷ k.Tag ∷ k.Global ∷ k.Export ∷ k.Start ∷ k.Element ∷ k.Code ∷ k.Data ∷ []

pub kind_at : (i : ℕ) → i < length section_order → slice_get section_order i ≡ Some (section_kind_view (get_or program_kinds i k.Type))
kind_at i h = slice_get-map section_kind_view program_kinds i ∙ ap (option_map section_kind_view) (slice_get-get_or program_kinds i k.Type h)

-- The kinds from i on are kind i and those after it.
pub kinds-next : (i : ℕ) → i < length section_order →
    drop i section_order ≡ section_kind_view (get_or program_kinds i k.Type) ∷ drop (i + 1) section_order
kinds-next i h =
    let x : Kind = section_kind_view (get_or program_kinds i k.Type) in
    rw (add-one, drop-cons section_order i x h) (ap (λ (y : Kind). y ∷ drop (suc i) section_order) (get_or_from_slice_get section_order i x x (kind_at i h)))

pub kinds-none : (i : ℕ) → length section_order ≤ i → drop i section_order ≡ []
kinds-none i h = drop_all i section_order h

module _ (o : Options) (s : Scope) (m : PlacedModule) where
  -- The parts of one section and those of the sections after it.
  pub sections-next : (a : Answers) (answers : List Answers) (ks rest : List Kind) (kind : Kind) → ks ≡ kind ∷ rest →
      sections_parts o s m (a ∷ answers) ks ≡ section_parts o s m a kind ++ sections_parts o s m answers rest
  sections-next a answers ks rest kind e = ap (sections_parts o s m (a ∷ answers)) e

  -- No kind, no part.
  pub sections-none : (ks : List Kind) → ks ≡ [] → sections_parts o s m [] ks ≡ []
  sections-none ks e = ap (sections_parts o s m []) e
