-- Escape sequences in the texts of folded operators do not change where a layout is refused.
use Rattle.std.specs.Prelude.{◌≡◌, ℕ, List, [], ◌∷◌, ◌++◌, flat_map, Bool, Option, Some, None, refl}
use Rattle.std.proofs.Common.{sym, ap, ◌∙◌}
use Rattle.wasmprinter_spec.specs.Kinds.{Kind}
use Rattle.wasmprinter_spec.specs.Placed.{PlacedModule}
use Rattle.wasmprinter_spec.specs.Names.{Names}
use Rattle.wasmprinter_spec.specs.ModuleNames.{module_names}
use Rattle.wasmprinter_spec.specs.Options.{Options, Answers, with_color}
use Rattle.wasmprinter_spec.specs.Piece.{Piece}
use Rattle.wasmprinter_spec.specs.Layout.{early_scope, section_order, section_parts, module_parts, refusal}
use Rattle.wasmprinter_spec.specs.Layout.Customs.{Part, Laid, laid_parts, parts_at}
use Rattle.wasmprinter_module_text.proofs.Joined.{laid_after, joined-append}

record HaveSameEnd (xs ys : List Part) : Type 0 where
  end : (laid_parts xs).refused ≡ (laid_parts ys).refused

after_end : (ps : List Piece) (r : Option ℕ) (l k : Laid) (qs : List Piece) → l.refused ≡ k.refused → (laid_after ps r l).refused ≡ (laid_after qs r k).refused
after_end ps None l k qs e = e
after_end ps (Some id) l k qs e = refl

both_end : {xs ys zs ws : List Part} → HaveSameEnd xs ys → HaveSameEnd zs ws → HaveSameEnd (xs ++ zs) (ys ++ ws)
both_end {xs} {ys} {zs} {ws} f g = record {
  end = ap (λ (l : Laid). l.refused) (joined-append xs zs)
      ∙ ap (λ (r : Option ℕ). (laid_after (laid_parts xs).pieces r (laid_parts zs)).refused) f.end
      ∙ after_end (laid_parts xs).pieces (laid_parts ys).refused (laid_parts zs) (laid_parts ws) (laid_parts ys).pieces g.end
      ∙ sym (ap (λ (l : Laid). l.refused) (joined-append ys ws));
}

module _ (o : Options) (b c : Bool) (answers : Answers) (names : Names) (m : PlacedModule) where
  customs_end : (after : Option Kind) → HaveSameEnd (parts_at o.skeleton answers after 0 m.customs) (parts_at o.skeleton answers after 0 m.customs)
  customs_end after = record { end = refl }

  abbrev parts_by : Bool → Kind → List Part
  parts_by color = section_parts (with_color o color) (early_scope (with_color o color) names m) m answers

  section_end : (k : Kind) → HaveSameEnd (parts_by b k) (parts_by c k)
  section_end k = record { end = refl }

  sections_end : (ks : List Kind) → HaveSameEnd (flat_map (parts_by b) ks) (flat_map (parts_by c) ks)
  sections_end [] = record { end = refl }
  sections_end (k ∷ ks) = both_end (section_end k) (sections_end ks)

  parts_end : HaveSameEnd (module_parts (with_color o b) answers names m) (module_parts (with_color o c) answers names m)
  unfolding module_parts
  parts_end = both_end (customs_end None) (sections_end section_order)

-- A layout with escape sequences is refused exactly as the layout without them.
pub refusal-color : (o : Options) (b c : Bool) (answers : Answers) (m : PlacedModule) → refusal (with_color o b) answers m ≡ refusal (with_color o c) answers m
refusal-color o b c answers m = (parts_end o b c answers (module_names o.synthesizes m) m).end
