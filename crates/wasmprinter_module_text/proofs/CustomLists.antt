-- Lists within annotations, item by item.
use Rattle.std.specs.Prelude.{◌≡◌, ℕ, List, [], ◌∷◌, ◌++◌, codes, chars, Some}
use Rattle.std.proofs.Common.{sym, ap, ◌∙◌, append_assoc}
use Rattle.wasmprinter_spec.specs.Grammar.{Placed}
use Rattle.wasmprinter_spec.specs.Customs.Producers.{Value, Field}
use Rattle.wasmprinter_spec.specs.Customs.Dylink.{ExportInfo, ImportInfo, Subsection}
use Rattle.wasmprinter_spec.specs.Piece.{Piece, OneSpace, Word, Break, OpenSpace, Quoted, CloseParen}
use Rattle.wasmprinter_spec.specs.Layout.Customs.{space_quoted, space_quoted_list, values_pieces, fields_pieces, flags_pieces, exports_pieces, import_infos_pieces, content_pieces, subsections_pieces}
use Rattle.wasmprinter_custom.specs.FlagPieces.{words_pieces}

-- ---- Names

pub names-none : (ns : List (List ℕ)) → ns ≡ [] → space_quoted_list ns ≡ []
unfolding space_quoted_list
names-none ns e = ap space_quoted_list e

pub names-next : (ns rest : List (List ℕ)) (n : List ℕ) → ns ≡ n ∷ rest → space_quoted_list ns ≡ space_quoted n ++ space_quoted_list rest
unfolding space_quoted_list
names-next ns rest n e = ap space_quoted_list e

-- ---- Words of flags

pub words-none : (ws : List (List ℕ)) → ws ≡ [] → words_pieces ws ≡ []
unfolding words_pieces
words-none ws e = ap words_pieces e

pub words-next : (ws rest : List (List ℕ)) (w : List ℕ) → ws ≡ w ∷ rest → words_pieces ws ≡ (OneSpace ∷ (Word w ∷ [])) ++ words_pieces rest
unfolding words_pieces
words-next ws rest w e = ap words_pieces e

-- ---- `producers`

module _ (field : List ℕ) where
  pub values-none : (vs : List (Placed Value)) → vs ≡ [] → values_pieces field vs ≡ []
  unfolding values_pieces
  values-none vs e = ap (values_pieces field) e

  pub values-next : (vs rest : List (Placed Value)) (v : Placed Value) → vs ≡ v ∷ rest → values_pieces field vs ≡ values_pieces field (v ∷ []) ++ values_pieces field rest
  unfolding values_pieces
  values-next vs rest v e = ap (values_pieces field) e

pub fields-none : (fs : List Field) → fs ≡ [] → fields_pieces fs ≡ []
unfolding fields_pieces
fields-none fs e = ap fields_pieces e

pub fields-next : (fs rest : List Field) (f : Field) → fs ≡ f ∷ rest → fields_pieces fs ≡ values_pieces f.name f.values ++ fields_pieces rest
unfolding fields_pieces
fields-next fs rest f e = ap fields_pieces e

-- ---- `dylink.0`

module _ (place : ℕ) where
  pub exports-none : (es : List ExportInfo) → es ≡ [] → exports_pieces place es ≡ []
  unfolding exports_pieces
  exports-none es e = ap (exports_pieces place) e

  pub exports-next : (es rest : List ExportInfo) (x : ExportInfo) → es ≡ x ∷ rest → exports_pieces place es ≡ exports_pieces place (x ∷ []) ++ exports_pieces place rest
  unfolding exports_pieces
  exports-next es rest x e =
      ap (exports_pieces place) e
      ∙ ap (λ (ps : List Piece). Break (Some place) 2 ∷ (OpenSpace (codes "export-info") ∷ (Quoted (chars x.name) ∷ ps)))
      (sym (append_assoc (flags_pieces x.flags) (CloseParen ∷ []) (exports_pieces place rest)))

  pub imports-none : (is : List ImportInfo) → is ≡ [] → import_infos_pieces place is ≡ []
  unfolding import_infos_pieces
  imports-none is e = ap (import_infos_pieces place) e

  pub imports-next : (is rest : List ImportInfo) (x : ImportInfo) → is ≡ x ∷ rest →
      import_infos_pieces place is ≡ import_infos_pieces place (x ∷ []) ++ import_infos_pieces place rest
  unfolding import_infos_pieces
  imports-next is rest x e =
      ap (import_infos_pieces place) e
      ∙ ap (λ (ps : List Piece). Break (Some place) 2 ∷ (OpenSpace (codes "import-info") ∷ (Quoted (chars x.source) ∷ (space_quoted x.name ++ ps))))
      (sym (append_assoc (flags_pieces x.flags) (CloseParen ∷ []) (import_infos_pieces place rest)))

pub subsections-none : (ss : List Subsection) → ss ≡ [] → subsections_pieces ss ≡ []
unfolding subsections_pieces
subsections-none ss e = ap subsections_pieces e

pub subsections-next : (ss rest : List Subsection) (s : Subsection) → ss ≡ s ∷ rest → subsections_pieces ss ≡ content_pieces s.place s.value ++ subsections_pieces rest
unfolding subsections_pieces
subsections-next ss rest s e = ap subsections_pieces e
