-- The layout of composite types and subtypes, part by part.
use Rattle.std.specs.Prelude.{◌≡◌, ℕ, ◌+◌, List, [], ◌∷◌, ◌++◌, Bool, true, false, ◌&&◌, ◌==◌, length, codes, refl}
use Rattle.std.proofs.Common.{sym, ap, ◌∙◌, append_assoc}
use Rattle.std.proofs.Math.Dec.{eqb-suc-zero}
use Rattle.wasmprinter_spec.specs.Types.{FieldType as DefinedField, CompositeType, SubType}
use Rattle.wasmprinter_spec.specs.Names.{Names}
use Rattle.wasmprinter_spec.specs.Piece.{Piece, OneSpace, Open, CloseParen}
use Rattle.wasmprinter_spec.specs.Layout.Groups.{line_group, numbered_pieces}
use Rattle.wasmprinter_spec.specs.Layout.ValTypes.{type_index_pieces}
use Rattle.wasmprinter_spec.specs.Layout.Types.{composite_pieces, final_pieces, supertype_pieces, sub_group, sub_pieces_by, sub_pieces}
use Rattle.wasmprinter_ops.specs.Types.{field_view, fields_view}
use Rattle.wasmprinter_ops.specs.declared.composite_types.FieldType.{FieldType}

module _ (f : ℕ → DefinedField → List Piece) where
  -- An empty list of fields has no pieces.
  pub fields-none : (n : ℕ) (fs : List FieldType) → fs ≡ [] → numbered_pieces f n (fields_view fs) ≡ []
  unfolding numbered_pieces
  fields-none n fs e = ap (λ xs. numbered_pieces f n (fields_view xs)) e

  -- The pieces of a list of fields are those of the first field and those of the others.
  pub fields-next : (n : ℕ) (fs rest : List FieldType) (x : FieldType) → fs ≡ x ∷ rest →
      numbered_pieces f n (fields_view fs) ≡ f n (field_view x) ++ numbered_pieces f (n + 1) (fields_view rest)
  unfolding numbered_pieces
  fields-next n fs rest x e = ap (λ xs. numbered_pieces f n (fields_view xs)) e

module _ (names : Names) where
  -- An empty list of supertypes has no pieces.
  pub supertypes-none : (is : List ℕ) → is ≡ [] → supertype_pieces names is ≡ []
  unfolding supertype_pieces
  supertypes-none is e = ap (supertype_pieces names) e

  -- The pieces of a list of supertypes are those of the first supertype and those of the others.
  pub supertypes-next : (is rest : List ℕ) (i : ℕ) → is ≡ i ∷ rest → supertype_pieces names is ≡ supertype_pieces names (i ∷ []) ++ supertype_pieces names rest
  unfolding supertype_pieces
  supertypes-next is rest i e =
      ap (supertype_pieces names) e ∙ sym (append_assoc (type_index_pieces names i) (OneSpace ∷ []) (supertype_pieces names rest))

  plain-by : (n : ℕ) (final : Bool) (is : List ℕ) (c : CompositeType) → (final && (length is == 0)) ≡ true → sub_pieces_by names n final is c ≡ composite_pieces names n c
  plain-by n true [] c e = refl
  plain-by n true (i ∷ is) c e = let never : true ≡ false = sym e ∙ eqb-suc-zero (length is) in absurd cc
  plain-by n false is c e = absurd cc

  -- The pieces of a final type without supertypes are those of its composite type.
  pub sub-plain : (n : ℕ) (t : SubType) → (t.final && (length t.supertypes == 0)) ≡ true → sub_pieces names n t ≡ composite_pieces names n t.composite
  unfolding sub_pieces
  sub-plain n t e = plain-by n t.final t.supertypes t.composite e

  grouped-by : (n : ℕ) (final : Bool) (is : List ℕ) (c : CompositeType) → (final && (length is == 0)) ≡ false → sub_pieces_by names n final is c ≡ sub_group names n final is c
  grouped-by n true [] c e = absurd cc
  grouped-by n true (i ∷ is) c e = refl
  grouped-by n false is c e = refl

  -- The pieces of any other subtype are those of a group.
  pub sub-grouped : (n : ℕ) (t : SubType) → (t.final && (length t.supertypes == 0)) ≡ false → sub_pieces names n t ≡ sub_group names n t.final t.supertypes t.composite
  unfolding sub_pieces
  sub-grouped n t e = grouped-by n t.final t.supertypes t.composite e

  -- The group of a subtype consists of `sub`, `final` if it is final, its supertypes and its composite type.
  pub sub_group-parts : (n : ℕ) (final : Bool) (is : List ℕ) (c : CompositeType) →
      sub_group names n final is c ≡ Open (codes "sub") ∷ (OneSpace ∷ (final_pieces names final ++ (supertype_pieces names is ++ (composite_pieces names n c ++ (CloseParen ∷ [])))))
  unfolding sub_group line_group
  sub_group-parts n final is c =
      ap (λ ps. Open (codes "sub") ∷ (OneSpace ∷ ps)) (append_assoc (final_pieces names final) (supertype_pieces names is ++ composite_pieces names n c) (CloseParen ∷ []) ∙ ap (λ ps. final_pieces names final ++ ps) (append_assoc (supertype_pieces names is) (composite_pieces names n c) (CloseParen ∷ [])))
