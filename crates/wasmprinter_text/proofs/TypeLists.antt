-- The layout of lists of types, type by type.
use Rattle.std.specs.Prelude.{◌≡◌, ℕ, List, [], ◌∷◌, ◌++◌, length, refl}
use Rattle.std.proofs.Common.{sym, ap, ◌∙◌, append_assoc, append-nil}
use Rattle.wasmprinter_spec.specs.Types.{ValType as DefinedType}
use Rattle.wasmprinter_spec.specs.Names.{Names}
use Rattle.wasmprinter_spec.specs.Piece.{OneSpace}
use Rattle.wasmprinter_spec.specs.Layout.Groups.{line_group}
use Rattle.wasmprinter_spec.specs.Layout.ValTypes.{val_pieces, type_list}
use Rattle.wasmprinter_spec.specs.Layout.Types.{list_group}
use Rattle.wasmprinter_ops.specs.ValTypes.{val_type_view, val_types_view}
use Rattle.wasmprinter_ops.specs.declared.val_types.ValType.{ValType}

module _ (names : Names) where
  pub one_type : (t : DefinedType) → type_list names (t ∷ []) ≡ OneSpace ∷ val_pieces names t
  unfolding type_list
  one_type t = ap (λ ps. OneSpace ∷ ps) (append-nil (val_pieces names t))

  -- The pieces of two lists of types, joined, are those of the first and those of the second.
  pub type_list-append : (ts us : List DefinedType) → type_list names (ts ++ us) ≡ type_list names ts ++ type_list names us
  unfolding type_list
  type_list-append [] us = refl
  type_list-append (t ∷ ts) us =
      ap (λ ps. OneSpace ∷ (val_pieces names t ++ ps)) (type_list-append ts us) ∙ sym (ap (λ ps. OneSpace ∷ ps) (append_assoc (val_pieces names t) (type_list names ts) (type_list names us)))

  -- An empty list of types has no pieces.
  pub types-none : (ts : List ValType) → ts ≡ [] → type_list names (val_types_view ts) ≡ []
  unfolding type_list
  types-none ts e = ap (λ xs. type_list names (val_types_view xs)) e

  -- The pieces of a list of types are those of the first type and those of the others.
  pub types-next : (ts rest : List ValType) (t : ValType) → ts ≡ t ∷ rest →
      type_list names (val_types_view ts) ≡ type_list names (val_type_view t ∷ []) ++ type_list names (val_types_view rest)
  types-next ts rest t e = ap (λ xs. type_list names (val_types_view xs)) e ∙ type_list-append (val_type_view t ∷ []) (val_types_view rest)

  -- The group of an empty list of types has no pieces.
  pub list_group-none : (w : List ℕ) (ts : List ValType) → length ts ≡ 0 → list_group names w (val_types_view ts) ≡ []
  unfolding list_group
  list_group-none w [] e = refl
  list_group-none w (t ∷ ts) e = absurd cc

  -- The group of a nonempty list of types is a space and a group within one line.
  pub list_group-some : (w : List ℕ) (ts : List ValType) → (length ts ≡ 0 → ⊥) →
      list_group names w (val_types_view ts) ≡ OneSpace ∷ line_group w (type_list names (val_types_view ts))
  unfolding list_group
  list_group-some w [] e = absurd (e refl)
  list_group-some w (t ∷ ts) e = refl
