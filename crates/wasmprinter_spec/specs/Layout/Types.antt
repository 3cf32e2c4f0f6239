-- The layout of types (section 6.4 of the standard). Each type is on one line; only groups of types have several.
use Rattle.std.specs.Prelude.{ℕ, ◌+◌, List, [], ◌∷◌, ◌++◌, codes, Option, Some, None, length, Bool, true, false}
use Rattle.wasmprinter_spec.specs.Grammar.{Placed}
use Rattle.wasmprinter_spec.specs.Types.{ValType, StorageType, Val, I8, I16, FieldType, FuncType, CompositeType, FuncComposite, ArrayComposite, StructComposite, SubType}
use Rattle.wasmprinter_spec.specs.Row.{Types}
use Rattle.wasmprinter_spec.specs.Labels.{Named}
use Rattle.wasmprinter_spec.specs.Names.{Names}
use Rattle.wasmprinter_spec.specs.Placed.{TypeGroup}
use Rattle.wasmprinter_spec.specs.Piece.{Piece, Break, OneSpace, OpenPlain, CloseParen, Word}
use Rattle.wasmprinter_spec.specs.Layout.Groups.{group, line_group, line_group_space, numbered_pieces}
use Rattle.wasmprinter_spec.specs.Layout.Identifiers.{identifier_space_pieces, declaration_pieces}
use Rattle.wasmprinter_spec.specs.Layout.ValTypes.{type_index_pieces, val_pieces, type_list}
use Rattle.wasmprinter_spec.specs.Layout.Variables.{variable_groups, groups_pieces}

-- The identifiers of a signature's parameters: those of function f, or no identifiers if the signature belongs to
-- no function.
abbrev pub parameters_of : Names → Option ℕ → ℕ → Option Named
parameters_of names None i = None
parameters_of names (Some f) i = names.locals f i

module _ (names : Names) where
  -- ` (w t1 t2 ..)`, and nothing if there are no types.
  unfoldable pub list_group : List ℕ → List ValType → List Piece
  list_group w [] = []
  list_group w (t ∷ ts) = OneSpace ∷ line_group w (type_list names (t ∷ ts))

  -- A signature: groups `param`, then a group `result`, if there are results, with a space before each. The parameters
  -- have the identifiers of those of function f, if there is one.
  unfoldable pub signature_pieces : Option ℕ → FuncType → List Piece
  signature_pieces f t =
      groups_pieces names (codes "param") (variable_groups (parameters_of names f) 0 t.params) ++ list_group (codes "result") t.results

  -- The signature of a type, nothing if it is not a function type. `f`, here and below, is that of `signature_pieces`.
  abbrev pub signature_if_any : Option ℕ → Option FuncType → List Piece
  signature_if_any f None = []
  signature_if_any f (Some t) = signature_pieces f t

  -- A type use: the index i of a type, and its signature t if it is a function type.
  unfoldable pub type_use_pieces : Option ℕ → ℕ → Option FuncType → List Piece
  type_use_pieces f i t = line_group_space (codes "type") (type_index_pieces names i) ++ signature_if_any f t

  -- ---- Composite types

  -- A storage type.
  unfoldable pub storage_pieces : StorageType → List Piece
  storage_pieces (Val t) = val_pieces names t
  storage_pieces I8 = Word (codes "i8") ∷ []
  storage_pieces I16 = Word (codes "i16") ∷ []

  -- A storage type, in a group `mut` if the field is mutable.
  abbrev pub field_pieces_by : Bool → StorageType → List Piece
  field_pieces_by true s = OpenPlain (codes "mut") ∷ (OneSpace ∷ (storage_pieces s ++ (CloseParen ∷ [])))
  field_pieces_by false s = storage_pieces s

  -- A space, the identifier of the field if it has one, and the field.
  unfoldable pub field_pieces : Option Named → FieldType → List Piece
  field_pieces n f = OneSpace ∷ (identifier_space_pieces n ++ field_pieces_by f.mutable f.storage)

  -- A space and the group of a field of a structure type, with its identifier if it has one.
  unfoldable pub struct_field_pieces : Option Named → FieldType → List Piece
  struct_field_pieces n f = OneSpace ∷ (OpenPlain (codes "field") ∷ (field_pieces n f ++ (CloseParen ∷ [])))

  -- The composite type of the type with index i, which gives the fields of a structure type their identifiers.
  unfoldable pub composite_pieces : ℕ → CompositeType → List Piece
  composite_pieces i (FuncComposite t) = line_group (codes "func") (signature_pieces None t)
  composite_pieces i (ArrayComposite f) = line_group (codes "array") (field_pieces None f)
  composite_pieces i (StructComposite fs) =
      line_group (codes "struct") (numbered_pieces (λ k f. struct_field_pieces (names.fields i k) f) 0 fs)

  -- ---- Subtypes

  -- The word `final` and a space, if the type is final.
  abbrev pub final_pieces : Bool → List Piece
  final_pieces true = Word (codes "final") ∷ (OneSpace ∷ [])
  final_pieces false = []

  -- Supertypes, with a space after each.
  unfoldable pub supertype_pieces : List ℕ → List Piece
  supertype_pieces [] = []
  supertype_pieces (i ∷ is) = type_index_pieces names i ++ (OneSpace ∷ supertype_pieces is)

  -- The group `sub` of the type with index i: whether it is final, its supertypes and its composite type.
  unfoldable pub sub_group : ℕ → Bool → List ℕ → CompositeType → List Piece
  sub_group i final supers c = line_group (codes "sub") (OneSpace ∷ (final_pieces final ++ (supertype_pieces supers ++ composite_pieces i c)))

  -- A subtype. A final type without supertypes is printed as its composite type by itself.
  abbrev pub sub_pieces_by : ℕ → Bool → List ℕ → CompositeType → List Piece
  sub_pieces_by i true [] c = composite_pieces i c
  sub_pieces_by i final supers c = sub_group i final supers c

  -- The subtype of the type with index i.
  unfoldable pub sub_pieces : ℕ → SubType → List Piece
  sub_pieces i t = sub_pieces_by i t.final t.supertypes t.composite

  -- The type with index i in a group `type`: its declaration, a space, and its subtype.
  unfoldable pub type_pieces : ℕ → SubType → List Piece
  type_pieces i t = line_group_space (codes "type") (declaration_pieces (names.items Types i) i ++ (OneSpace ∷ sub_pieces i t))

  -- ---- Groups of types

  -- A type of an explicit `(rec ..)`, on a line of its own. The place of all these lines is that after the group's
  -- first two bytes; `place` is that of the group.
  unfoldable pub member_pieces : ℕ → ℕ → SubType → List Piece
  member_pieces place i t = Break (Some (place + 2)) 2 ∷ type_pieces i t

  -- The types of a group, with indices from i on, in a group `rec` if the first argument says so. The second argument
  -- is the place of the group.
  abbrev pub group_pieces_by : Bool → ℕ → ℕ → List SubType → List Piece
  group_pieces_by true place i ts = group 1 (codes "rec") (numbered_pieces (member_pieces place) i ts)
  group_pieces_by false place i ts = numbered_pieces type_pieces i ts

  -- A group. Its first type has the index i.
  unfoldable pub type_group_pieces : ℕ → Placed TypeGroup → List Piece
  type_group_pieces i g = Break (Some g.place) 1 ∷ group_pieces_by g.value.explicit g.place i g.value.types

  -- Groups. Type indices run across all of them; the first type has the index i.
  unfoldable pub type_section_pieces : ℕ → List (Placed TypeGroup) → List Piece
  type_section_pieces i [] = []
  type_section_pieces i (g ∷ gs) = type_group_pieces i g ++ type_section_pieces (i + length g.value.types) gs
