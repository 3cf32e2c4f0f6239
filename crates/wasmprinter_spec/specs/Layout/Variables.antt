-- The layout of parameters and locals (section 6.6 of the standard, "Functions" and "Type Uses"). A variable with
-- an identifier is in a group of its own; adjacent ones without identifiers share a group.
use Rattle.std.specs.Prelude.{ℕ, ◌+◌, List, [], ◌∷◌, ◌++◌, Option, Some, None}
use Rattle.wasmprinter_spec.specs.Types.{ValType}
use Rattle.wasmprinter_spec.specs.Labels.{Named}
use Rattle.wasmprinter_spec.specs.Names.{Names}
use Rattle.wasmprinter_spec.specs.Piece.{Piece, OneSpace}
use Rattle.wasmprinter_spec.specs.Layout.Groups.{line_group}
use Rattle.wasmprinter_spec.specs.Layout.Identifiers.{id_and_name_space_pieces}
use Rattle.wasmprinter_spec.specs.Layout.ValTypes.{val_pieces, type_list}

-- A group of variables: one with an identifier, or several without.
pub data Variables : Type 0 where
  Alone : Named → ValType → Variables
  Together : List ValType → Variables

-- A variable before these groups.
abbrev pub with_variable : Option Named → ValType → List Variables → List Variables
with_variable (Some n) t gs = Alone n t ∷ gs
with_variable None t (Together ts ∷ gs) = Together (t ∷ ts) ∷ gs
with_variable None t gs = Together (t ∷ []) ∷ gs

-- The variables with the indices k, k + 1 .. in their groups.
abbrev pub variable_groups : (ℕ → Option Named) → ℕ → List ValType → List Variables
variable_groups named k [] = []
variable_groups named k (t ∷ ts) = with_variable (named k) t (variable_groups named (k + 1) ts)

module _ (names : Names) where
  -- A group of variables after the word w, which is `param` or `local`.
  unfoldable pub variables_pieces : List ℕ → Variables → List Piece
  variables_pieces w (Alone n t) = line_group w (OneSpace ∷ (id_and_name_space_pieces (Some n) ++ val_pieces names t))
  variables_pieces w (Together ts) = line_group w (type_list names ts)

  -- Groups, with a space before each.
  unfoldable pub groups_pieces : List ℕ → List Variables → List Piece
  groups_pieces w [] = []
  groups_pieces w (g ∷ gs) = OneSpace ∷ (variables_pieces w g ++ groups_pieces w gs)
