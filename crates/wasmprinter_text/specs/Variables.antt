-- Parameters and locals in one pass over their types: the pieces of each variable, given the state of the text
-- before it.
use Rattle.std.specs.Prelude.{ℕ, ◌+◌, List, [], ◌∷◌, ◌++◌, Option, Some, None}
use Rattle.wasmprinter_spec.specs.Types.{ValType}
use Rattle.wasmprinter_spec.specs.Labels.{Named}
use Rattle.wasmprinter_spec.specs.Names.{Names}
use Rattle.wasmprinter_spec.specs.Piece.{Piece, OneSpace, Open, CloseParen}
use Rattle.wasmprinter_spec.specs.Layout.ValTypes.{type_list}
use Rattle.wasmprinter_spec.specs.Layout.Variables.{Alone, variables_pieces}
use Rattle.wasmprinter_text.specs.declared.types.params_and_locals.Before.{Before}
use Rattle.wasmprinter_text.specs.declared.types.params_and_locals.Before.TheVariants as before

-- The pieces before a new group: an open group is closed and a space follows, except at the start of a line.
abbrev pub front_pieces : Before → List Piece
front_pieces before.Line = []
front_pieces before.ClosedGroup = OneSpace ∷ []
front_pieces before.Open = CloseParen ∷ (OneSpace ∷ [])

-- The pieces after the last variable: a group that is open is closed.
abbrev pub end_pieces : Before → List Piece
end_pieces before.Open = CloseParen ∷ []
end_pieces _ = []

-- The state after a variable with this identifier.
abbrev pub before_next : Option Named → Before
before_next (Some n) = before.ClosedGroup
before_next None = before.Open

module _ (names : Names) (w : List ℕ) where
  -- The pieces of the first variable of a new group of variables without identifiers. Here and below, w is the keyword
  -- of a new group, and b the state of the text before the variable.
  abbrev pub first_pieces : Before → ValType → List Piece
  first_pieces b t = front_pieces b ++ (Open w ∷ type_list names (t ∷ []))

  -- The pieces of a variable without an identifier: its type in the group that is open, or in a new one.
  abbrev pub unnamed_pieces : Before → ValType → List Piece
  unnamed_pieces before.Open t = type_list names (t ∷ [])
  unnamed_pieces b t = first_pieces b t

  -- The pieces of a variable, with the keyword w of a new group and the state b before it: a group of its own if the
  -- variable has an identifier, otherwise its type in a group that stays open.
  abbrev pub variable_pieces : Before → Option Named → ValType → List Piece
  variable_pieces b (Some n) t = front_pieces b ++ variables_pieces names w (Alone n t)
  variable_pieces b None t = unnamed_pieces b t

  -- The pieces of the variables k, k + 1, .. in the given state.
  abbrev pub walk_pieces : (ℕ → Option Named) → Before → ℕ → List ValType → List Piece
  walk_pieces named b k [] = end_pieces b
  walk_pieces named b k (t ∷ ts) = variable_pieces b (named k) t ++ walk_pieces named (before_next (named k)) (k + 1) ts
