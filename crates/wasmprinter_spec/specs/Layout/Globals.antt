-- The layout of globals (sections 6.4 and 6.6 of the standard, "Global Types" and "Globals").
use Rattle.std.specs.Prelude.{ℕ, List, [], ◌∷◌, ◌++◌, codes, Bool, true, false, Some}
use Rattle.wasmprinter_spec.specs.Grammar.{Placed}
use Rattle.wasmprinter_spec.specs.Types.{ValType, GlobalType}
use Rattle.wasmprinter_spec.specs.Row as row
use Rattle.wasmprinter_spec.specs.Names.{Names}
use Rattle.wasmprinter_spec.specs.Operator.{Operator}
use Rattle.wasmprinter_spec.specs.Placed.{Global}
use Rattle.wasmprinter_spec.specs.Piece.{Piece, Break, OneSpace, OpenTypeSpace, CloseParen}
use Rattle.wasmprinter_spec.specs.Layout.Groups.{group_space}
use Rattle.wasmprinter_spec.specs.Layout.ValTypes.{val_pieces}
use Rattle.wasmprinter_spec.specs.Layout.Declarations.{Scope, item_declaration}
use Rattle.wasmprinter_spec.specs.Layout.Expressions.{constant_pieces}

-- A value type, in a group `mut` if the global is mutable.
abbrev pub mutable_pieces : Names → Bool → ValType → List Piece
mutable_pieces names true t = OpenTypeSpace (codes "mut") ∷ (val_pieces names t ++ (CloseParen ∷ []))
mutable_pieces names false t = val_pieces names t

-- A global type.
unfoldable pub global_type_pieces : Names → GlobalType → List Piece
global_type_pieces names t = mutable_pieces names t.mutable t.type

-- A declaration and a global type.
abbrev pub declared_global : Scope → ℕ → GlobalType → List Piece
declared_global s i g = item_declaration s row.Global i ++ (OneSpace ∷ global_type_pieces s.names g)

-- The content of the group of the global with index i.
abbrev pub global_parts : Scope → ℕ → Global (Placed Operator) → List Piece
global_parts s i g = item_declaration s row.Global i ++ (OneSpace ∷ (global_type_pieces s.names g.type ++ (OneSpace ∷ constant_pieces s 2 g.init)))

-- The field of the global with index i, on a line of its own.
unfoldable pub global_pieces : Scope → ℕ → Placed (Global (Placed Operator)) → List Piece
global_pieces s i g = Break (Some g.place) 1 ∷ group_space 1 (codes "global") (global_parts s i g.value)
