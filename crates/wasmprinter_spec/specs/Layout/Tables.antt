-- The layout of tables (sections 6.4 and 6.6 of the standard, "Table Types" and "Tables").
use Rattle.std.specs.Prelude.{ℕ, List, [], ◌∷◌, ◌++◌, codes, Option, Some, None}
use Rattle.wasmprinter_spec.specs.Grammar.{Placed}
use Rattle.wasmprinter_spec.specs.Types.{TableType}
use Rattle.wasmprinter_spec.specs.Row as row
use Rattle.wasmprinter_spec.specs.Names.{Names}
use Rattle.wasmprinter_spec.specs.Operator.{Operator}
use Rattle.wasmprinter_spec.specs.Placed.{Table}
use Rattle.wasmprinter_spec.specs.Piece.{Piece, Break, OneSpace}
use Rattle.wasmprinter_spec.specs.Layout.Groups.{group_space}
use Rattle.wasmprinter_spec.specs.Layout.Limits.{wide_pieces, limits_pieces}
use Rattle.wasmprinter_spec.specs.Layout.ValTypes.{ref_pieces}
use Rattle.wasmprinter_spec.specs.Layout.Declarations.{Scope, item_declaration}
use Rattle.wasmprinter_spec.specs.Layout.Expressions.{constant_pieces}

-- A table type.
unfoldable pub table_type_pieces : Names → TableType → List Piece
table_type_pieces names t = wide_pieces t.wide ++ (limits_pieces t.limits ++ (OneSpace ∷ ref_pieces names t.element))

-- A space and the initialiser, if there is one.
unfoldable pub init_pieces : Scope → Option (List (Placed Operator)) → List Piece
init_pieces s None = []
init_pieces s (Some os) = OneSpace ∷ constant_pieces s 2 os

-- A declaration and a table type.
abbrev pub declared_table : Scope → ℕ → TableType → List Piece
declared_table s i t = item_declaration s row.Table i ++ (OneSpace ∷ table_type_pieces s.names t)

-- The content of the group of the table with index i.
abbrev pub table_parts : Scope → ℕ → Table (Placed Operator) → List Piece
table_parts s i t = item_declaration s row.Table i ++ (OneSpace ∷ (table_type_pieces s.names t.type ++ init_pieces s t.init))

-- The field of the table with index i, on a line of its own.
unfoldable pub table_pieces : Scope → ℕ → Placed (Table (Placed Operator)) → List Piece
table_pieces s i t = Break (Some t.place) 1 ∷ group_space 1 (codes "table") (table_parts s i t.value)
