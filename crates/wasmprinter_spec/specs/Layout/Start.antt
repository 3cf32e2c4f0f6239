-- The layout of the start function (section 6.6 of the standard, "Start Function").
use Rattle.std.specs.Prelude.{ℕ, List, [], ◌∷◌, codes, Option, Some, None}
use Rattle.wasmprinter_spec.specs.Grammar.{Placed}
use Rattle.wasmprinter_spec.specs.Row.{Func}
use Rattle.wasmprinter_spec.specs.Piece.{Piece, Break}
use Rattle.wasmprinter_spec.specs.Layout.Groups.{line_group_space}
use Rattle.wasmprinter_spec.specs.Layout.Declarations.{Scope, item_index}

-- The start function, if the module has one.
unfoldable pub start_pieces : Scope → Option (Placed ℕ) → List Piece
start_pieces s None = []
start_pieces s (Some start) = Break (Some start.place) 1 ∷ line_group_space (codes "start") (item_index s Func start.value)
