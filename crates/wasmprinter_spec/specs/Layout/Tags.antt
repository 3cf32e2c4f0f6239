-- The layout of tags (section 6.6 of the standard, "Tags").
use Rattle.std.specs.Prelude.{ℕ, List, ◌∷◌, codes, Some, None}
use Rattle.wasmprinter_spec.specs.Grammar.{Placed}
use Rattle.wasmprinter_spec.specs.Row.{Tag}
use Rattle.wasmprinter_spec.specs.Piece.{Piece, Break}
use Rattle.wasmprinter_spec.specs.Layout.Groups.{line_group_space}
use Rattle.wasmprinter_spec.specs.Layout.Declarations.{Scope}
use Rattle.wasmprinter_spec.specs.Layout.Functions.{header_pieces}

-- A tag. It has a type as a function has, but no identifiers for its parameters.
unfoldable pub tag_pieces : Scope → ℕ → Placed ℕ → List Piece
tag_pieces s i tag = Break (Some tag.place) 1 ∷ line_group_space (codes "tag") (header_pieces s Tag None i tag.value)
