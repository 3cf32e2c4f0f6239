-- The lines of types, in a `rec` group or not.
use Rattle.std.specs.Prelude.{ℕ, List, Bool, true, false}
use Rattle.wasmprinter_spec.specs.Types.{SubType}
use Rattle.wasmprinter_spec.specs.Names.{Names}
use Rattle.wasmprinter_spec.specs.Piece.{Piece}
use Rattle.wasmprinter_spec.specs.Layout.Types.{type_pieces, member_pieces}

-- A type of the group at this place. In a `rec` group it is on a line of its own.
abbrev pub listed_pieces : Names → Bool → ℕ → ℕ → SubType → List Piece
listed_pieces names true place = member_pieces names place
listed_pieces names false place = type_pieces names
