-- The layout of limits (section 6.4 of the standard, "Limits").
use Rattle.std.specs.Prelude.{ℕ, List, [], ◌∷◌, codes, decimal, Bool, true, false, Option, Some, None}
use Rattle.wasmprinter_spec.specs.Types.{Limits}
use Rattle.wasmprinter_spec.specs.Piece.{Piece, TypeWordSpace, Literals}

-- The address type, if addresses have 64 bits.
abbrev pub wide_pieces : Bool → List Piece
wide_pieces true = TypeWordSpace (codes "i64") ∷ []
wide_pieces false = []

-- The maximum size in decimal, if there is one.
abbrev pub max_words : Option ℕ → List (List ℕ)
max_words None = []
max_words (Some n) = decimal n ∷ []

-- The minimum and the maximum size in one literal.
unfoldable pub limits_pieces : Limits → List Piece
limits_pieces l = Literals (decimal l.min) (max_words l.max) ∷ []
