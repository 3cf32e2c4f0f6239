-- The layout of the words of flags, and of the remaining bits.
use Rattle.std.specs.Prelude.{ℕ, List, [], ◌∷◌, ◌++◌, ◌==◌, false, codes, cond}
use Rattle.std.specs.Fmt.{digits}
use Rattle.wasmprinter_spec.specs.Piece.{Piece, OneSpace, Word}

-- Each word after a space.
unfoldable pub words_pieces : List (List ℕ) → List Piece
words_pieces [] = []
words_pieces (w ∷ ws) = OneSpace ∷ (Word w ∷ words_pieces ws)

-- The bits in hexadecimal, unless they are 0.
unfoldable pub others_pieces : ℕ → List Piece
others_pieces bits = cond (bits == 0) [] (OneSpace ∷ (Word (codes "0x" ++ digits 16 false bits) ∷ []))
