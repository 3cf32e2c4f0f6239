-- Flags are laid out as their words followed by the other bits.
use Rattle.std.proofs.Common.{◌≡◌, ℕ, ◌-◌, List, [], ◌∷◌, ◌++◌, Bool, true, false, refl, ap}
use Rattle.wasmprinter_spec.specs.Piece.{Piece, OneSpace, Word}
use Rattle.wasmprinter_spec.specs.Layout.Customs.{flag_words, has_flag, flags_by, flags_pieces}
use Rattle.wasmprinter_custom.specs.Flags.{words_by, others_by}
use Rattle.wasmprinter_custom.specs.FlagPieces.{words_pieces, others_pieces}

pieces_by : (rows : List (ℕ × List ℕ)) (rest : ℕ) → flags_by rows rest ≡ words_pieces (words_by rows rest) ++ others_pieces (others_by rows rest)
unfolding flags_by words_by others_by words_pieces others_pieces
pieces_by [] rest = refl
pieces_by (row ∷ rows) rest = by (has_flag rest row.0) refl (pieces_by rows (rest - row.0)) (pieces_by rows rest)
  where
    by : (t : Bool) → has_flag rest row.0 ≡ t
        → flags_by rows (rest - row.0) ≡ words_pieces (words_by rows (rest - row.0)) ++ others_pieces (others_by rows (rest - row.0))
        → flags_by rows rest ≡ words_pieces (words_by rows rest) ++ others_pieces (others_by rows rest)
        → flags_by (row ∷ rows) rest ≡ words_pieces (words_by (row ∷ rows) rest) ++ others_pieces (others_by (row ∷ rows) rest)
    by true e taken passed = rw e (ap (λ (ps : List Piece). OneSpace ∷ (Word row.1 ∷ ps)) taken)
    by false e taken passed = rw e passed

pub flags_pieces_are : (flags : ℕ) → flags_pieces flags ≡ words_pieces (words_by flag_words flags) ++ others_pieces (others_by flag_words flags)
unfolding flags_pieces
flags_pieces_are flags = pieces_by flag_words flags
