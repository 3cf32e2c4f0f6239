-- Pieces that stay on their line have the same text under all options.
use Rattle.std.proofs.Common.{◌≡◌, ℕ, List, [], ◌∷◌, ◌++◌, true, false, ap₂, refl}
use Rattle.std.specs.List.{flat_map}
use Rattle.wasmprinter_spec.specs.Options.{Options}
use Rattle.wasmprinter_spec.specs.Piece.{Piece, Begin, Break, BlockComment, text}
use Rattle.wasmprinter_spec.proofs.OneLine.{starts, IsOneLine}
use Rattle.wasmprinter_laws.proofs.Tokens.Pieces.{all_text}

piece_same : (o p : Options) (q : Piece) → starts q ≡ [] → text o q ≡ text p q
piece_same o p (Begin place) e = absurd cc
piece_same o p (Break place nesting) e = absurd cc
piece_same o p (BlockComment true s) e = refl
piece_same o p (BlockComment false s) e = refl
piece_same o p _ e = refl

pieces_same : (o p : Options) (qs : List Piece) → flat_map starts qs ≡ [] → all_text o qs ≡ all_text p qs
pieces_same o p [] e = refl
pieces_same o p (Begin place ∷ qs) e = absurd cc
pieces_same o p (Break place nesting ∷ qs) e = absurd cc
pieces_same o p (BlockComment true s ∷ qs) e = ap₂ (λ (s t : List ℕ). s ++ t) (piece_same o p (BlockComment true s) refl) (pieces_same o p qs e)
pieces_same o p (BlockComment false s ∷ qs) e = ap₂ (λ (s t : List ℕ). s ++ t) (piece_same o p (BlockComment false s) refl) (pieces_same o p qs e)
pieces_same o p (q ∷ qs) e = ap₂ (λ (s t : List ℕ). s ++ t) (piece_same o p q refl) (pieces_same o p qs e)

pub line_same : (o p : Options) {qs : List Piece} → IsOneLine qs → all_text o qs ≡ all_text p qs
line_same o p {qs} h = pieces_same o p qs h.begins
