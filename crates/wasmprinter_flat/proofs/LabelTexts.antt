-- The pieces of labels, by the meaning that a label has to a printer.
use Rattle.std.specs.Prelude.{◌≡◌, ℕ, List, [], ◌∷◌, ◌++◌, Bool, true, false, ◌||◌, codes, decimal, length, Some, None}
use Rattle.std.proofs.Common.{refl, ap}
use Rattle.wasmprinter_spec.specs.Labels.{Label, Named, is_hidden, Target, Around, Own, Nothing, target}
use Rattle.wasmprinter_spec.specs.Piece.{Piece, OneSpace, Word, Number, BlockComment}
use Rattle.wasmprinter_spec.specs.Layout.Operators.{label_name_pieces, named_pieces, target_pieces, label_pieces, labels_pieces}
use Rattle.wasmprinter_flat.specs.OpenLabels.Found.{Found, ByName, ByNumber, ToBlock, ToNothing, found_named, found_by, found_among}

-- ---- The meaning of a label

abbrev pub found_pieces : ℕ → Found → List Piece
found_pieces l (ByName n) = label_name_pieces n.given l n
found_pieces l ByNumber = Number l ∷ []
found_pieces l (ToBlock block) = Number l ∷ (BlockComment true (64 ∷ decimal block) ∷ [])
found_pieces l ToNothing = Word (decimal l) ∷ (BlockComment false (codes " INVALID ") ∷ [])

named-out : (l : ℕ) (n : Named) (hidden : Bool) → named_pieces l n hidden ≡ found_pieces l (found_named n hidden)
named-out l n true = refl
named-out l n false = refl

target-out : (inner : List Label) (d l : ℕ) (t : Target) → target_pieces inner d l t ≡ found_pieces l (found_by inner d l t)
target-out inner d l (Around (Some n) further) = named-out l n (is_hidden n further || is_hidden n inner)
target-out inner d l (Around None further) = refl
target-out inner d l Own = refl
target-out inner d l Nothing = refl

-- The pieces of a label are a space and the pieces of its meaning.
pub label-out : (inner xs : List Label) (l : ℕ) → label_pieces inner xs l ≡ OneSpace ∷ found_pieces l (found_among inner xs l)
unfolding label_pieces
label-out inner xs l = ap (λ ps. OneSpace ∷ ps) (target-out inner (length xs) l (target l xs))

-- ---- Several labels

-- The pieces of the labels of a `br_table` are those of the first label and those of the others.
pub labels-next : (inner xs : List Label) (ls rest : List ℕ) (l last : ℕ) → ls ≡ l ∷ rest →
    labels_pieces inner xs ls last ≡ label_pieces inner xs l ++ labels_pieces inner xs rest last
unfolding labels_pieces
labels-next inner xs ls rest l last e = ap (λ ms. labels_pieces inner xs ms last) e

-- If only the default label is left, the pieces are those of that label.
pub labels-last : (inner xs : List Label) (ls : List ℕ) (last : ℕ) → ls ≡ [] → labels_pieces inner xs ls last ≡ label_pieces inner xs last
unfolding labels_pieces
labels-last inner xs ls last e = ap (λ ms. labels_pieces inner xs ms last) e
