-- The laws of labels by their identifiers (section 6.5 of the standard, "Labels").
use Rattle.std.specs.Prelude.{◌≡◌, ℕ, ◌<◌, ◌^◌, List, [], ◌∷◌, ◌++◌, length, map, true, false, Some, option_map}
use Rattle.wasmprinter_spec.specs.Labels.{Label, Named, LabelNaming, AreLabelsApart, is_hidden, Around, target}
use Rattle.wasmprinter_spec.specs.Piece.{OneSpace, Number}
use Rattle.wasmprinter_spec.specs.Layout.Operators.{label_name_pieces, label_pieces}
use Rattle.wasmprinter_spec.specs.Text.Operators.{depth}

-- The labels of open blocks, the innermost first. Each is the label of some block with `length xs` blocks around it.
abbrev pub Opened : LabelNaming → List Label → Type 0
Opened naming [] = Unit {0}
Opened naming (x ∷ xs) = ((i : ℕ) × (naming i (length xs) ≡ x)) × (length xs < 2 ^ 64) × Opened naming xs

-- The label with the number l, whose block has the identifier n: `xs` are the labels that an operator may mean,
-- `further` those of the blocks among them that are inside this block, `inner` those of blocks further in that it may
-- not mean. If no block further in was given the same name, the identifier is printed, and a reader finds that very
-- block by it. Otherwise the number is printed.
abbrev pub LabelsMeanTheirBlocks : Type 0
LabelsMeanTheirBlocks =
    (naming : LabelNaming) → AreLabelsApart naming → (inner xs : List Label) → Opened naming xs →
    (l : ℕ) (n : Named) (further : List Label) → target l xs ≡ Around (Some n) further →
    (is_hidden n (inner ++ further) ≡ false → (label_pieces inner xs l ≡ OneSpace ∷ label_name_pieces n.given l n)
    × (depth n.content (map (λ x. option_map (λ m. m.content) x) xs) ≡ Some l))
    × (is_hidden n (inner ++ further) ≡ true → label_pieces inner xs l ≡ OneSpace ∷ (Number l ∷ []))
