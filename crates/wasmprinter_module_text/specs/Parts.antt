-- The line of a field.
use Rattle.std.specs.Prelude.{ℕ, List, ◌∷◌, Some}
use Rattle.wasmprinter_spec.specs.Piece.{Piece, Break}
use Rattle.wasmprinter_spec.specs.Layout.Groups.{group_space}

-- The field x with the number i, as a group on a line of its own at nesting depth 1. `place x` is the place of the line,
-- and `parts i x` the content of the group, which closes on a line of its own if a line begins in it.
abbrev pub field_line : {A : Type 0} → List ℕ → (A → ℕ) → (ℕ → A → List Piece) → ℕ → A → List Piece
field_line keyword place parts i x = Break (Some (place x)) 1 ∷ group_space 1 keyword (parts i x)
