-- A list that is written over a buffer, as far as it fits.
use Rattle.std.specs.Prelude.{ℕ, List, [], ◌∷◌, ◌++◌, take, drop}

-- The buffer after the write. Its first elements are those of the list, up to the shorter length. The other
-- elements are unchanged.
abbrev pub over : {X : Type 0} → List X → List X → List X
over [] out = out
over (b ∷ text) [] = []
over (b ∷ text) (o ∷ out) = b ∷ over text out

-- The same, after the first `place` elements of the buffer.
abbrev pub over_from : {X : Type 0} → ℕ → List X → List X → List X
over_from place text out = take place out ++ over text (drop place out)
