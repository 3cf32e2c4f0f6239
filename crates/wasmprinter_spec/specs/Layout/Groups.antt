-- The layout of groups: a parenthesis and a keyword, the content, and a parenthesis. Where lines break is this
-- printer's own.
use Rattle.std.specs.Prelude.{ℕ, ◌+◌, List, [], ◌∷◌, ◌++◌, Option, Some, None, Bool, true, false, ◌||◌, cond}
use Rattle.wasmprinter_spec.specs.Piece.{Piece, Break, Open, OpenSpace, CloseParen}

-- A line begins with the piece.
abbrev pub breaks : Piece → Bool
breaks (Break place nesting) = true
breaks _ = false

-- A line begins in the pieces.
abbrev pub has_break : List Piece → Bool
has_break [] = false
has_break (p ∷ ps) = cond (breaks p) true (has_break ps)

-- The closing parenthesis, on a line of its own, as the last argument says, or not. `place` is the place of that
-- line, if it has one, and `nesting` the nesting depth of the group itself.
abbrev pub close : Option ℕ → ℕ → Bool → List Piece
close place nesting true = Break place nesting ∷ (CloseParen ∷ [])
close place nesting false = CloseParen ∷ []

-- A group with the keyword w at this nesting depth, which closes on a line of its own if a line begins in it.
unfoldable pub group : ℕ → List ℕ → List Piece → List Piece
group nesting w ps = Open w ∷ (ps ++ close None nesting (has_break ps))

-- A group with a space after its keyword.
unfoldable pub group_space : ℕ → List ℕ → List Piece → List Piece
group_space nesting w ps = OpenSpace w ∷ (ps ++ close None nesting (has_break ps))

-- A group that closes at a place: on a line of its own if a line begins in it or if lines begin with their places
-- (the first argument). The second and third arguments are the place and the nesting depth of the group.
unfoldable pub group_at : Bool → ℕ → ℕ → List ℕ → List Piece → List Piece
group_at offsets place nesting w ps = Open w ∷ (ps ++ close (Some place) nesting (offsets || has_break ps))

-- A group as in `group_at`, with a space after its keyword.
unfoldable pub group_space_at : Bool → ℕ → ℕ → List ℕ → List Piece → List Piece
group_space_at offsets place nesting w ps = OpenSpace w ∷ (ps ++ close (Some place) nesting (offsets || has_break ps))

-- A group within one line.
unfoldable pub line_group : List ℕ → List Piece → List Piece
line_group w ps = Open w ∷ (ps ++ (CloseParen ∷ []))

-- A group within one line, with a space after its keyword.
unfoldable pub line_group_space : List ℕ → List Piece → List Piece
line_group_space w ps = OpenSpace w ∷ (ps ++ (CloseParen ∷ []))

-- The pieces that f gives for the number of each element and the element, in order. The first has the number i.
unfoldable pub numbered_pieces : {A : Type 0} → (ℕ → A → List Piece) → ℕ → List A → List Piece
numbered_pieces f i [] = []
numbered_pieces f i (x ∷ xs) = f i x ++ numbered_pieces f (i + 1) xs
