-- The layout of data segments (section 6.6 of the standard, "Data Segments"). A skeleton has `...` in place of the
-- bytes.
use Rattle.std.specs.Prelude.{ℕ, List, [], ◌∷◌, ◌++◌, codes, Bool, true, false, Some, ◌==◌, cond}
use Rattle.wasmprinter_spec.specs.Grammar.{Placed}
use Rattle.wasmprinter_spec.specs.Row as row
use Rattle.wasmprinter_spec.specs.Operator.{Operator}
use Rattle.wasmprinter_spec.specs.Placed.{DataMode, PassiveData, ActiveData, Data}
use Rattle.wasmprinter_spec.specs.Piece.{Piece, Break, OneSpace, Word, QuotedBytes}
use Rattle.wasmprinter_spec.specs.Layout.Groups.{line_group_space, group_space}
use Rattle.wasmprinter_spec.specs.Layout.Declarations.{Scope, item_declaration, item_index}
use Rattle.wasmprinter_spec.specs.Layout.Expressions.{constant_group}

-- The memory, which is omitted if it is 0.
abbrev pub named_memory : Scope → ℕ → List Piece
named_memory s n = cond (n == 0) [] (line_group_space (codes "memory") (item_index s row.Memory n) ++ (OneSpace ∷ []))

-- The memory and the offset of an active segment, with a space after each; nothing for a passive one.
unfoldable pub data_mode_pieces : Scope → DataMode (Placed Operator) → List Piece
data_mode_pieces s PassiveData = []
data_mode_pieces s (ActiveData memory offset) = named_memory s memory ++ (constant_group s 2 (codes "offset") offset ++ (OneSpace ∷ []))

-- The bytes in quotes, or `...` in a skeleton, as the first argument says.
abbrev pub shown_bytes : Bool → List ℕ → List Piece
shown_bytes true bs = Word (codes "...") ∷ []
shown_bytes false bs = QuotedBytes bs ∷ []

-- The content of the group of the data segment with index i. The first argument, here and below, says whether the
-- text is a skeleton.
abbrev pub data_parts : Bool → Scope → ℕ → Data (Placed Operator) → List Piece
data_parts skeleton s i d = item_declaration s row.Data i ++ (OneSpace ∷ (data_mode_pieces s d.mode ++ shown_bytes skeleton d.bytes))

-- The field of the data segment with index i, on a line of its own.
unfoldable pub data_pieces : Bool → Scope → ℕ → Placed (Data (Placed Operator)) → List Piece
data_pieces skeleton s i d = Break (Some d.place) 1 ∷ group_space 1 (codes "data") (data_parts skeleton s i d.value)
