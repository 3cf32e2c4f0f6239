-- The layout of memories (sections 6.4 and 6.6 of the standard, "Memory Types" and "Memories", with page sizes).
use Rattle.std.specs.Prelude.{ℕ, ◌^◌, List, [], ◌∷◌, ◌++◌, codes, Bool, true, false, Option, Some, None}
use Rattle.std.specs.Fmt.{digits}
use Rattle.wasmprinter_spec.specs.Grammar.{Placed}
use Rattle.wasmprinter_spec.specs.Types.{MemoryType}
use Rattle.wasmprinter_spec.specs.Row.{Memory}
use Rattle.wasmprinter_spec.specs.Piece.{Piece, Break, OneSpace, Word, SpaceTypeWord}
use Rattle.wasmprinter_spec.specs.Layout.Groups.{line_group_space}
use Rattle.wasmprinter_spec.specs.Layout.Limits.{wide_pieces, limits_pieces}
use Rattle.wasmprinter_spec.specs.Layout.Declarations.{Scope, item_declaration}

-- The word `shared`, if threads may share the memory.
abbrev pub shared_pieces : Bool → List Piece
shared_pieces true = SpaceTypeWord (codes "shared") ∷ []
shared_pieces false = []

-- The size of a page in bytes, in hexadecimal, from its exponent.
abbrev pub page_parts : ℕ → List Piece
page_parts e = Word (codes "0x" ++ digits 16 false (2 ^ e)) ∷ []

-- The group of the page size, if the exponent is given.
abbrev pub page_pieces : Option ℕ → List Piece
page_pieces None = []
page_pieces (Some e) = OneSpace ∷ line_group_space (codes "pagesize") (page_parts e)

-- A memory type.
unfoldable pub memory_type_pieces : MemoryType → List Piece
memory_type_pieces m = wide_pieces m.wide ++ (limits_pieces m.limits ++ (shared_pieces m.shared ++ page_pieces m.page))

-- A declaration and a memory type.
abbrev pub declared_memory : Scope → ℕ → MemoryType → List Piece
declared_memory s i m = item_declaration s Memory i ++ (OneSpace ∷ memory_type_pieces m)

-- The field of the memory with index i, on a line of its own.
unfoldable pub memory_pieces : Scope → ℕ → Placed MemoryType → List Piece
memory_pieces s i m = Break (Some m.place) 1 ∷ line_group_space (codes "memory") (declared_memory s i m.value)
