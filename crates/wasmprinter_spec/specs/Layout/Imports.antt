-- The layout of imports (section 6.6 of the standard, "Imports"). Each has the index in its own index space.
use Rattle.std.specs.Prelude.{ℕ, ◌+◌, List, [], ◌∷◌, ◌++◌, codes, chars, Some, None}
use Rattle.wasmprinter_spec.specs.Grammar.{Placed}
use Rattle.wasmprinter_spec.specs.Types.{ExternType, FuncExtern, TableExtern, MemoryExtern, GlobalExtern, TagExtern}
use Rattle.wasmprinter_spec.specs.Row.{Func, Tag}
use Rattle.wasmprinter_spec.specs.Placed.{Import}
use Rattle.wasmprinter_spec.specs.Piece.{Piece, Break, OneSpace, Quoted}
use Rattle.wasmprinter_spec.specs.Layout.Groups.{line_group_space}
use Rattle.wasmprinter_spec.specs.Layout.Declarations.{Scope}
use Rattle.wasmprinter_spec.specs.Layout.Functions.{header_pieces}
use Rattle.wasmprinter_spec.specs.Layout.Tables.{declared_table}
use Rattle.wasmprinter_spec.specs.Layout.Memories.{declared_memory}
use Rattle.wasmprinter_spec.specs.Layout.Globals.{declared_global}

-- The number of earlier imports of each kind.
pub record Numbers : Type 0 where
  pub functions : ℕ
  pub tables : ℕ
  pub memories : ℕ
  pub globals : ℕ
  pub tags : ℕ

-- There are no earlier imports.
abbrev pub no_numbers : Numbers
no_numbers = record { functions = 0; tables = 0; memories = 0; globals = 0; tags = 0 }

-- The number of earlier imports of the kind of this one, which is the index of this one.
abbrev pub number_of : ExternType → Numbers → ℕ
number_of (FuncExtern i) n = n.functions
number_of (TableExtern t) n = n.tables
number_of (MemoryExtern t) n = n.memories
number_of (GlobalExtern t) n = n.globals
number_of (TagExtern i) n = n.tags

-- The numbers with this import too.
abbrev pub numbers_after : ExternType → Numbers → Numbers
numbers_after (FuncExtern i) n = record n { functions = n.functions + 1 }
numbers_after (TableExtern t) n = record n { tables = n.tables + 1 }
numbers_after (MemoryExtern t) n = record n { memories = n.memories + 1 }
numbers_after (GlobalExtern t) n = record n { globals = n.globals + 1 }
numbers_after (TagExtern i) n = record n { tags = n.tags + 1 }

-- The declaration and type of an import with index n. Parameters of functions have identifiers, those of tags do
-- not.
abbrev pub extern_parts : Scope → ℕ → ExternType → List Piece
extern_parts s n (FuncExtern i) = header_pieces s Func (Some n) n i
extern_parts s n (TableExtern t) = declared_table s n t
extern_parts s n (MemoryExtern t) = declared_memory s n t
extern_parts s n (GlobalExtern t) = declared_global s n t
extern_parts s n (TagExtern i) = header_pieces s Tag None n i

-- The inner group of an import: the word of the kind, the declaration with index n, and the type.
unfoldable pub extern_pieces : Scope → ℕ → ExternType → List Piece
extern_pieces s n (FuncExtern i) = line_group_space (codes "func") (extern_parts s n (FuncExtern i))
extern_pieces s n (TableExtern t) = line_group_space (codes "table") (extern_parts s n (TableExtern t))
extern_pieces s n (MemoryExtern t) = line_group_space (codes "memory") (extern_parts s n (MemoryExtern t))
extern_pieces s n (GlobalExtern t) = line_group_space (codes "global") (extern_parts s n (GlobalExtern t))
extern_pieces s n (TagExtern i) = line_group_space (codes "tag") (extern_parts s n (TagExtern i))

-- Two names, and the import's type.
abbrev pub import_parts : Scope → ℕ → Import → List Piece
import_parts s n i = Quoted (chars i.source) ∷ (OneSpace ∷ (Quoted (chars i.name) ∷ (OneSpace ∷ extern_pieces s n i.type)))

-- The field of the import with index n, on a line of its own.
unfoldable pub import_pieces : Scope → ℕ → Placed Import → List Piece
import_pieces s n i = Break (Some i.place) 1 ∷ line_group_space (codes "import") (import_parts s n i.value)

-- The fields of imports, each on a line of its own: the names of the module and of the item, and the item's inner group.
-- The second argument has the numbers of the imports before these, of each kind.
unfoldable pub imports_pieces : Scope → Numbers → List (Placed Import) → List Piece
imports_pieces s n [] = []
imports_pieces s n (i ∷ is) = import_pieces s (number_of i.value.type n) i ++ imports_pieces s (numbers_after i.value.type n) is
