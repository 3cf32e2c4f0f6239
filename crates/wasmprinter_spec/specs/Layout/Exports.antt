-- The layout of exports (section 6.6 of the standard, "Exports"). A tag is printed by its index, without a style.
use Rattle.std.specs.Prelude.{ℕ, List, [], ◌∷◌, codes, chars, decimal, Some}
use Rattle.wasmprinter_spec.specs.Grammar.{Placed}
use Rattle.wasmprinter_spec.specs.Types.{ExternKind, FuncKind, TableKind, MemoryKind, GlobalKind, TagKind}
use Rattle.wasmprinter_spec.specs.Indexed.{space_of}
use Rattle.wasmprinter_spec.specs.Placed.{Export}
use Rattle.wasmprinter_spec.specs.Piece.{Piece, Break, OneSpace, Word, Quoted}
use Rattle.wasmprinter_spec.specs.Layout.Groups.{line_group_space}
use Rattle.wasmprinter_spec.specs.Layout.Declarations.{Scope, item_index}

-- The word of the kind.
unfoldable pub kind_word : ExternKind → List ℕ
kind_word FuncKind = codes "func"
kind_word TableKind = codes "table"
kind_word MemoryKind = codes "memory"
kind_word GlobalKind = codes "global"
kind_word TagKind = codes "tag"

-- The index of the exported item of this kind.
unfoldable pub extern_index_pieces : Scope → ExternKind → ℕ → List Piece
extern_index_pieces s TagKind n = Word (decimal n) ∷ []
extern_index_pieces s kind n = item_index s (space_of kind) n

-- The name of an export, and the exported item.
abbrev pub export_parts : Scope → Export → List Piece
export_parts s e = Quoted (chars e.name) ∷ (OneSpace ∷ line_group_space (kind_word e.kind) (extern_index_pieces s e.kind e.index))

-- The field of an export, on a line of its own.
unfoldable pub export_pieces : Scope → Placed Export → List Piece
export_pieces s e = Break (Some e.place) 1 ∷ line_group_space (codes "export") (export_parts s e.value)
