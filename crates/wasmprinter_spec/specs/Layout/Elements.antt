-- The layout of element segments (section 6.6 of the standard, "Element Segments"). A skeleton has `...` in place
-- of the items.
use Rattle.std.specs.Prelude.{ℕ, List, [], ◌∷◌, ◌++◌, codes, Bool, true, false, Some}
use Rattle.wasmprinter_spec.specs.Grammar.{Placed}
use Rattle.wasmprinter_spec.specs.Row as row
use Rattle.wasmprinter_spec.specs.Operator.{Operator}
use Rattle.wasmprinter_spec.specs.Placed.{ElementMode, Passive, Declared, Active, Items, Functions, Expressions, ElementEntry}
use Rattle.wasmprinter_spec.specs.Piece.{Piece, Break, OneSpace, Word}
use Rattle.wasmprinter_spec.specs.Layout.Groups.{line_group_space, group_space}
use Rattle.wasmprinter_spec.specs.Layout.ValTypes.{ref_pieces}
use Rattle.wasmprinter_spec.specs.Layout.Declarations.{Scope, item_declaration, item_index}
use Rattle.wasmprinter_spec.specs.Layout.Expressions.{constant_group}

-- The table, if the bytes name it.
abbrev pub named_table : Scope → Bool → ℕ → List Piece
named_table s true t = OneSpace ∷ line_group_space (codes "table") (item_index s row.Table t)
named_table s false t = []

-- The mode of a segment. The second argument says whether the bytes name its table.
unfoldable pub mode_pieces : Scope → Bool → ElementMode (Placed Operator) → List Piece
mode_pieces s names Passive = []
mode_pieces s names Declared = OneSpace ∷ (Word (codes "declare") ∷ [])
mode_pieces s names (Active t offset) = named_table s names t ++ (OneSpace ∷ constant_group s 2 (codes "offset") offset)

-- The indices of functions, with a space before each.
unfoldable pub function_items : Scope → List ℕ → List Piece
function_items s [] = []
function_items s (i ∷ is) = OneSpace ∷ (item_index s row.Func i ++ function_items s is)

-- The expressions, each in a group, with a space before each.
unfoldable pub expression_items : Scope → List (List (Placed Operator)) → List Piece
expression_items s [] = []
expression_items s (e ∷ es) = OneSpace ∷ (constant_group s 2 (codes "item") e ++ expression_items s es)

-- The items: the word `func` and functions, or a reference type and expressions.
unfoldable pub items_pieces : Scope → Items (Placed Operator) → List Piece
items_pieces s (Functions is) = Word (codes "func") ∷ function_items s is
items_pieces s (Expressions t es) = ref_pieces s.names t ++ expression_items s es

-- The items, or `...` in a skeleton, as the first argument says.
abbrev pub shown_items : Bool → Scope → Items (Placed Operator) → List Piece
shown_items true s items = Word (codes "...") ∷ []
shown_items false s items = items_pieces s items

-- The content of the group of the element segment with index i. The first argument, here and below, says whether the
-- text is a skeleton.
abbrev pub element_parts : Bool → Scope → ℕ → ElementEntry → List Piece
element_parts skeleton s i e =
    item_declaration s row.Elem i ++ (mode_pieces s e.has_table_index e.element.mode ++ (OneSpace ∷ shown_items skeleton s e.element.items))

-- The field of the element segment with index i, on a line of its own.
unfoldable pub element_pieces : Bool → Scope → ℕ → Placed ElementEntry → List Piece
element_pieces skeleton s i e = Break (Some e.place) 1 ∷ group_space 1 (codes "elem") (element_parts skeleton s i e.value)
