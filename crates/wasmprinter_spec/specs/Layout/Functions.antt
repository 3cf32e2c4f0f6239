-- The layout of functions (section 6.6 of the standard, "Functions" and "Type Uses").
use Rattle.std.specs.Prelude.{ℕ, ◌+◌, List, [], ◌∷◌, ◌++◌, codes, length, Option, Some, None, option_map, Bool, true, false, ◌==◌, cond}
use Rattle.wasmprinter_spec.specs.Grammar.{Placed}
use Rattle.wasmprinter_spec.specs.Types.{signature_at}
use Rattle.wasmprinter_spec.specs.Operator.{Operator}
use Rattle.wasmprinter_spec.specs.Row.{Space, Func}
use Rattle.wasmprinter_spec.specs.Names.{Names}
use Rattle.wasmprinter_spec.specs.Indexed.{parameter_count}
use Rattle.wasmprinter_spec.specs.Customs.Hints.{Hint, FunctionHints, hints_of_next, entries_after}
use Rattle.wasmprinter_spec.specs.Placed.{LocalEntry, Body, PlacedFunction}
use Rattle.wasmprinter_spec.specs.Module.{locals_of}
use Rattle.wasmprinter_spec.specs.Options.{Options}
use Rattle.wasmprinter_spec.specs.Piece.{Piece, Break, OneSpace, Word}
use Rattle.wasmprinter_spec.specs.Layout.Groups.{line_group_space, group_space_at}
use Rattle.wasmprinter_spec.specs.Layout.Variables.{Variables, variable_groups, variables_pieces, groups_pieces}
use Rattle.wasmprinter_spec.specs.Layout.Declarations.{Scope, scope_of_function, Folding, item_declaration, type_use}
use Rattle.wasmprinter_spec.specs.Layout.Operators.{OverLines, Setting, list_pieces}
use Rattle.wasmprinter_spec.specs.Layout.Folded.{folded_list}

-- The place of the first entry that declares a local, if there is one.
abbrev pub locals_place : List (Placed LocalEntry) → Option ℕ
locals_place [] = None
locals_place (e ∷ es) = cond (e.value.count == 0) (locals_place es) (Some e.place)

-- All locals on one line, in their groups.
unfoldable pub local_line : Names → Option ℕ → List Variables → List Piece
local_line names place [] = []
local_line names place (g ∷ gs) = Break place 2 ∷ (variables_pieces names (codes "local") g ++ groups_pieces names (codes "local") gs)

-- The locals of function f. Their indices start after its `count` parameters.
unfoldable pub local_pieces : Names → ℕ → ℕ → List (Placed LocalEntry) → List Piece
local_pieces names f count es = local_line names (locals_place es) (variable_groups (names.locals f) count (locals_of es))

-- The header of a function or a tag with index i in its space: its declaration, and its type by index and, if it is a
-- function type, with parameters and results. The parameters have the identifiers of function f, or none for `None`.
unfoldable pub header_pieces : Scope → Space → Option ℕ → ℕ → ℕ → List Piece
header_pieces s space f i type_index = item_declaration s space i ++ (OneSpace ∷ type_use s f type_index)

-- The setting of a body that begins at this place.
abbrev pub over_lines : Scope → ℕ → Setting
over_lines s place =
    record { form = OverLines; signature = signature_at s.types; nesting = 2; names = s.names; function = s.function; body = place }

-- The number of results of a function of the type, if it is a function type.
abbrev pub result_count : Scope → ℕ → Option ℕ
result_count s type_index = option_map (λ t. length t.results) (signature_at s.types type_index)

-- The operators of an expression: flat, or folded if there is a folding, in a function with `own` results. The form of
-- the setting says whether each operator or node is on a line of its own.
unfoldable pub body_by : Option Folding → Option ℕ → Setting → List (Placed Hint) → List (Placed Operator) → List Piece
body_by None own s hs os = list_pieces s hs os
body_by (Some f) own s hs os = folded_list f own s hs os

-- The operators of a function of the type with this index, with these hints.
unfoldable pub body_pieces : Scope → ℕ → List (Placed Hint) → Placed Body → List Piece
body_pieces s type_index hs b = body_by s.folding (result_count s type_index) (over_lines s b.place) hs b.value.operators

-- The content of a function after its type.
unfoldable pub inner_pieces : Scope → List (Placed Hint) → PlacedFunction → List Piece
inner_pieces s hs f =
    local_pieces s.names s.function (parameter_count (signature_at s.types f.type_index)) f.body.value.locals
    ++ body_pieces s f.type_index hs f.body

-- A function, without its locals and operators if `skeleton` is on. The two Booleans are the options `skeleton` and
-- `offsets`. With a body, the group closes at the place of the last `end`, as `group_at` says.
unfoldable pub function_group : Bool → Bool → Scope → List (Placed Hint) → PlacedFunction → List Piece
function_group true offsets s hs f =
    line_group_space (codes "func") (header_pieces s Func (Some s.function) s.function f.type_index ++ (OneSpace ∷ (Word (codes "...") ∷ [])))
function_group false offsets s hs f =
    group_space_at offsets f.body.value.end 1 (codes "func")
    (header_pieces s Func (Some s.function) s.function f.type_index ++ inner_pieces s hs f)

-- Function i, imports counted, with these hints, on a line of its own. The place of the line is that of the body's
-- first byte.
unfoldable pub function_pieces : Options → Scope → ℕ → List (Placed Hint) → PlacedFunction → List Piece
function_pieces o s i hs f = Break (Some f.body.place) 1 ∷ function_group o.skeleton o.offsets (scope_of_function s i) hs f

-- Functions from index i on, each with its hints: those of the next entry, if it is the entry of that function.
unfoldable pub functions_pieces : Options → Scope → List FunctionHints → ℕ → List PlacedFunction → List Piece
functions_pieces o s es i [] = []
functions_pieces o s es i (f ∷ fs) = function_pieces o s i (hints_of_next i es) f ++ functions_pieces o s (entries_after i es) (i + 1) fs
