-- The content of the group of a function, with its body and without.
use Rattle.std.specs.Prelude.{ℕ, List, [], ◌∷◌, ◌++◌, codes, length, Option, Some, option_map}
use Rattle.wasmprinter_spec.specs.Grammar.{Placed}
use Rattle.wasmprinter_spec.specs.Types.{SubType, signature_at}
use Rattle.wasmprinter_spec.specs.Row as row
use Rattle.wasmprinter_spec.specs.Indexed.{parameter_count}
use Rattle.wasmprinter_spec.specs.Customs.Hints.{Hint}
use Rattle.wasmprinter_spec.specs.Placed.{PlacedFunction}
use Rattle.wasmprinter_spec.specs.Piece.{Piece, OneSpace, Word}
use Rattle.wasmprinter_spec.specs.Layout.Declarations.{Scope}
use Rattle.wasmprinter_spec.specs.Layout.Functions.{header_pieces, inner_pieces}

-- The number of parameters of a type, or 0 if it is not a function type.
abbrev pub parameter_count_of : List SubType → ℕ → ℕ
parameter_count_of ts i = parameter_count (signature_at ts i)

-- The number of results of a type, if it is a function type: `result_count` of the layout, from the types alone.
abbrev pub result_count_of : List SubType → ℕ → Option ℕ
result_count_of ts i = option_map (λ t. length t.results) (signature_at ts i)

-- The header of a function: its declaration and its type use.
abbrev pub function_header : Scope → PlacedFunction → List Piece
function_header s f = header_pieces s row.Func (Some s.function) s.function f.type_index

-- The content of a function's group without its body.
abbrev pub outline_parts : Scope → PlacedFunction → List Piece
outline_parts s f = function_header s f ++ (OneSpace ∷ (Word (codes "...") ∷ []))

-- The content of a function's group with its body, whose operators have these hints.
abbrev pub definition_parts : Scope → List (Placed Hint) → PlacedFunction → List Piece
definition_parts s hs f = function_header s f ++ inner_pieces s hs f
