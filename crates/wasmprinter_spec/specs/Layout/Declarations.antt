-- The context in which the fields of a module are laid out. The standard does not define it.
use Rattle.std.specs.Prelude.{ℕ, List, Bool, Option, Some, None, cond}
use Rattle.wasmprinter_spec.specs.Types.{SubType, signature_at}
use Rattle.wasmprinter_spec.specs.Row.{Space}
use Rattle.wasmprinter_spec.specs.Names.{Names}
use Rattle.wasmprinter_spec.specs.Placed.{PlacedModule}
use Rattle.wasmprinter_spec.specs.Options.{Options}
use Rattle.wasmprinter_spec.specs.Folding.Arities.{Signatures, signatures_within}
use Rattle.wasmprinter_spec.specs.Piece.{Piece}
use Rattle.wasmprinter_spec.specs.Layout.Identifiers.{declaration_pieces, index_pieces}
use Rattle.wasmprinter_spec.specs.Layout.Types.{type_use_pieces}

-- How operators are folded: whether their text has ANSI escape sequences, and the arities of their opcodes and of
-- the items that they name in the module, in a function with the given number of results.
pub record Folding : Type 0 where
  pub color : Bool
  pub signatures : Option ℕ → Signatures

-- How operators are folded, if the options ask for folding.
abbrev pub folding_of : Options → PlacedModule → Option Folding
folding_of o m = cond o.folds (Some (record { color = o.color; signatures = signatures_within m })) None

-- The module's types and identifiers, the function to which the locals and labels of an expression belong, and how
-- operators are folded, if they are.
pub record Scope : Type 0 where
  pub types : List SubType
  pub names : Names
  pub function : ℕ
  pub folding : Option Folding

-- The scope with these types and identifiers, this function, and this folding if there is one.
abbrev pub scope_of : List SubType → Names → ℕ → Option Folding → Scope
scope_of ts names f folding = record { types = ts; names = names; function = f; folding = folding }

-- The scope with the locals and labels of function f.
abbrev pub scope_of_function : Scope → ℕ → Scope
scope_of_function s f = record s { function = f }

-- The declaration of an item.
abbrev pub item_declaration : Scope → Space → ℕ → List Piece
item_declaration s space i = declaration_pieces (s.names.items space i) i

-- The index of an item.
abbrev pub item_index : Scope → Space → ℕ → List Piece
item_index s space i = index_pieces (s.names.items space i) i

-- A type use, with the parameters of function f, or of no function.
abbrev pub type_use : Scope → Option ℕ → ℕ → List Piece
type_use s f i = type_use_pieces s.names f i (signature_at s.types i)
