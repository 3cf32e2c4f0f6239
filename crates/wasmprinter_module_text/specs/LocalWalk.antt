-- Locals in one pass over their types: the pieces of some of them from a position on.
use Rattle.std.specs.Prelude.{ℕ, ◌+◌, List, [], ◌∷◌, ◌++◌, codes, Option}
use Rattle.wasmprinter_spec.specs.Types.{ValType}
use Rattle.wasmprinter_spec.specs.Labels.{Named}
use Rattle.wasmprinter_spec.specs.Names.{Names}
use Rattle.wasmprinter_spec.specs.Piece.{Piece}
use Rattle.wasmprinter_text.specs.Variables.{before_next, variable_pieces}
use Rattle.wasmprinter_module_text.specs.declared.locals.Position.{Position}

-- The position after the next local.
abbrev pub after_one : (ℕ → Option Named) → Position → Position
after_one named x = record { before = before_next (named x.number); number = x.number + 1 }

-- The position after locals with these types.
abbrev pub after_all : (ℕ → Option Named) → Position → List ValType → Position
after_all named x [] = x
after_all named x (t ∷ ts) = after_all named (after_one named x) ts

-- The pieces of the next local of the function f.
abbrev pub local_parts : Names → ℕ → Position → ValType → List Piece
local_parts names f x t = variable_pieces names (codes "local") x.before (names.locals f x.number) t

-- The pieces of the next locals. The last group is left open.
abbrev pub locals_parts : Names → ℕ → Position → List ValType → List Piece
locals_parts names f x [] = []
locals_parts names f x (t ∷ ts) = local_parts names f x t ++ locals_parts names f (after_one (names.locals f) x) ts
