-- The limits of this printer (the standard leaves them to implementations, in its appendix "Implementation
-- Limitations"): at most 50,000 locals in a function, not counting parameters, and at most 1,000,000 functions. No
-- table may have an empty initialiser: its text would equal that of a table without one.
use Rattle.std.specs.Prelude.{ℕ, ◌+◌, ◌≤◌, List, [], ◌∷◌, Option, Some, None, length}
use Rattle.std.specs.List.{AllByRecursion}
use Rattle.wasmprinter_spec.specs.Grammar.{Placed}
use Rattle.wasmprinter_spec.specs.Operator.{Operator}
use Rattle.wasmprinter_spec.specs.Placed.{LocalEntry, PlacedFunction, PlacedModule}

-- The most locals of a function, not counting parameters.
abbrev pub most_locals : ℕ
most_locals = 50000

-- The most functions that a module defines.
abbrev pub most_functions : ℕ
most_functions = 1000000

-- The number of locals in these groups.
abbrev pub local_count : List (Placed LocalEntry) → ℕ
local_count [] = 0
local_count (e ∷ es) = e.value.count + local_count es

-- The function has at most `most_locals` locals, not counting parameters.
abbrev pub HasFewLocals : PlacedFunction → Type 0
HasFewLocals f = local_count f.body.value.locals ≤ most_locals

-- The initialiser is not empty, if there is one.
abbrev pub HasNoEmptyInit : Option (List (Placed Operator)) → Type 0
HasNoEmptyInit None = Unit {0}
HasNoEmptyInit (Some []) = ⊥
HasNoEmptyInit (Some (o ∷ os)) = Unit {0}

-- The module is within the limits: no table has an empty initialiser, each defined function has at most `most_locals`
-- locals, not counting parameters, and the module defines at most `most_functions` functions.
pub record IsWithinLimits (m : PlacedModule) : Type 0 where
  pub tables : AllByRecursion (λ t. HasNoEmptyInit t.value.init) m.tables
  pub locals : AllByRecursion HasFewLocals m.functions
  pub functions : length m.functions ≤ most_functions
