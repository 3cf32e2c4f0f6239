-- The functions of a module, from the contents of its sections.
use Rattle.std.specs.Prelude.{◌≡◌, ℕ, ◌<◌, ◌≤◌, ◌^◌, List, [], length, map, Option, slice_get}
use Rattle.wasmprinter_spec.specs.Grammar.{Placed}
use Rattle.wasmprinter_spec.specs.Repeated.{some_or}
use Rattle.wasmprinter_spec.specs.Types.{MemoryType}
use Rattle.wasmprinter_spec.specs.Operator.{Operator}
use Rattle.wasmprinter_spec.specs.Placed.{Import, Global, Body, PlacedFunction}
use Rattle.wasmprinter_spec.specs.Binary.{function_pairs}
use Rattle.wasmprinter_spec.specs.Limits.{most_functions}
use Rattle.wasmprinter_decoder.specs.Refusals.{PlacedTable}

-- Each type index with its body. The list is empty if there are not as many bodies as type indices.
abbrev pub functions_of : List ℕ → List (Placed Body) → List PlacedFunction
functions_of is bs = some_or (function_pairs is bs) [] (λ fs. fs)

-- There is a body for each type index, and the number of functions is within the limit.
pub record IsPaired (is : List ℕ) (bs : List (Placed Body)) : Type 0 where
  pub same : length is ≡ length bs
  pub few : length is ≤ most_functions

-- The numbers of imports, tables, memories, tags and globals fit in 32 bits, as their counts do.
pub record HasFewItems (is : List (Placed Import)) (us : List PlacedTable) (ms : List (Placed MemoryType)) (gs : List (Placed ℕ))
    (vs : List (Placed (Global (Placed Operator)))) : Type 0 where
  pub imports : length is < 2 ^ 32
  pub tables : length us < 2 ^ 32
  pub memories : length ms < 2 ^ 32
  pub tags : length gs < 2 ^ 32
  pub globals : length vs < 2 ^ 32

-- The bodies of the functions.
abbrev pub bodies_of : List PlacedFunction → List (Placed Body)
bodies_of fs = map (λ f. f.body) fs

-- The body of the function with this number, from 0, among the defined functions, if there is one.
abbrev pub body_at : List PlacedFunction → ℕ → Option (Placed Body)
body_at fs i = slice_get (bodies_of fs) i
