-- Tables with an empty initialiser.
use Rattle.std.specs.Prelude.{ℕ, List, Option, Some, None}
use Rattle.std.specs.List.{AllByRecursion}
use Rattle.wasmprinter_decoder.specs.Refusals.{PlacedTable, FirstIsEmpty}
use Rattle.wasmprinter_decoder.specs.Contents.{HasNoEmpty}

-- The place is that of the first table with an empty initialiser; or there is no such table.
abbrev pub FindsEmpty : List PlacedTable → Option ℕ → Type 0
FindsEmpty ts (Some place) = FirstIsEmpty place ts
FindsEmpty ts None = AllByRecursion HasNoEmpty ts
