-- The function has the number that is left among the functions from this import on.
use Rattle.std.proofs.Common.{◌≡◌}
use Rattle.std.specs.Prelude.{slice_get}
use Rattle.wasm2text.specs.FunctionText.{function_ranges}
use Rattle.wasm2text.proofs.FunctionPlaces.{ranges_from}
use Rattle.wasm2text.proofs.function_search.range_of_index.Given as goal

abbrev pub invariant-loop-import : goal.invariant-loop-import
invariant-loop-import l = slice_get (ranges_from l.module l.import-index) l.left ≡ slice_get (function_ranges l.module) l.fn.index
