-- The counts of the program and of the definitions.
use Rattle.std.specs.Prelude.{Option, Some, None}
use Rattle.wasmprinter_spec.specs.Folding.Arities.{operands_and_results}
use Rattle.wasmprinter_spec.specs.Folding.Arities.{OperandCounts}
use Rattle.wasmprinter_fold.specs.declared.arities.counts.Counts.{Counts}

-- The counts as the definitions have them.
abbrev pub counts_view : Counts → OperandCounts
counts_view c = operands_and_results c.operands c.results

-- An operator whose counts are unknown takes no operands and gives no results.
abbrev pub known_view : Option Counts → OperandCounts
known_view None = operands_and_results 0 0
known_view (Some c) = counts_view c
