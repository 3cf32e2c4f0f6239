-- The functions from this number on are left.
use Rattle.std.proofs.Common.{◌++◌}
use Rattle.wasmprinter_hidden.specs.NameCounts.{of_defined}
use Rattle.wasmprinter_hidden.proofs.NameCounting.{FunctionsLeft}
use Rattle.wasmprinter_hidden.proofs.name_counts.add_defined.Given as goal

abbrev pub invariant-loop-number : goal.invariant-loop-number
invariant-loop-number l = FunctionsLeft l.module l.module.functions l.number l.counts.items (l.fn.counts.items ++ of_defined l.module)
