-- The imports from this index on are left.
use Rattle.std.proofs.Common.{◌++◌}
use Rattle.wasmprinter_hidden.specs.NameCounts.{of_imported}
use Rattle.wasmprinter_hidden.proofs.NameCounting.{ImportsLeft}
use Rattle.wasmprinter_hidden.proofs.name_counts.add_imported.Given as goal

abbrev pub invariant-loop-import : goal.invariant-loop-import
invariant-loop-import l = ImportsLeft l.module l.module.imports l.import-index l.counts.items (l.fn.counts.items ++ of_imported l.module)
