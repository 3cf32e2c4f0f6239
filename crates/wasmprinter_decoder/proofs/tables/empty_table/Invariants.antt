use Rattle.wasmprinter_decoder.proofs.Emptied.{FoundFrom}
use Rattle.wasmprinter_decoder.proofs.tables.empty_table.Given as goal

abbrev pub invariant-loop-table : goal.invariant-loop-table
invariant-loop-table l = FoundFrom l.tables l.table-index
