use Rattle.std.proofs.Common.{◌∷◌, [], arith}
use Rattle.wasmprinter_c.proofs.Overs.{set_over, put_past}
use Rattle.wasmprinter_c.proofs.buffer_and_event_printer.enter.Goals as goal

pub returns-then-index-table : goal.returns-then-index-table
returns-then-index-table c = set_over c.args.index c.args.table.now c.args.entry

pub returns-else-index-table : goal.returns-else-index-table
returns-else-index-table c = put_past c.args.index c.args.table.now (c.args.entry ∷ []) (omega (arith, c.if-index-table.false))
