-- The functions up to the index were counted, and their bytes were taken away, if they have hints.
use Rattle.std.proofs.Common.{drop}
use Rattle.wasmprinter_hidden.specs.HiddenHints.{has_hints}
use Rattle.wasmprinter_hidden.specs.Lengths.{function_hints_len}
use Rattle.wasmprinter_hidden.proofs.Kept.{LeftIs, CountIs}
use Rattle.wasmprinter_hidden.proofs.hint_entries.VecFunctionEntryShortest.take_from.Given as goal

abbrev pub invariant-loop-entry : goal.invariant-loop-entry
invariant-loop-entry l = record {
  counted : CountIs has_hints l.self.items (drop l.entry-index l.self.items) l.count;
  left : LeftIs has_hints function_hints_len l.self.items l.fn.excess.bytes (drop l.entry-index l.self.items) l.excess.bytes;
}
