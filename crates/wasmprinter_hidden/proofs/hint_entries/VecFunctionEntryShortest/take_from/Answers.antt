use Rattle.std.proofs.Common.{arith}
use Rattle.std.proofs.lemmas.List.{drop_all}
use Rattle.wasmprinter_hidden.specs.HiddenHints.{has_hints}
use Rattle.wasmprinter_hidden.specs.Lengths.{function_hints_len}
use Rattle.wasmprinter_hidden.proofs.Kept.{all_taken}
use Rattle.wasmprinter_hidden.proofs.hint_entries.VecFunctionEntryShortest.take_from.Goals as goal

pub returns : goal.returns
returns c =
    let es = c.args.self.now.items in
    all_taken has_hints function_hints_len es c.args.excess.now.bytes _ c.loop-entry.excess.bytes c.loop-entry.count _
    (drop_all c.loop-entry.entry-index es (omega arith)) c.take_from-2.ensures c.loop-entry.invariant.left c.loop-entry.invariant.counted
