use Rattle.std.proofs.Common.{◌≡◌, ◌-◌, drop}
use Rattle.wasmprinter_hidden.specs.Lengths.{items_len}
use Rattle.wasmprinter_hidden.proofs.list_lengths.take_slice.Given as goal

abbrev pub invariant-loop-item : goal.invariant-loop-item
invariant-loop-item g l =
    l.excess.bytes - items_len g.T.Shortest.len (drop l.item-index l.items) ≡ l.initial.excess.bytes - items_len g.T.Shortest.len l.items
