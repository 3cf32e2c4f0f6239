-- The items from this index on are left.
use Rattle.std.proofs.Common.{drop}
use Rattle.wasmprinter_hidden.specs.OpenParts.{lengths}
use Rattle.wasmprinter_hidden.proofs.OpenParts.{HasLeft}
use Rattle.wasmprinter_hidden.proofs.findings.Findings.add_items.Given as goal

abbrev pub invariant-loop-item : goal.invariant-loop-item
invariant-loop-item g l =
    HasLeft l.part l.fn.self l.fn.first (lengths g.T.Entry.place g.T.Shortest.len l.items) l.self l.last
    (lengths g.T.Entry.place g.T.Shortest.len (drop l.item-index l.items))
