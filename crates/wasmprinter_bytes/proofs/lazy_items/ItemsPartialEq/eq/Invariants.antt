use Rattle.std.proofs.Common.{◌≡◌}
use Rattle.std.specs.Cmp.Lexicographic.{pointwise}
use Rattle.wasmprinter_bytes.proofs.lazy_items.ItemsPartialEq.eq.Given as goal

abbrev pub invariant-loop-value : goal.invariant-loop-value
invariant-loop-value g l = pointwise g.T.PartialEq.eq l.value-iterator l.others ≡ pointwise g.T.PartialEq.eq l.fn.self l.fn.other
