use Rattle.std.proofs.Common.{◌≡◌, None}
use Rattle.std.specs.Prelude.{replicate}
use Rattle.wasmprinter_flat.proofs.open_labels.label_shadowing.no_blocks.Given as goal

abbrev pub invariant-loop : goal.invariant-loop
invariant-loop l = l.none.items ≡ replicate l.counter None
