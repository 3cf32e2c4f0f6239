use Rattle.std.proofs.Common.{◌≡◌, length}
use Rattle.wasmprinter_flat.proofs.open_labels.label_shadowing.NamedBlocks.clear.Given as goal

abbrev pub invariant-pops : goal.invariant-pops
invariant-pops l = l.self.limit ≡ l.fn.self.limit

abbrev pub decreases-pops : goal.decreases-pops
decreases-pops l = length l.self.blocks
