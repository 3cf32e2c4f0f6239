use Rattle.std.proofs.Common.{length}
use Rattle.wasmprinter_decoder.proofs.Gathering.{Gathering}
use Rattle.wasmprinter_decoder.proofs.decode_module.Gathered.read.Given as goal

abbrev pub invariant-sections : goal.invariant-sections
invariant-sections l = Gathering l.initial.cursor l.cursor l.gathered

abbrev pub decreases-sections : goal.decreases-sections
decreases-sections l = length l.cursor.bytes
