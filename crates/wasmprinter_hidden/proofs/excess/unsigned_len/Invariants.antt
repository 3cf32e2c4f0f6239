use Rattle.std.proofs.Common.{◌+◌, ◌-◌}
use Rattle.wasmprinter_hidden.specs.Lengths.{unsigned_len}
use Rattle.wasmprinter_hidden.proofs.Digits.{HasDigitsLeft}
use Rattle.wasmprinter_hidden.proofs.excess.unsigned_len.Given as goal

abbrev pub invariant-loop-rest : goal.invariant-loop-rest
invariant-loop-rest l = HasDigitsLeft (unsigned_len l.fn.number) l.len l.rest

abbrev pub decreases-loop-rest : goal.decreases-loop-rest
decreases-loop-rest l = l.rest + 1 - 128
