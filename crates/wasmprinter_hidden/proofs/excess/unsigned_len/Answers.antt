use Rattle.std.proofs.Common.{refl, arith}
use Rattle.wasmprinter_hidden.specs.Lengths.{unsigned_len}
use Rattle.wasmprinter_hidden.proofs.Digits.{fewer_left, last_left}
use Rattle.wasmprinter_hidden.proofs.excess.unsigned_len.Goals as goal

pub loop-rest-init : goal.loop-rest-init
loop-rest-init c = record { most = 9; count = refl; small = omega arith; same = refl }

pub loop-rest-preserved : goal.loop-rest-preserved
loop-rest-preserved c = fewer_left (unsigned_len c.args.number) c.loop-rest.len c.loop-rest.rest c.loop-rest.invariant (omega arith)

pub returns : goal.returns
returns c = last_left (unsigned_len c.args.number) c.loop-rest.len c.loop-rest.rest c.loop-rest.invariant (omega arith)
