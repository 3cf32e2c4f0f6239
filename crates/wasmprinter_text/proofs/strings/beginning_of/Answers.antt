use Rattle.std.proofs.Common.{◌≡◌, ℕ, true, get_or, refl}
use Rattle.wasmprinter_text.specs.declared.strings.TheConstants.{BEGINNINGS}
use Rattle.wasmprinter_text.proofs.Tables.{agrees_at, always, equal_below, equal_at, beginning}
use Rattle.wasmprinter_text.proofs.strings.beginning_of.Goals as goal

begins : ℕ → ℕ
begins b = get_or BEGINNINGS b 0

table : equal_below begins beginning 256 ≡ true
unfolding begins equal_below agrees_at always
table = refl

pub returns : goal.returns
unfolding begins
returns c = rw c.from.ensures (equal_at begins beginning 256 c.args.byte table c.ranges.byte.fits)
