use Rattle.wasmprinter_laws.proofs.Tokens.FloatValues.{with_value_is, value_reads}
use Rattle.wasmprinter_laws.proofs.literals_read_back.floats_are_exact.Goals as goal

pub returns : goal.returns
returns c = λ w s bits is. (λ e. with_value_is w is s bits e, λ v. value_reads w s bits v)
