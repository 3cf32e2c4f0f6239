use Rattle.wasmprinter_laws.proofs.Operators.ReadBack.{named_operators_read_back}
use Rattle.wasmprinter_laws.proofs.module_text_reads_back.named_operators_read_back.Goals as goal

pub returns : goal.returns
returns c = named_operators_read_back
