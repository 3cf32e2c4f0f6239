use Rattle.wasmprinter_laws.proofs.Operators.ReadBack.{operators_read_back}
use Rattle.wasmprinter_laws.proofs.module_text_reads_back.printed_operators_read_back.Goals as goal

pub returns : goal.returns
returns c = operators_read_back
