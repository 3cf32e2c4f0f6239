use Rattle.wasmprinter_laws.proofs.Folded.ReadBack.{folded_operators_read_back}
use Rattle.wasmprinter_laws.proofs.module_text_reads_back.folded_operators_read_back.Goals as goal

pub returns : goal.returns
returns c = folded_operators_read_back
