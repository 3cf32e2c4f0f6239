use Rattle.wasmprinter_laws.proofs.Main.{reads_back}
use Rattle.wasmprinter_laws.proofs.module_text_reads_back.printed_text_reads_back.Goals as goal

pub returns : goal.returns
returns c = reads_back
