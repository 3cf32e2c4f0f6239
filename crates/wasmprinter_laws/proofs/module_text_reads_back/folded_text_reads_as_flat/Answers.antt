use Rattle.wasmprinter_laws.proofs.AsFlat.{folded_modules_read_as_flat}
use Rattle.wasmprinter_laws.proofs.module_text_reads_back.folded_text_reads_as_flat.Goals as goal

pub returns : goal.returns
returns c = folded_modules_read_as_flat
