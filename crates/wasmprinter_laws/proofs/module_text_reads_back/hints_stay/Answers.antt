use Rattle.wasmprinter_laws.proofs.Hints.Kept.{hints_stay}
use Rattle.wasmprinter_laws.proofs.module_text_reads_back.hints_stay.Goals as goal

pub returns : goal.returns
returns c = hints_stay
