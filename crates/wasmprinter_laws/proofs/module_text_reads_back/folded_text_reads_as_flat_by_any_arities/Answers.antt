use Rattle.wasmprinter_laws.proofs.Colored.AnyFolding.{folded_anyhow_reads_as_flat}
use Rattle.wasmprinter_laws.proofs.module_text_reads_back.folded_text_reads_as_flat_by_any_arities.Goals as goal

pub returns : goal.returns
returns c = folded_anyhow_reads_as_flat
