use Rattle.wasmprinter_laws.proofs.Nested.{takes_nested}
use Rattle.wasmprinter_laws.proofs.module_text_reads_back.reader_takes_nested_operators.Goals as goal

pub returns : goal.returns
returns c = takes_nested
