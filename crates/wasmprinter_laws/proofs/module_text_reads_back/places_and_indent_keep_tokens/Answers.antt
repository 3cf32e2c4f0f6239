use Rattle.wasmprinter_laws.proofs.Main.{tokens_stay}
use Rattle.wasmprinter_laws.proofs.module_text_reads_back.places_and_indent_keep_tokens.Goals as goal

pub returns : goal.returns
returns c = tokens_stay
