use Rattle.wasmprinter_laws.proofs.Tokens.Plain.{plain_texts_join}
use Rattle.wasmprinter_laws.proofs.printable_text.plain_texts_join.Goals as goal

pub returns : goal.returns
returns c = plain_texts_join
