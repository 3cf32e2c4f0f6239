use Rattle.wasmprinter_laws.proofs.Tokens.Plain.{plain_is_utf8}
use Rattle.wasmprinter_laws.proofs.printable_text.plain_text_is_utf8.Goals as goal

pub returns : goal.returns
returns c = plain_is_utf8
