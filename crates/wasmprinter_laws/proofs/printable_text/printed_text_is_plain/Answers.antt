use Rattle.wasmprinter_laws.proofs.Main.{prints_plain_text}
use Rattle.wasmprinter_laws.proofs.printable_text.printed_text_is_plain.Goals as goal

pub returns : goal.returns
returns c = prints_plain_text
