use Rattle.wasmprinter_laws.proofs.Tokens.Plain.{uncolor-plain}
use Rattle.wasmprinter_laws.proofs.printable_text.plain_text_has_no_color.Goals as goal

pub returns : goal.returns
returns c = uncolor-plain
