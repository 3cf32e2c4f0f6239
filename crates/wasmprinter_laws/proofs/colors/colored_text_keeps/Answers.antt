use Rattle.wasmprinter_laws.proofs.Main.{prints_plain_text}
use Rattle.wasmprinter_laws.proofs.Colored.Texts.{colored_text_keeps}
use Rattle.wasmprinter_laws.proofs.colors.colored_text_keeps.Goals as goal

pub returns : goal.returns
returns c = colored_text_keeps prints_plain_text
