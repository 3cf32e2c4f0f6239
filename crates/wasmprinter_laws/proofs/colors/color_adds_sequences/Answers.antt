use Rattle.wasmprinter_laws.proofs.Main.{prints_plain_text}
use Rattle.wasmprinter_laws.proofs.Colored.Texts.{color_adds_sequences}
use Rattle.wasmprinter_laws.proofs.colors.color_adds_sequences.Goals as goal

pub returns : goal.returns
returns c = color_adds_sequences prints_plain_text
