use Rattle.wasmprinter_laws.proofs.Colored.Uncolored.{colors_keep_text}
use Rattle.wasmprinter_laws.proofs.colors.colors_keep_text.Goals as goal

pub returns : goal.returns
returns c = colors_keep_text
