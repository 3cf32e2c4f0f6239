use Rattle.wasmprinter_laws.proofs.Main.{prints_plain_text}
use Rattle.wasmprinter_laws.proofs.Colored.Texts.{sequences_stay_within_calls}
use Rattle.wasmprinter_laws.proofs.colors.sequences_stay_within_calls.Goals as goal

pub returns : goal.returns
returns c = sequences_stay_within_calls prints_plain_text
