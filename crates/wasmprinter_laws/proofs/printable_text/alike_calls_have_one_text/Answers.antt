use Rattle.wasmprinter_spec.proofs.Texts.{alike_texts}
use Rattle.wasmprinter_laws.proofs.printable_text.alike_calls_have_one_text.Goals as goal

pub returns : goal.returns
returns c = alike_texts
