use Rattle.std.proofs.Common.{sym, ◌∙◌}
use Rattle.wasmprinter_text.proofs.type_use.write_signature_at.Goals as goal

pub returns-in-Some : goal.returns-in-Some
returns-in-Some g c = rw (sym c.signature.ensures ∙ c.in-Some.is) c.write_signature.ensures
