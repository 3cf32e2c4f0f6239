use Rattle.wasm2html.proofs.Inert.{escaped_is_inert}
use Rattle.wasm2html.proofs.Reading.{text_is_read}
use Rattle.wasm2html.proofs.escaping.encoding_is_safe.Goals as goal

pub returns : goal.returns
returns c = record { inert = escaped_is_inert; readable = text_is_read }
