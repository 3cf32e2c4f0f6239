-- A text without escapes is written as it is.
use Rattle.std.proofs.Common.{sym, ◌∙◌}
use Rattle.std.proofs.Output.{has_written_of_eq}
use Rattle.wasm2text.proofs.Escapes.{unescaped}
use Rattle.wasm2text.proofs.escaped.write_text.Goals as goal

pub returns-else-has_escapes : goal.returns-else-has_escapes
returns-else-has_escapes g c plain ok =
    let same = unescaped c.args.text.now c.utf8.text (sym c.has_escapes.ensures ∙ c.if-has_escapes.false) in
    has_written_of_eq _ _ _ _ _ (sym same) (c.write_str.ensures.writes plain ok)
