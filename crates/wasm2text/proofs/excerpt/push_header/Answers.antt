-- The header is written if it is not among the lines around.
use Rattle.std.proofs.Common.{List, ℕ, ◌++◌, sym, ap, ◌∙◌, string_bytes}
use Rattle.std.proofs.lemmas.Result.{on_ok_weaker}
use Rattle.wasmprinter.specs.Found.{text_lines}
use Rattle.wasm2text.specs.Excerpt.{header_before}
use Rattle.wasm2text.proofs.ExcerptLines.{header_outside}
use Rattle.wasm2text.proofs.excerpt.push_header.Goals as goal

pub returns-in-Some : goal.returns-in-Some
returns-in-Some c =
    let lines = c.args.lines.now in
    let w = c.args.window in
    on_ok_weaker c.push_lines.result
    (λ e. e ∙ ap (λ (t : List ℕ). string_bytes c.args.text.now ++ t)
    (header_outside lines w c.in-Some.header (sym c.is_outside.ensures ∙ c.if-is_outside.true) ∙ ap (header_before w (text_lines lines)) (sym c.in-Some.is)))
    c.push_lines.ensures
