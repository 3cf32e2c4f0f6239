-- The lines are those of the module's text, and the range is that of the function.
use Rattle.std.proofs.Common.{string_bytes}
use Rattle.std.proofs.lemmas.Option.{MatchOption-at_none, MatchOption-at_some}
use Rattle.wasm2text.specs.FunctionText.{function_view}
use Rattle.wasm2text.proofs.FunctionTexts.{text_of_lines, no_function}
use Rattle.wasm2text.proofs.function_text.text_of_function.Goals as goal

pub returns-in-Some-clause-shown : goal.returns-in-Some-clause-shown
returns-in-Some-clause-shown c =
    let found = c.in_ok-range.ensures in
    text_of_lines c.args.options.config.now c.args.wasm.now (string_bytes c.new-storage.result) c.in_ok-lines.lines.storage c.in_ok-lines.lines.lines
    c.args.options.synthesizes found.0 (function_view c.args.function) c.in-Some.range (string_bytes c.in_ok-text_of_range-in-Some.field-0)
    c.new-storage.ensures.bytes c.in_ok-lines.ensures.lines c.args.options.same found.1 (MatchOption-at_some _ _ c.in-Some.range c.in-Some.is found.2)
    c.in_ok-text_of_range-in-Some.ensures

pub returns-clause-refused : goal.returns-clause-refused
returns-clause-refused c =
    let found = c.in_ok-range.ensures in
    no_function c.args.options.config.now c.args.wasm.now (string_bytes c.new-storage.result) c.in_ok-lines.lines.storage c.in_ok-lines.lines.lines
    c.args.options.synthesizes found.0 (function_view c.args.function) c.in_ok-lines.ensures.lines c.args.options.same found.1
    (MatchOption-at_none _ _ c.in-None.is found.2)
