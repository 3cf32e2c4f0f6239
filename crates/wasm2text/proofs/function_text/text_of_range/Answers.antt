-- The lines are all lines of the iterator.
use Rattle.std.specs.Prelude.{◌≡◌, ℕ, Ok}
use Rattle.std.proofs.Common.{string_bytes, refl}
use Rattle.std.proofs.lemmas.Iterator.Consumers.{map_from_collect, YieldsList-from_first}
use Rattle.std.proofs.lemmas.Result.{IfOk-weaker}
use Rattle.wasmprinter.specs.Found.{text_lines}
use Rattle.wasm2text.specs.FunctionText.{StartsAt, EndsAt}
use Rattle.wasm2text.proofs.FunctionLines.{text_of_collected}
use Rattle.wasm2text.proofs.function_text.text_of_range.Goals as goal

pub returns : goal.returns
returns c =
    let lines = c.in_ok-lines.lines.items in
    let all : text_lines lines ≡ c.args.lines.lines =
    map_from_collect {E = ℕ} (Ok c.in_ok-lines.lines) c.in_ok-lines.ensures.ran
    (YieldsList-from_first (λ line. (line.0, line.1.now)) (λ it. it.lines) c.args.lines.lines refl) in
    let starts : StartsAt (text_lines lines) c.args.range c.start_of_range-start.result = rw c.deref.ensures.value at c.start_of_range-start.ensures in
    let ends : EndsAt (text_lines lines) c.args.range c.start_of_range-start.result c.end_of_range-end.result
    = rw c.deref-2.ensures.value at c.end_of_range-end.ensures in
    IfOk-weaker c.join.result _ _
    (λ text is. text_of_collected lines c.args.lines.lines c.args.range c.start_of_range-start.result c.end_of_range-end.result (string_bytes text) all starts ends is)
    (rw c.deref-3.ensures.value at c.join.ensures)
