-- No line so far has a place in the range.
use Rattle.std.proofs.Common.{◌≡◌, false, take}
use Rattle.wasmprinter.specs.Found.{text_lines}
use Rattle.wasm2text.specs.FunctionText.{any_in}
use Rattle.wasm2text.proofs.function_text.start_of_range.Given as goal

abbrev pub invariant-loop-index : goal.invariant-loop-index
invariant-loop-index l = any_in l.range (take l.index (text_lines l.lines)) ≡ false
