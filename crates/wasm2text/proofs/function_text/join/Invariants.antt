-- The text so far and the lines that are left are all lines.
use Rattle.std.proofs.Common.{◌≡◌, ◌++◌, drop, string_bytes}
use Rattle.wasmprinter_spec.specs.Lines.{joined_lines}
use Rattle.wasmprinter.specs.Found.{text_lines}
use Rattle.wasm2text.proofs.function_text.join.Given as goal

abbrev pub invariant-loop-line : goal.invariant-loop-line
invariant-loop-line l = string_bytes l.text ++ joined_lines (drop l.line-index (text_lines l.lines)) ≡ joined_lines (text_lines l.lines)
