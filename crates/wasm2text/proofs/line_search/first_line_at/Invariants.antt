-- The search goes on with the lines from this one.
use Rattle.std.proofs.Common.{◌≡◌, drop}
use Rattle.wasmprinter_spec.specs.Lines.{line_from}
use Rattle.wasmprinter.specs.Found.{text_lines}
use Rattle.wasm2text.proofs.line_search.first_line_at.Given as goal

abbrev pub invariant-loop-number : goal.invariant-loop-number
invariant-loop-number l = line_from l.number l.place (drop l.number (text_lines l.lines)) ≡ line_from 0 l.place (text_lines l.lines)
