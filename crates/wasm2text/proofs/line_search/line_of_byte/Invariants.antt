-- The line found so far shows the byte among the lines so far.
use Rattle.wasmprinter_spec.specs.Lines.{line_places}
use Rattle.wasmprinter.specs.Found.{text_lines}
use Rattle.wasm2text.proofs.ShownLines.{NearestBelow}
use Rattle.wasm2text.proofs.line_search.line_of_byte.Given as goal

abbrev pub invariant-loop-index : goal.invariant-loop-index
invariant-loop-index l = NearestBelow (line_places (text_lines l.lines)) l.offset l.index l.shown
