-- Each line is added to the lines before it.
use Rattle.std.proofs.Common.{◌≤◌, length, arith}
use Rattle.std.proofs.lemmas.List.{length-map}
use Rattle.wasmprinter_spec.specs.Lines.{line_places}
use Rattle.wasmprinter.specs.Found.{text_lines}
use Rattle.wasm2text.proofs.ShownLines.{next_line, all_lines}
use Rattle.wasm2text.proofs.line_search.line_of_byte.Goals as goal

pub loop-index-preserved : goal.loop-index-preserved
loop-index-preserved c =
    rw c.nearer-shown.ensures (next_line c.args.lines.now c.args.offset c.loop-index.index c.loop-index.shown _ c.loop-index-test.true c.loop-index.invariant)

pub returns : goal.returns
returns c =
    let all : length (line_places (text_lines c.args.lines.now)) ≤ c.loop-index.index = simp length-map (omega arith) in
    all_lines (line_places (text_lines c.args.lines.now)) c.args.offset c.loop-index.index c.loop-index.shown all c.loop-index.invariant
