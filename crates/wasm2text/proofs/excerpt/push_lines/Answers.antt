-- Each line is appended to the lines before it.
use Rattle.std.proofs.Common.{◌+◌, string_bytes, arith}
use Rattle.wasm2text.proofs.ExcerptLines.{push_step, push_end}
use Rattle.wasm2text.proofs.excerpt.push_lines.Goals as goal

pub loop-index-preserved : goal.loop-index-preserved
loop-index-preserved c =
    push_step (string_bytes c.loop-index.text) _ _ c.args.numbering.width c.args.numbering.shown (c.args.first + c.loop-index.index + 1)
    (c.args.first + (c.loop-index.index + 1) + 1) c.args.lines.now c.loop-index.index _ c.loop-index-test.true (omega arith) c.in_ok-push_line.ensures
    c.loop-index.invariant

pub returns : goal.returns
returns c =
    push_end (string_bytes c.loop-index.text) _ c.args.numbering.width c.args.numbering.shown (c.args.first + c.loop-index.index + 1) c.args.lines.now
    c.loop-index.index (omega arith) c.loop-index.invariant
