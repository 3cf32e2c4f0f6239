-- Each line is appended to the lines before it.
use Rattle.std.proofs.Common.{string_bytes, arith}
use Rattle.wasm2text.proofs.FunctionLines.{join_step, join_end}
use Rattle.wasm2text.proofs.function_text.join.Goals as goal

pub loop-line-preserved : goal.loop-line-preserved
loop-line-preserved c =
    join_step (string_bytes c.loop-line.text) _ _ c.args.lines.now c.loop-line.line-index _ c.loop-line-test.true c.in_ok-push_str.ensures.bytes
    c.loop-line.invariant

pub returns : goal.returns
returns c =
    join_end (string_bytes c.loop-line.text) _ c.args.lines.now c.loop-line.line-index (omega (arith, c.loop-line-test.false)) c.loop-line.invariant
