-- The first line with a place in the range is found, or there is none.
use Rattle.std.proofs.Common.{◌∙◌, length, sym, arith}
use Rattle.wasmprinter.specs.Found.{text_lines}
use Rattle.wasm2text.proofs.FunctionLines.{length_lines, in_at, in_past, none_more, none_of_all}
use Rattle.wasm2text.proofs.function_text.start_of_range.Goals as goal

pub returns-then-contains : goal.returns-then-contains
returns-then-contains c = (
  omega (arith, length_lines c.args.lines.now, c.loop-index-test.true),
  c.loop-index.invariant,
  in_at c.args.range c.args.lines.now c.loop-index.index _ c.loop-index-test.true (sym c.contains.ensures ∙ c.if-contains.true),
)

pub loop-index-preserved : goal.loop-index-preserved
loop-index-preserved c =
    none_more c.args.range c.args.lines.now c.loop-index.index _ c.loop-index-test.true (sym c.contains.ensures ∙ c.if-contains.false) c.loop-index.invariant

pub returns : goal.returns
returns c = (
  omega (arith, length_lines c.args.lines.now),
  none_of_all c.args.range c.args.lines.now c.loop-index.index (omega (arith, c.loop-index-test.false)) c.loop-index.invariant,
  in_past c.args.range (text_lines c.args.lines.now) (length c.args.lines.now) (omega (arith, length_lines c.args.lines.now)),
)
