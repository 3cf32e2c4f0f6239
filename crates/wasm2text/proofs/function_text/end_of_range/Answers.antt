-- Each line before the end either has a place in the range or is left out.
use Rattle.std.proofs.Common.{◌∙◌, sym, arith}
use Rattle.wasm2text.proofs.FunctionLines.{length_lines, in_at, none_before}
use Rattle.wasm2text.proofs.function_text.end_of_range.Goals as goal

pub loop-end-preserved : goal.loop-end-preserved
loop-end-preserved c =
    let h = c.loop-end.invariant in
    record {
      ordered = omega (arith, c.loop-end-test.true);
      within = omega (arith, h.within);
      none =
          none_before c.args.range c.args.lines.now c.loop-end.end _ (omega (arith, c.loop-end-test.true)) h.within
          (sym c.contains.ensures ∙ c.if-not-contains.true) h.none;
    }

pub returns-else-not-contains : goal.returns-else-not-contains
returns-else-not-contains c =
    let h = c.loop-end.invariant in (
      h.ordered,
      omega (arith, h.within, length_lines c.args.lines.now),
      h.none,
      λ lt.
          in_at c.args.range c.args.lines.now _ _ (omega (arith, h.within, c.loop-end-test.true))
          (sym c.contains.ensures ∙ c.if-not-contains.false),
    )
