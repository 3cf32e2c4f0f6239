-- No line from the end on has a place in the range.
use Rattle.std.proofs.Common.{◌≡◌, ◌≤◌, ◌-◌, false, drop, length}
use Rattle.wasmprinter.specs.Found.{text_lines}
use Rattle.wasm2text.specs.FunctionText.{any_in}
use Rattle.wasm2text.proofs.function_text.end_of_range.Given as goal

abbrev pub invariant-loop-end : goal.invariant-loop-end
invariant-loop-end l = record {
  ordered : l.start ≤ l.end;
  within : l.end ≤ length l.lines;
  none : any_in l.range (drop l.end (text_lines l.lines)) ≡ false;
}

abbrev pub decreases-loop-end : goal.decreases-loop-end
decreases-loop-end l = l.end - l.start
