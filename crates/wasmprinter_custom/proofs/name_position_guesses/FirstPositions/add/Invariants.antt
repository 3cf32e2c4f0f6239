use Rattle.std.proofs.Common.{◌≡◌, ◌≤◌, ◌+◌, length, max}
use Rattle.wasmprinter_custom.proofs.name_position_guesses.FirstPositions.add.Given as goal

abbrev pub invariant-loop : goal.invariant-loop
invariant-loop l = record {
  count : length l.self.begins.items ≡ l.counter;
  least : length l.fn.self.begins.items ≤ l.counter;
  most : l.counter ≤ max (length l.fn.self.begins.items) (l.ahead + 1);
}
