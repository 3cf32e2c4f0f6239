-- The byte belongs to no body so far.
use Rattle.std.proofs.Common.{ℕ, ◌<◌}
use Rattle.wasm2text.specs.Excerpt.{IsOutside}
use Rattle.wasm2text.proofs.line_search.header_of_byte.Given as goal

abbrev pub invariant-loop-number : goal.invariant-loop-number
invariant-loop-number l = (number : ℕ) → number < l.number → IsOutside l.module.functions l.offset number
