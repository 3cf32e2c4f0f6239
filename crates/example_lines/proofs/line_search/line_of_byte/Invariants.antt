use Rattle.std.proofs.Common.{◌≡◌, ℕ, ◌<◌, ◌≤◌, List, Option, Some, None, IsSome, IfSome, Bor}
use Rattle.std.specs.Prelude.{slice_get, option_and_then}
use Rattle.example_lines.proofs.line_search.line_of_byte.Given as goal

-- The place of the line at this index, if the line exists and has a place.
abbrev pub place_at : List (Option ℕ × Bor (List ℕ)) → ℕ → Option ℕ
place_at lines i = option_and_then (λ line. line.0) (slice_get lines i)

-- What is known of the line that was found among the lines before this index.
abbrev pub invariant-loop-index : goal.invariant-loop-index
invariant-loop-index l = record {
  within : IfSome l.found (λ index. index < l.index);
  greatest : (i q : ℕ) → i < l.index → place_at l.lines i ≡ Some q → q ≤ l.offset → IsSome l.found × (q ≤ l.greatest);
  placed : IfSome l.found (λ index. (place_at l.lines index ≡ Some l.greatest) × (l.greatest ≤ l.offset));
  last : IfSome l.found (λ index. (i : ℕ) → i < l.index → place_at l.lines i ≡ Some l.greatest → i ≤ index);
  zero : l.found ≡ None → l.greatest ≡ 0;
}
