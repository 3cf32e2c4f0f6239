use Rattle.std.proofs.Common.{◌≡◌, ℕ, zero, suc, ◌<◌, ◌≤◌, List, [], ◌∷◌, Option, Some, None, IsSome, IfSome, MatchOption, map, length, Bor, arith}
use Rattle.std.proofs.Math.Nat.{lt_of_not-le}
use Rattle.example_lines.specs.Places.{HasPlace, ShowsByte, IsAfterByte}
use Rattle.example_lines.proofs.line_search.line_of_byte.Invariants.{place_at}
use Rattle.example_lines.proofs.line_search.line_of_byte.Goals as goal

-- The places of lines.
abbrev places : List (Option ℕ × Bor (List ℕ)) → List (Option ℕ)
places lines = map (λ line. line.0) lines

-- A line has a place in the list of places if and only if the line has it.
at_places : (lines : List (Option ℕ × Bor (List ℕ))) (i q : ℕ) → place_at lines i ≡ Some q → HasPlace (places lines) i q
at_places [] i q e = cc
at_places (line ∷ lines) zero q e = cc
at_places (line ∷ lines) (suc i) q e = at_places lines i q e

at_lines : (lines : List (Option ℕ × Bor (List ℕ))) (i q : ℕ) → HasPlace (places lines) i q → (i < length lines) × (place_at lines i ≡ Some q)
at_lines [] i q e = cc
at_lines (line ∷ lines) zero q e = (omega arith, cc)
at_lines (line ∷ lines) (suc i) q e = let h = at_lines lines i q e in (omega (arith, h.0), h.1)

-- What the invariant says of all lines.
shows : (lines : List (Option ℕ × Bor (List ℕ))) (end offset greatest : ℕ) (found : Option ℕ) → length lines ≤ end →
    ((i q : ℕ) → i < end → place_at lines i ≡ Some q → q ≤ offset → IsSome found × (q ≤ greatest)) →
    IfSome found (λ index. (place_at lines index ≡ Some greatest) × (greatest ≤ offset)) →
    IfSome found (λ index. (i : ℕ) → i < end → place_at lines i ≡ Some greatest → i ≤ index) →
    MatchOption found (IsAfterByte (places lines) offset) (ShowsByte (places lines) offset)
shows lines end offset greatest None enough all is last = λ i q e.
    let h = at_lines lines i q e in lt_of_not-le (λ k. cc (all i q (omega (arith, h.0)) h.1 k).0)
shows lines end offset greatest (Some index) enough all is last = record {
  place = greatest;
  placed = at_places lines index greatest is.0;
  before = is.1;
  greatest = λ i q e k. let h = at_lines lines i q e in (all i q (omega (arith, h.0)) h.1 k).1;
  last = λ i e. let h = at_lines lines i greatest e in last i (omega (arith, h.0)) h.1;
}

pub returns-clause-found : goal.returns-clause-found
returns-clause-found c =
    shows c.args.lines.now c.loop-index.index c.args.offset c.loop-index.greatest c.loop-index.found c.loop-index-test.false
    c.loop-index.invariant.greatest c.loop-index.invariant.placed c.loop-index.invariant.last
