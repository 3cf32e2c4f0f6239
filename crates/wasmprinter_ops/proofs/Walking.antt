-- Iterating over operators whose encoding was checked.
use Rattle.std.proofs.Common.{◌≡◌, ℕ, ◌<◌, ◌≤◌, length, arith, List, [], ◌∷◌, Option, Some, None, refl, sym, ap, subst, ◌∙◌, false}
use Rattle.std.proofs.lemmas.List.{nil_from_length}
use Rattle.std.specs.Prelude.{MatchOption}
use Rattle.std.specs.Bool.{IsTrue}
use Rattle.wasmprinter_spec.specs.Grammar.{Input, Placed, value_with_place, some_is}
use Rattle.wasmprinter_spec.specs.Repeated.{some_or, Entries}
use Rattle.wasmprinter_spec.specs.Operator.{Operator}
use Rattle.wasmprinter_spec.specs.Instructions.{operator}
use Rattle.wasmprinter_ops.specs.Operators.{operators, operators_in, HasOperators, pairs, placed_view}
use Rattle.wasmprinter_ops.proofs.Entries.{first_entry, entries-few}

-- If a list was read, the result is that list.
stand_of : (r : Option (List (Placed Operator))) → MatchOption r ⊥ (λ ops. Unit {0}) → r ≡ Some (some_or r [] (λ ops. ops))
stand_of None h = absurd h
stand_of (Some ops) h = refl

-- If the bytes encode operators, reading gives `operators_in`.
pub stand_there : (at : Input) → HasOperators at → operators.parse at ≡ Some (operators_in at)
stand_there at h = stand_of (operators.parse at) h

-- If operators are read, the bytes encode operators.
pub has_operators : (at : Input) (ops : List (Placed Operator)) → operators.parse at ≡ Some ops → HasOperators at
has_operators at ops e = rw e tt

-- If operators are read, they are `operators_in`.
pub operators_are : (at : Input) (ops : List (Placed Operator)) → operators.parse at ≡ Some ops → operators_in at ≡ ops
operators_are at ops e = rw e refl

-- There are at most as many operators as bytes.
pub few_operators : (at : Input) → HasOperators at → length (operators_in at) ≤ length at.bytes
few_operators at h = entries-few (value_with_place operator) at.place at.bytes (operators_in at) (operators.sound at (operators_in at) (stand_there at h))

-- There is no operator exactly if no bytes are left.
pub none_left : (at : Input) → HasOperators at → (at.bytes ≡ [] → operators_in at ≡ []) × (operators_in at ≡ [] → at.bytes ≡ [])
none_left at h = (
  λ e. let few = few_operators at h in nil_from_length (operators_in at) (omega (arith, ap length e)),
  λ e. subst (λ (ops : List (Placed Operator)). Entries (value_with_place operator) at.place at.bytes ops) e (operators.sound at (operators_in at) (stand_there at h)),
)

-- One operator was read, and the bytes after it encode the others.
pub record NextOperator (at after : Input) (o : ℕ × Operator) : Type 0 where
  pub stands : HasOperators after
  pub steps : pairs (operators_in at) ≡ o ∷ pairs (operators_in after)
  pub fewer : length (pairs (operators_in after)) < length (pairs (operators_in at))

-- The operator that was read is the first of the operators that the bytes encode.
pub next_operator : (at after : Input) (o : ℕ × Operator) → (at.bytes ≡ [] → IsTrue false) → HasOperators at → (value_with_place operator).parse at ≡ Some (placed_view o, after) → NextOperator at after o
next_operator at after o some h e =
    let f = first_entry (value_with_place operator) at (operators_in at) (λ z. let t = some z in cc) (stand_there at h) in
    let read : Placed Operator × Input = (f.item, f.after) in
    let same : read ≡ (placed_view o, after) = some_is read (placed_view o, after) (sym f.first ∙ e) in
    let item : f.item ≡ placed_view o = ap (λ (x : Placed Operator × Input). x.0) same in
    let there : f.after ≡ after = ap (λ (x : Placed Operator × Input). x.1) same in
    let rest : operators.parse after ≡ Some f.others = ap operators.parse (sym there) ∙ f.rest in
    let steps : pairs (operators_in at) ≡ o ∷ pairs (operators_in after) =
    ap pairs f.is ∙ ap (λ (x : Placed Operator). (x.place, x.value) ∷ pairs f.others) item ∙ ap (λ (xs : List (Placed Operator)). o ∷ pairs xs) (sym (operators_are after f.others rest)) in
    record { stands = has_operators after f.others rest; steps = steps; fewer = omega (arith, ap length steps) }
