-- Operators that are skipped, up to the `end` that closes them.
use Rattle.std.proofs.Common.{◌≡◌, ℕ, ◌-◌, ◌<◌, ◌≤◌, List, [], ◌∷◌, ◌++◌, length, Option, Some, None, refl, sym, ap, subst, ◌∙◌, arith, append_assoc, length-append, take}
use Rattle.std.proofs.lemmas.List.{take_at, length-take-le, map-append}
use Rattle.wasmprinter_spec.specs.Grammar.{Input, input, Spans, ◌>>=◌, Placed, value_with_place, some_is}
use Rattle.wasmprinter_spec.specs.Repeated.{Entries}
use Rattle.wasmprinter_spec.specs.Operator.{Operator}
use Rattle.wasmprinter_spec.specs.Row.{Role}
use Rattle.wasmprinter_spec.specs.Table.{role_of}
use Rattle.wasmprinter_spec.specs.Stepped.{Move, On, Stop, Never, by_move, Ended, list_with_last, in_front, items_by_steps_at}
use Rattle.wasmprinter_spec.specs.Nesting.{Nests, Sequence, Open, at_start, advance}
use Rattle.wasmprinter_spec.specs.Instructions.{operator, expression, Closed, closed_of_ended, advance_by, operator_takes, roles, role_at}
use Rattle.wasmprinter_bytes.specs.Reads.{end_of}
use Rattle.wasmprinter_ops.specs.Operators.{OperatorsAndEnd, operators, operators_in, HasExpression}
use Rattle.wasmprinter_ops.specs.Nesting.{Steps, open_after}
use Rattle.wasmprinter_ops.specs.declared.open_blocks.Step.TheVariants as steps
use Rattle.wasmprinter_ops.proofs.Stepping.{stepped-item, takes_byte as item_takes_byte}
use Rattle.wasmprinter_ops.proofs.Walking.{has_operators, operators_are}
use Rattle.wasmprinter_ops.proofs.Entries.{spans-push}

-- If the program's step continues, so does the step of the definitions, with the same state.
pub step_on : (m : Move Open) (new : Open) → Steps m steps.On new → m ≡ On new
step_on (On s) new h = ap (λ (t : Open). On t) h
step_on Stop new h = absurd h
step_on Never new h = absurd h

-- The result of reading on while these blocks are open.
abbrev reading : Open → Input → Option (Ended (Placed Operator) × Input)
reading s at = items_by_steps_at (value_with_place operator) advance_by operator_takes s at

abbrev as_closed : Option (Ended (Placed Operator) × Input) → Option (Closed (Placed Operator) × Input)
as_closed r = r >>= λ a. Some (closed_of_ended a.0, a.1)

-- The result of reading, with the operators that were read before prepended.
abbrev pub with_front : List (Placed Operator) → Option (Closed (Placed Operator) × Input) → Option (Closed (Placed Operator) × Input)
with_front ops r = r >>= λ x. Some (record { items = ops ++ x.0.items; end = x.0.end }, x.1)

-- The bytes between two positions encode operators, after which these blocks are open. The result of reading the
-- expression is these operators followed by the result of reading on.
pub record Skipped (start : Input) (s : Open) (at : Input) : Type 0 where
  pub items : List (Placed Operator)
  pub skipped : Spans (Entries (value_with_place operator)) start (items, at)
  pub goes_on : open_after at_start (roles items) ≡ Some s
  pub is : expression.parse start ≡ with_front items (as_closed (reading s at))

-- Prepending no operators changes nothing.
front_nil : (r : Option (Ended (Placed Operator) × Input)) → as_closed r ≡ with_front [] (as_closed r)
front_nil None = refl
front_nil (Some x) = refl

-- At the start no operator was skipped.
pub skipped_none : (at : Input) → Skipped at at_start at
skipped_none at = record {
  items = [];
  skipped = record { text = []; parts = refl; ends = omega arith; spelled = refl };
  goes_on = refl;
  is = front_nil (reading at_start at);
}

-- If the blocks s are open after some operators, then one more operator leads to the blocks
-- that its role leads to from s.
one_after : (m : Move Open) (rs : List Role) (s t : Open) (r : Role) → ((u : Open) → open_after u rs ≡ Some s → open_after u (rs ++ r ∷ []) ≡ Some t)
    → by_move m (λ u. open_after u rs) None None ≡ Some s → by_move m (λ u. open_after u (rs ++ r ∷ [])) None None ≡ Some t
one_after (On u) rs s t r more e = more u e
one_after Stop rs s t r more e = absurd cc
one_after Never rs s t r more e = absurd cc

opens_on : (rs : List Role) (first s t : Open) (r : Role) → advance s r ≡ On t → open_after first rs ≡ Some s → open_after first (rs ++ r ∷ []) ≡ Some t
opens_on [] first s t r on e =
    let same : first ≡ s = some_is first s e in
    ap (λ (u : Open). by_move (advance u r) (λ v. open_after v []) None None) same ∙ ap (λ (m : Move Open). by_move m (λ v. open_after v []) None None) on
opens_on (x ∷ rs) first s t r on e = one_after (advance first x) rs s t r (λ u. opens_on rs u s t r on) e

-- An operator that is read after some operators is the last of the operators before the rest.
front_push : (ops : List (Placed Operator)) (o : Placed Operator) (r : Option (Ended (Placed Operator) × Input)) → with_front ops (as_closed (in_front o r)) ≡ with_front (ops ++ o ∷ []) (as_closed r)
front_push ops o None = refl
front_push ops o (Some x) = ap (λ (xs : List (Placed Operator)). Some (record { items = xs; end = x.0.last.place }, x.1)) (sym (append_assoc ops (o ∷ []) x.0.items))

-- An operator with its place.
abbrev placed_as : Input → Operator → Placed Operator
placed_as at o = record { place = at.place; value = o }

placed_of : (at after : Input) (o : Operator) → operator.parse at ≡ Some (o, after) → (value_with_place operator).parse at ≡ Some (placed_as at o, after)
placed_of at after o e = rw e refl

-- An operator takes at least one byte.
pub takes_byte : (at after : Input) (o : Operator) → operator.parse at ≡ Some (o, after) → length after.bytes < length at.bytes
takes_byte at after o e = item_takes_byte (value_with_place operator) advance_by operator_takes at (placed_as at o, after) (placed_of at after o e)

module _ (start : Input) (s : Open) (at after : Input) (o : Operator) (e : operator.parse at ≡ Some (o, after)) (k : Skipped start s at) where
  -- The result of reading the expression, by the effect of the next operator on the open blocks.
  turns : (m : Move Open) → advance s (role_of o.opcode) ≡ m
      → expression.parse start ≡ with_front k.items (as_closed (by_move m (λ t. in_front (placed_as at o) (reading t after)) (Some (list_with_last [] (placed_as at o), after)) None))
  turns m is =
      let to : Move Open → Option (Closed (Placed Operator) × Input) = λ m. with_front k.items (as_closed (by_move m (λ t. in_front (placed_as at o) (reading t after)) (Some (list_with_last [] (placed_as at o), after)) None)) in
      k.is
      ∙ ap (λ (r : Option (Ended (Placed Operator) × Input)). with_front k.items (as_closed r)) (stepped-item (value_with_place operator) advance_by operator_takes s at (placed_as at o) after (placed_of at after o e))
      ∙ ap to is

  -- If blocks are open after the next operator, it is one of the skipped operators.
  pub skipped_more : (t : Open) → advance s (role_of o.opcode) ≡ On t → Skipped start t after
  skipped_more t is =
      let x : Placed Operator = placed_as at o in
      let sp = (value_with_place operator).sound at (x, after) (placed_of at after o e) in
      record {
        items = k.items ++ x ∷ [];
        skipped = spans-push (value_with_place operator) start at after k.items x k.skipped sp (operator_takes at.place sp.text x sp.spelled);
        goes_on = ap (open_after at_start) (map-append role_at k.items (x ∷ [])) ∙ opens_on (roles k.items) at_start s t (role_at x) is k.goes_on;
        is = turns (On t) is ∙ front_push k.items x (reading t after);
      }

-- The same for a step of the program, given the operator's role.
module _ (start : Input) (s : Open) (at after : Input) (o : Operator) (r : Role) (new : Open) (e : operator.parse at ≡ Some (o, after)) (k : Skipped start s at)
    (is_role : role_of o.opcode ≡ r) where
  pub on_more : Steps (advance s r) steps.On new → Skipped start new after
  on_more h = skipped_more start s at after o e k new (ap (advance s) is_role ∙ step_on (advance s r) new h)

-- The bytes between the two positions, by themselves, encode the skipped operators.
front_of : (start at : Input) (ops : List (Placed Operator)) → Spans (Entries (value_with_place operator)) start (ops, at) → operators.parse (input start.place (take (at.place - start.place) start.bytes)) ≡ Some ops
front_of start at ops s =
    let l : at.place - start.place ≡ length s.text = omega (arith, s.ends) in
    let t : take (at.place - start.place) start.bytes ≡ s.text = ap (λ (n : ℕ). take n start.bytes) l ∙ ap (take (length s.text)) s.parts ∙ take_at s.text at.bytes (length s.text) refl in
    ap (λ (bs : List ℕ). operators.parse (input start.place bs)) t ∙ operators.complete (input start.place s.text) ops s.spelled

-- An expression is read: `part` holds its operators, well nested, and ends at its `end`.
pub record ReadExpression (old part new : Input) : Type 0 where
  pub has : HasExpression part
  pub reads : expression.parse old ≡ Some (record { items = operators_in part; end = end_of part }, new)

-- The operators, closed at the place, with the position where reading continues.
abbrev read_as : List (Placed Operator) → ℕ → Input → Option (Closed (Placed Operator) × Input)
read_as ops end new = Some (record { items = ops; end = end }, new)

module _ (old part new : Input) (end : ℕ) (s : OperatorsAndEnd old end new) (cut : part ≡ input old.place (take (s.before.place - old.place) old.bytes)) where
  -- The part that was cut out encodes the operators.
  there : operators.parse part ≡ Some s.items
  there = ap operators.parse cut ∙ front_of old s.before s.items s.skipped

  -- The part ends at the place of the `end`.
  part_end : end_of part ≡ end
  part_end =
      let within : s.before.place - old.place ≤ length old.bytes = omega (arith, s.skipped.ends, ap length s.skipped.parts, length-append s.skipped.text s.before.bytes) in
      omega (arith, s.stands, s.skipped.ends, ap end_of cut, length-take-le (s.before.place - old.place) old.bytes within)

  read_cut : ReadExpression old part new
  read_cut =
      let ops : operators_in part ≡ s.items = operators_are part s.items there in
      let whole = expression.sound old (record { items = s.items; end = end }, new) s.is in
      let (front, closed, items, nests, ends) = whole.spelled in
      let same : read_as s.items end new ≡ read_as (operators_in part) (end_of part) new = rw (ops, part_end) refl in
      record {
        has = (has_operators part s.items there, subst (λ (xs : List (Placed Operator)). Nests Sequence (roles xs)) (sym ops) nests);
        reads = s.is ∙ same;
      }

-- The same as `read_cut`, if `start` equals `old` and `p` is its place.
pub read_expression : (old start part new : Input) (end p : ℕ) → start ≡ old → p ≡ start.place → OperatorsAndEnd old end new → part ≡ input start.place (take (end - p) start.bytes) → ReadExpression old part new
read_expression old start part new end p same is_p s cut =
    let n : end - p ≡ s.before.place - old.place = omega (arith, s.stands, is_p, ap (λ (x : Input). x.place) same) in
    let e : part ≡ input old.place (take (s.before.place - old.place) old.bytes) =
    cut ∙ ap (λ (x : Input). input x.place (take (end - p) x.bytes)) same ∙ ap (λ (k : ℕ). input old.place (take k old.bytes)) n in
    read_cut old part new end s e
