-- Operators with their places, up to the end of the bytes or the end of an expression.
use Rattle.std.specs.Prelude.{◌≡◌, ℕ, List, [], map, Option, Some, None, MatchOption, Result, Ok, Err}
use Rattle.wasmprinter_spec.specs.Grammar.{Input, Spans, Remainder, Placed, value_with_place}
use Rattle.wasmprinter_spec.specs.Repeated.{some_or, until_end, Entries}
use Rattle.wasmprinter_spec.specs.Operator.{Opcode, Operator}
use Rattle.wasmprinter_spec.specs.Instructions.{opcode_grammar, operator, expression, roles}
use Rattle.wasmprinter_spec.specs.Nesting.{Nests, Sequence, Open, at_start}
use Rattle.wasmprinter_spec.specs.Table.{role_of}
use Rattle.wasmprinter_bytes.specs.Lists.{reader_reasons}
use Rattle.wasmprinter_bytes.specs.declared.library_error.Error.{Error}
use Rattle.wasmprinter_bytes.specs.Reasons.{HasReason}
use Rattle.wasmprinter_bytes.specs.declared.malformed.Malformed.{Malformed}
use Rattle.wasmprinter_ops.specs.Nesting.{OpensBlock, open_after}
use Rattle.wasmprinter_ops.specs.Shapes.{role_view}
use Rattle.wasmprinter_ops.specs.declared.opcode_shapes_arities_and_roles.Role.{Role}

-- The program's pair of a place and an operator, as the operator with its place.
abbrev pub placed_view : ℕ × Operator → Placed Operator
placed_view x = record { place = x.0; value = x.1 }

-- The pairs of places and operators that the program's iterator returns.
abbrev pub pairs : List (Placed Operator) → List (ℕ × Operator)
pairs ops = map (λ o. (o.place, o.value)) ops

-- The bytes encode a value, and the cursor is after it; or, on an error, the bytes do not encode a value.
abbrev pub Passes : {A : Type 0} → (Input → Option (A × Input)) → Input → Result (Unit {0}) Malformed → Input → Type 0
Passes {A} parse old (Ok x) new = (value : A) × (parse old ≡ Some (value, new))
Passes parse old (Err e) new = parse old ≡ None

-- The bytes encode an operator of the role, and the cursor is after it; or, on an error, they encode no operator.
abbrev pub PassesOperator : Input → Result Role Malformed → Input → Type 0
PassesOperator old (Ok role) new = (o : Operator) × (operator.parse old ≡ Some (o, new)) × (role_of o.opcode ≡ role_view role)
PassesOperator old (Err e) new = operator.parse old ≡ None

-- The statement holds at each position from which reading the opcode ends here.
abbrev pub AfterOpcode : Opcode → Input → (Input → Type 0) → Type 0
AfterOpcode o here IsSo = (at : Input) → opcode_grammar.parse at ≡ Some (o, here) → IsSo at

-- Operators up to the end of the bytes, each with its place.
abbrev pub operators : Remainder (List (Placed Operator))
operators = until_end (value_with_place operator)

-- The operators that the bytes encode; the empty list if the bytes do not encode operators.
abbrev pub operators_in : Input → List (Placed Operator)
operators_in at = some_or (operators.parse at) [] (λ ops. ops)

-- The bytes encode operators.
abbrev pub HasOperators : Input → Type 0
HasOperators at = MatchOption (operators.parse at) ⊥ (λ ops. Unit {0})

-- The bytes encode well-nested operators.
abbrev pub HasExpression : Input → Type 0
HasExpression at = HasOperators at × Nests Sequence (roles (operators_in at))

-- The bytes encode operators with the `end` that closes them. `end` is the place of that `end`.
pub record OperatorsAndEnd (old : Input) (end : ℕ) (new : Input) : Type 0 where
  pub items : List (Placed Operator)
  pub before : Input
  pub stands : before.place ≡ end
  pub skipped : Spans (Entries (value_with_place operator)) old (items, before)
  pub is : expression.parse old ≡ Some (record { items = items; end = end }, new)

-- The bytes encode operators of an expression (`items`) up to one that opens a block (`opener`). No operator before it
-- closes the expression, and they are well nested so far (`goes_on`).
pub record ReachesBlock (at : Input) : Type 0 where
  pub items : List (Placed Operator)
  pub before : Input
  pub skipped : Spans (Entries (value_with_place operator)) at (items, before)
  pub blocks : Open
  pub goes_on : open_after at_start (roles items) ≡ Some blocks
  pub opener : Operator
  pub after : Input
  pub read : operator.parse before ≡ Some (opener, after)
  pub opens : OpensBlock (role_of opener.opcode)

-- Operators and the `end` that closes them are skipped. Otherwise the bytes do not encode an expression, or an
-- allocation failed at an operator that opens a block.
abbrev pub SkipsOperators : Input → Result ℕ Error → Input → Type 0
SkipsOperators old (Ok end) new = OperatorsAndEnd old end new
SkipsOperators old (Err e) new = HasReason (reader_reasons (expression.parse old ≡ None) (ReachesBlock old) old) e
