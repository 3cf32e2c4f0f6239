-- Worked rows of expressions with blocks (section 5.4 of the standard, "Control Instructions" and "Expressions"):
-- which bytes encode an expression, and where it ends.
use Rattle.std.specs.Prelude.{◌≡◌, ℕ, List, [], ◌∷◌, ◌++◌, map, true, false, Option, Some, None, option_map, length, refl}
use Rattle.std.proofs.Common.{sym, ◌∙◌}
use Rattle.wasmprinter_spec.specs.Grammar.{Input, input, Placed, some_is, Spans, ◌>>=◌}
use Rattle.wasmprinter_spec.specs.Types as types
use Rattle.wasmprinter_spec.specs.Types.{ref_type}
use Rattle.wasmprinter_spec.specs.Operator.{Operator, Immediates, NoImmediates, Block, Empty, Value, OfType}
use Rattle.wasmprinter_spec.specs.Row.{Role, Plain, Opens, OpensIf, Else, OpensTry, Catches, CatchesAll, Delegates, Ends}
use Rattle.wasmprinter_spec.specs.Table.{table}
use Rattle.wasmprinter_spec.specs.Nesting.{Nests, Sequence, none, plain, block, one_armed, two_armed, tried, delegated, caught, caught_all, advance, at_start}
use Rattle.wasmprinter_spec.specs.NestingSteps.{stops_at_end}
use Rattle.wasmprinter_spec.specs.Stepped.{stops}
use Rattle.wasmprinter_spec.specs.Instructions.{expression, Closed, IsExpression}
use Rattle.wasmprinter_spec.proofs.Numbers.{numbers_from}
use Rattle.wasmprinter_spec.proofs.Samples.{made}

abbrev op : ℕ → ℕ → Immediates → Placed Operator
op p n i = record { place = p; value = made n i }

-- A block without results, and a byte after the expression
block_read : expression.parse (input 7 (0x02 ∷ 0x40 ∷ 0x01 ∷ 0x0b ∷ 0x0b ∷ 0x0b ∷ []))
    ≡ Some (record { items = op 7 0x02 (Block Empty) ∷ op 9 0x01 NoImmediates ∷ op 10 0x0b NoImmediates ∷ []; end = 11 }, input 12 (0x0b ∷ []))
unfolding table
block_read = refl

-- The number of bytes after an expression, if there is an expression
abbrev left_after : List ℕ → Option ℕ
left_after bytes = option_map (λ x. length x.1.bytes) (expression.parse (input 0 bytes))

-- if else end; try catch 0 catch 0 catch_all end; try delegate 0; try end; a loop in a block; an empty expression
read_whole : map left_after (
    (0x04 ∷ 0x7f ∷ 0x05 ∷ 0x0b ∷ 0x0b ∷ [])
    ∷ (0x06 ∷ 0x40 ∷ 0x07 ∷ 0x00 ∷ 0x07 ∷ 0x00 ∷ 0x19 ∷ 0x0b ∷ 0x0b ∷ 1 ∷ [])
    ∷ (0x06 ∷ 0x40 ∷ 0x18 ∷ 0x00 ∷ 0x0b ∷ [])
    ∷ (0x06 ∷ 0x40 ∷ 0x0b ∷ 0x0b ∷ [])
    ∷ (0x02 ∷ 0x7e ∷ 0x03 ∷ 0x40 ∷ 0x0c ∷ 0x00 ∷ 0x0b ∷ 0x0b ∷ 0x0b ∷ [])
    ∷ (0x0b ∷ 0x0b ∷ []) ∷ [])
    ≡ Some 0 ∷ Some 1 ∷ Some 0 ∷ Some 0 ∷ Some 0 ∷ Some 1 ∷ []
unfolding table
read_whole = refl

-- The numbers, from 0, of the lists of bytes that begin with an expression
abbrev numbers_read : List (List ℕ) → List ℕ
numbers_read bs = numbers_from left_after 0 bs

read_among : numbers_read ((0x05 ∷ 0x0b ∷ 0x0b ∷ []) ∷ (0x0b ∷ []) ∷ [] ∷ (0x01 ∷ 0x0b ∷ []) ∷ []) ≡ 1 ∷ 3 ∷ []
unfolding table
read_among = refl

-- A block without its `end`; operators outside the block to which they belong; an `else` or a handler after the
-- last one that is allowed
unread_nesting : numbers_read (
    []
    ∷ (0x02 ∷ 0x40 ∷ [])
    ∷ (0x02 ∷ 0x40 ∷ 0x0b ∷ [])
    ∷ (0x03 ∷ 0x40 ∷ 0x02 ∷ 0x40 ∷ 0x0b ∷ 0x0b ∷ [])
    ∷ (0x06 ∷ 0x40 ∷ 0x18 ∷ 0x00 ∷ [])
    ∷ (0x05 ∷ 0x0b ∷ [])
    ∷ (0x05 ∷ 0x0b ∷ 0x0b ∷ [])
    ∷ (0x02 ∷ 0x40 ∷ 0x05 ∷ 0x0b ∷ 0x0b ∷ [])
    ∷ (0x03 ∷ 0x40 ∷ 0x05 ∷ 0x0b ∷ 0x0b ∷ [])
    ∷ (0x1f ∷ 0x40 ∷ 0x00 ∷ 0x05 ∷ 0x0b ∷ 0x0b ∷ [])
    ∷ (0x04 ∷ 0x40 ∷ 0x05 ∷ 0x05 ∷ 0x0b ∷ 0x0b ∷ [])
    ∷ (0x06 ∷ 0x40 ∷ 0x05 ∷ 0x0b ∷ 0x0b ∷ [])
    ∷ (0x07 ∷ 0x00 ∷ 0x0b ∷ 0x0b ∷ [])
    ∷ (0x02 ∷ 0x40 ∷ 0x07 ∷ 0x00 ∷ 0x0b ∷ 0x0b ∷ [])
    ∷ (0x1f ∷ 0x40 ∷ 0x00 ∷ 0x07 ∷ 0x00 ∷ 0x0b ∷ 0x0b ∷ [])
    ∷ (0x04 ∷ 0x40 ∷ 0x19 ∷ 0x0b ∷ 0x0b ∷ [])
    ∷ (0x19 ∷ 0x0b ∷ 0x0b ∷ [])
    ∷ (0x06 ∷ 0x40 ∷ 0x19 ∷ 0x07 ∷ 0x00 ∷ 0x0b ∷ 0x0b ∷ [])
    ∷ (0x06 ∷ 0x40 ∷ 0x19 ∷ 0x19 ∷ 0x0b ∷ 0x0b ∷ [])
    ∷ (0x06 ∷ 0x40 ∷ 0x07 ∷ 0x00 ∷ 0x18 ∷ 0x00 ∷ 0x0b ∷ [])
    ∷ (0x06 ∷ 0x40 ∷ 0x19 ∷ 0x18 ∷ 0x00 ∷ 0x0b ∷ [])
    ∷ (0x18 ∷ 0x00 ∷ 0x0b ∷ [])
    ∷ (0x02 ∷ 0x40 ∷ 0x18 ∷ 0x00 ∷ 0x0b ∷ 0x0b ∷ [])
    ∷ []) ≡ []
unfolding table
unread_nesting = refl

-- A one-byte opcode is not a number in LEB128: neither 8B 00 nor 0B after a prefix is the opcode 0B. No operator
-- has the opcode 1D.
unread_opcodes : numbers_read ((0x8b ∷ 0x00 ∷ []) ∷ (0xfc ∷ 0x0b ∷ []) ∷ (0x1d ∷ 0x0b ∷ []) ∷ []) ≡ []
unfolding table
unread_opcodes = refl

-- Block types that do not exist: negative numbers (41 alone, 7A, the bytes of a composite type and of a packed
-- type, also in two bytes); references to a number type, to the empty type, and with an `end` as their index; 2 to
-- the power 32; six bytes. An unknown kind of catch clause. Lists of labels or clauses with fewer items than their
-- count; a clause without its label
unread_immediates : numbers_read (
    (0x02 ∷ 0x41 ∷ 0x0b ∷ 0x0b ∷ [])
    ∷ (0x02 ∷ 0x7a ∷ 0x0b ∷ 0x0b ∷ [])
    ∷ (0x02 ∷ 0x60 ∷ 0x0b ∷ 0x0b ∷ [])
    ∷ (0x02 ∷ 0x78 ∷ 0x0b ∷ 0x0b ∷ [])
    ∷ (0x02 ∷ 0x63 ∷ 0x7f ∷ 0x0b ∷ 0x0b ∷ [])
    ∷ (0x02 ∷ 0x64 ∷ 0x40 ∷ 0x0b ∷ 0x0b ∷ [])
    ∷ (0x02 ∷ 0x63 ∷ 0x0b ∷ 0x0b ∷ [])
    ∷ (0x02 ∷ 0xf0 ∷ 0x7f ∷ 0x0b ∷ 0x0b ∷ [])
    ∷ (0x02 ∷ 0xc0 ∷ 0x7f ∷ 0x0b ∷ 0x0b ∷ [])
    ∷ (0x02 ∷ 0xff ∷ 0x7f ∷ 0x0b ∷ 0x0b ∷ [])
    ∷ (0x02 ∷ 0x80 ∷ 0x80 ∷ 0x80 ∷ 0x80 ∷ 0x10 ∷ 0x0b ∷ 0x0b ∷ [])
    ∷ (0x02 ∷ 0x80 ∷ 0x80 ∷ 0x80 ∷ 0x80 ∷ 0x80 ∷ 0x00 ∷ 0x0b ∷ 0x0b ∷ [])
    ∷ (0x02 ∷ [])
    ∷ (0x1f ∷ 0x41 ∷ 0x00 ∷ 0x0b ∷ 0x0b ∷ [])
    ∷ (0x1f ∷ 0x40 ∷ 0x01 ∷ 0x04 ∷ 0x00 ∷ 0x0b ∷ 0x0b ∷ [])
    ∷ (0x1f ∷ 0x40 ∷ 0x01 ∷ 0x82 ∷ 0x00 ∷ 0x00 ∷ 0x0b ∷ 0x0b ∷ [])
    ∷ (0x1f ∷ 0x40 ∷ 0x02 ∷ 0x02 ∷ 0x00 ∷ 0x0b ∷ 0x0b ∷ [])
    ∷ (0x1f ∷ 0x40 ∷ 0x01 ∷ 0x00 ∷ 0x00 ∷ [])
    ∷ (0x1f ∷ 0x40 ∷ 0x01 ∷ [])
    ∷ (0x0e ∷ 0x05 ∷ [])
    ∷ (0x0e ∷ 0x01 ∷ 0x0b ∷ [])
    ∷ (0x0e ∷ 0x01 ∷ 0x00 ∷ 0x0b ∷ [])
    ∷ (0x0e ∷ 0xff ∷ 0xff ∷ 0xff ∷ 0xff ∷ 0x0f ∷ 0x0b ∷ [])
    ∷ (0x0c ∷ 0xff ∷ 0xff ∷ 0xff ∷ 0xff ∷ 0x1f ∷ 0x0b ∷ [])
    ∷ (0x0c ∷ [])
    ∷ []) ≡ []
unfolding table
unread_immediates = refl

-- Bytes that do not parse encode no expression.
unspelled : (at : Input) (x : Closed (Placed Operator) × Input) → expression.parse at ≡ None → Spans IsExpression at x → ⊥
unspelled at x e s = absurd (cc (e, expression.complete at x s))

else_outside_if : (x : Closed (Placed Operator) × Input) → Spans IsExpression (input 0 (0x02 ∷ 0x40 ∷ 0x05 ∷ 0x0b ∷ 0x0b ∷ [])) x → ⊥
unfolding table
else_outside_if x = unspelled (input 0 (0x02 ∷ 0x40 ∷ 0x05 ∷ 0x0b ∷ 0x0b ∷ [])) x refl

-- ---- block types

-- The immediates of a block, if the operators are only a block and its `end`
abbrev type_in : List (Placed Operator) → Option Immediates
type_in (o ∷ e ∷ []) = Some o.value.immediates
type_in _ = None

abbrev type_of_block : List ℕ → Option Immediates
type_of_block bytes = expression.parse (input 0 (0x02 ∷ bytes ++ 0x0b ∷ 0x0b ∷ [])) >>= λ x. type_in x.0.items

-- The block types 40 and 7F are not the index of a type with the same signature. An index is a signed number of 33
-- bits.
block_types : map type_of_block (
    (0x40 ∷ [])
    ∷ (0x7f ∷ [])
    ∷ (0x7e ∷ [])
    ∷ (0x00 ∷ [])
    ∷ (0x3f ∷ [])
    ∷ (0xc0 ∷ 0x00 ∷ [])
    ∷ (0xff ∷ 0x00 ∷ [])
    ∷ (0x80 ∷ 0x01 ∷ [])
    ∷ (0x80 ∷ 0x00 ∷ [])
    ∷ (0xff ∷ 0xff ∷ 0xff ∷ 0xff ∷ 0x0f ∷ [])
    ∷ (0x7d ∷ [])
    ∷ (0x7b ∷ [])
    ∷ (0x70 ∷ [])
    ∷ (0x63 ∷ 0x70 ∷ [])
    ∷ (0x64 ∷ 0x70 ∷ [])
    ∷ (0x63 ∷ 0x00 ∷ [])
    ∷ (0x63 ∷ 0xf0 ∷ 0x00 ∷ [])
    ∷ (0xf0 ∷ 0x00 ∷ [])
    ∷ (0x64 ∷ 0x0b ∷ [])
    ∷ [])
    ≡ Some (Block Empty)
    ∷ Some (Block (Value types.I32))
    ∷ Some (Block (Value types.I64))
    ∷ Some (Block (OfType 0))
    ∷ Some (Block (OfType 63))
    ∷ Some (Block (OfType 64))
    ∷ Some (Block (OfType 127))
    ∷ Some (Block (OfType 128))
    ∷ Some (Block (OfType 0))
    ∷ Some (Block (OfType 4294967295))
    ∷ Some (Block (Value types.F32))
    ∷ Some (Block (Value types.V128))
    ∷ Some (Block (Value (types.Ref (ref_type true types.Func))))
    ∷ Some (Block (Value (types.Ref (ref_type true types.Func))))
    ∷ Some (Block (Value (types.Ref (ref_type false types.Func))))
    ∷ Some (Block (Value (types.Ref (ref_type true (types.Index 0)))))
    ∷ Some (Block (Value (types.Ref (ref_type true (types.Index 112)))))
    ∷ Some (Block (OfType 112))
    ∷ Some (Block (Value (types.Ref (ref_type false (types.Index 11)))))
    ∷ []
unfolding table
block_types = refl

-- The rules, applied by hand: try nop catch catch_all if else end end
nests : Nests Sequence (OpensTry ∷ Plain ∷ Catches ∷ CatchesAll ∷ OpensIf ∷ Else ∷ Ends ∷ Ends ∷ [])
nests =
    tried {body = Plain ∷ []} {handlers = Catches ∷ CatchesAll ∷ OpensIf ∷ Else ∷ Ends ∷ []} {rest = []} (plain none)
    (caught {body = []} {handlers = CatchesAll ∷ OpensIf ∷ Else ∷ Ends ∷ []} none (caught_all (two_armed {yes = []} {no = []} {rest = []} none none none))) none

-- block loop end end if end try nop delegate
nests_flat : Nests Sequence (Opens ∷ Opens ∷ Ends ∷ Ends ∷ OpensIf ∷ Ends ∷ OpensTry ∷ Plain ∷ Delegates ∷ [])
nests_flat =
    block {body = Opens ∷ Ends ∷ []} {rest = OpensIf ∷ Ends ∷ OpensTry ∷ Plain ∷ Delegates ∷ []} (block {body = []} {rest = []} none none)
    (one_armed {body = []} {rest = OpensTry ∷ Plain ∷ Delegates ∷ []} none (delegated {body = Plain ∷ []} {rest = []} (plain none) none))

not_nested : (xs : List Role) → stops advance at_start xs Ends ≡ false → Nests Sequence xs → ⊥
not_nested xs e n = absurd (cc (e, stops_at_end xs n))

end_not_nested : Nests Sequence (Ends ∷ []) → ⊥
end_not_nested = not_nested (Ends ∷ []) refl

open_not_nested : Nests Sequence (Opens ∷ []) → ⊥
open_not_nested = not_nested (Opens ∷ []) refl

turn_not_nested : Nests Sequence (Opens ∷ Else ∷ Ends ∷ []) → ⊥
turn_not_nested = not_nested (Opens ∷ Else ∷ Ends ∷ []) refl

catch_not_nested : Nests Sequence (OpensTry ∷ CatchesAll ∷ Catches ∷ Ends ∷ []) → ⊥
catch_not_nested = not_nested (OpensTry ∷ CatchesAll ∷ Catches ∷ Ends ∷ []) refl

-- Given bytes encode at most one expression, and it ends at one place.
one_expression : (at : Input) (x y : Closed (Placed Operator) × Input) → Spans IsExpression at x → Spans IsExpression at y → x ≡ y
one_expression at x y s t = some_is x y (sym (expression.complete at x s) ∙ expression.complete at y t)
