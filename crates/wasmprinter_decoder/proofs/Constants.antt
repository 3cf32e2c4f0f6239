-- Expressions without the places of their ends.
use Rattle.std.proofs.Common.{◌≡◌, ℕ, zero, suc, List, ◌∷◌, Option, Some, None, refl, ap, ◌∙◌}
use Rattle.wasmprinter_spec.specs.Grammar.{Input, Placed, ◌>>=◌}
use Rattle.wasmprinter_spec.specs.Name.{u32, vec}
use Rattle.wasmprinter_spec.specs.Repeated.{items_at}
use Rattle.wasmprinter_spec.specs.Types.{RefType}
use Rattle.wasmprinter_spec.specs.Operator.{Operator}
use Rattle.wasmprinter_spec.specs.Placed.{Expressions}
use Rattle.wasmprinter_spec.specs.Instructions.{Closed, expression, constant}
use Rattle.wasmprinter_spec.specs.Binary.Elements.{expression_items}
use Rattle.wasmprinter_decoder.specs.Segments.{Constant, constant_of, constants_of}

-- An expression with the place of its end.
abbrev Code : Type 0
Code = Closed (Placed Operator)

-- The expressions that were read, without the places of their ends.
abbrev constants_read : Option (List Code × Input) → Option (List Constant × Input)
constants_read r = r >>= λ x. Some (constants_of x.0, x.1)

-- Prepending an expression commutes with dropping the places of the ends.
front : (e : Code) (r : Option (List Code × Input)) → (constants_read r >>= λ b. Some (constant_of e ∷ b.0, b.1)) ≡ constants_read (r >>= λ b. Some (e ∷ b.0, b.1))
front e None = refl
front e (Some b) = refl

-- The expression that was read, without the place of its end.
abbrev constant_read : Option (Code × Input) → Option (Constant × Input)
constant_read r = r >>= λ a. Some (constant_of a.0, a.1)

-- The first expression, and the others after it.
next : (n : ℕ) (r : Option (Code × Input)) → ((at : Input) → items_at constant.parse n at ≡ constants_read (items_at expression.parse n at))
    → (constant_read r >>= λ a. items_at constant.parse n a.1 >>= λ b. Some (a.0 ∷ b.0, b.1))
    ≡ constants_read (r >>= λ a. items_at expression.parse n a.1 >>= λ b. Some (a.0 ∷ b.0, b.1))
next n None h = refl
next n (Some x) h = rw (h x.1) (front x.0 (items_at expression.parse n x.1))

-- Reading n constants gives the operators of n expressions.
items_read : (n : ℕ) (at : Input) → items_at constant.parse n at ≡ constants_read (items_at expression.parse n at)
items_read zero at = refl
items_read (suc n) at = next n (expression.parse at) (items_read n)

-- The items with their count.
abbrev with_count : {A : Type 0} → ℕ → Option (List A × Input) → Option ((ℕ × List A) × Input)
with_count n r = r >>= λ xs. Some ((n, xs.0), xs.1)

-- The items without their count.
abbrev uncounted : {A : Type 0} → Option ((ℕ × List A) × Input) → Option (List A × Input)
uncounted r = r >>= λ ((_, xs), after). Some (xs, after)

-- Attaching and removing the count does not change the items.
counted : (n : ℕ) (r : Option (List Code × Input)) → uncounted (with_count n (constants_read r)) ≡ constants_read (uncounted (with_count n r))
counted n None = refl
counted n (Some x) = refl

-- The items after a count that was read.
from_count : (r : Option (ℕ × Input)) → uncounted {A = Constant} (r >>= λ n. with_count n.0 (items_at constant.parse n.0 n.1))
    ≡ constants_read (uncounted {A = Code} (r >>= λ n. with_count n.0 (items_at expression.parse n.0 n.1)))
from_count None = refl
from_count (Some n) = rw (items_read n.0 n.1) (counted n.0 (items_at expression.parse n.0 n.1))

-- Reading a list of constants gives the operators of a list of expressions.
vec_read : (at : Input) → (vec constant).parse at ≡ constants_read ((vec expression).parse at)
vec_read at = from_count (u32.parse at)

-- If a list of expressions is read, the items of the segment are read with their operators.
pub expressions_read : (t : RefType) (at after : Input) (es : List Code) → (vec expression).parse at ≡ Some (es, after)
    → (expression_items t).parse at ≡ Some (Expressions t (constants_of es), after)
expressions_read t at after es e =
    let read : (vec constant).parse at ≡ Some (constants_of es, after) = vec_read at ∙ ap constants_read e in
    rw read refl

-- If no list of expressions can be read, the items of the segment can't be read.
pub expressions_none : (t : RefType) (at : Input) → (vec expression).parse at ≡ None → (expression_items t).parse at ≡ None
expressions_none t at e =
    let read : (vec constant).parse at ≡ None = vec_read at ∙ ap constants_read e in
    rw read refl
