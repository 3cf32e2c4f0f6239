-- Items of element segments, one after the other.
use Rattle.std.specs.Prelude.{◌≡◌, ℕ, ◌+◌, ◌<◌, ◌≤◌, drop, length, List, [], ◌∷◌, ◌++◌, codes}
use Rattle.std.proofs.Common.{sym, ap, ◌∙◌, get_or}
use Rattle.std.proofs.Math.ListN.{drop_of_length-le}
use Rattle.std.proofs.lemmas.List.{at_drop_more}
use Rattle.wasmprinter_spec.specs.Grammar.{Placed}
use Rattle.wasmprinter_spec.specs.Row.{Func}
use Rattle.wasmprinter_spec.specs.Operator.{Operator}
use Rattle.wasmprinter_spec.specs.Instructions.{Closed}
use Rattle.wasmprinter_spec.specs.Piece.{OneSpace}
use Rattle.wasmprinter_spec.specs.Layout.Declarations.{Scope, item_index}
use Rattle.wasmprinter_spec.specs.Layout.Expressions.{constant_group}
use Rattle.wasmprinter_spec.specs.Layout.Elements.{function_items, expression_items}
use Rattle.wasmprinter_decoder.specs.Segments.{constant_of, constants_of}

-- If no function is left, no piece is left.
pub functions-none : (s : Scope) (is : List ℕ) → is ≡ [] → function_items s is ≡ []
unfolding function_items
functions-none s is e = ap (function_items s) e

-- The pieces of functions are those of the first function and those of the others.
pub functions-next : (s : Scope) (is rest : List ℕ) (i : ℕ) → is ≡ i ∷ rest →
    function_items s is ≡ (OneSpace ∷ item_index s Func i) ++ function_items s rest
unfolding function_items
functions-next s is rest i e = ap (function_items s) e

-- If there are at most k expressions, no piece is left after the first k.
pub expressions-none : (s : Scope) (k : ℕ) (es : List (Closed (Placed Operator))) → length es ≤ k → expression_items s (constants_of (drop k es)) ≡ []
unfolding expression_items
expressions-none s k es le = ap (λ xs. expression_items s (constants_of xs)) (drop_of_length-le es le)

-- The pieces after the first k expressions are those of expression k and those of the expressions after it.
pub expressions-next : (s : Scope) (k : ℕ) (es : List (Closed (Placed Operator))) (x d : Closed (Placed Operator)) → k < length es → x ≡ get_or es k d →
    expression_items s (constants_of (drop k es))
    ≡ (OneSpace ∷ constant_group s 2 (codes "item") (constant_of x)) ++ expression_items s (constants_of (drop (k + 1) es))
unfolding expression_items
expressions-next s k es x d lt is =
    at_drop_more (λ xs. expression_items s (constants_of xs)) es k d lt
    ∙ ap (λ (y : Closed (Placed Operator)). (OneSpace ∷ constant_group s 2 (codes "item") (constant_of y)) ++ expression_items s (constants_of (drop (k + 1) es))) (sym is)
