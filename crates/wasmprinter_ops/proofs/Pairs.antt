-- The program's pairs of places and operators represent operators with their places.
use Rattle.std.proofs.Common.{◌≡◌, ℕ, List, [], ◌∷◌, map, refl, sym, ap, ◌∙◌}
use Rattle.wasmprinter_spec.specs.Grammar.{Placed}
use Rattle.wasmprinter_spec.specs.Operator.{Operator}
use Rattle.wasmprinter_ops.specs.Operators.{placed_view, pairs}

viewed-pairs : (os : List (Placed Operator)) → map placed_view (pairs os) ≡ os
viewed-pairs [] = refl
viewed-pairs (o ∷ os) = ap (λ xs. o ∷ xs) (viewed-pairs os)

-- If the pairs begin with x, the operators begin with the operator that x represents.
pub first-pair : (os rest : List (Placed Operator)) (x : ℕ × Operator) → pairs os ≡ x ∷ pairs rest → os ≡ placed_view x ∷ rest
first-pair os rest x e = sym (viewed-pairs os) ∙ ap (map placed_view) e ∙ ap (λ xs. placed_view x ∷ xs) (viewed-pairs rest)

pub no-pair : (os : List (Placed Operator)) → pairs os ≡ [] → os ≡ []
no-pair os e = sym (viewed-pairs os) ∙ ap (map placed_view) e
