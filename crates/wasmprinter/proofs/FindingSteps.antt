-- One step of each loop that finds a line.
use Rattle.std.proofs.Common.{◌≡◌, ℕ, zero, suc, ◌+◌, ◌-◌, ◌<◌, List, [], ◌∷◌, length, get_or, map, drop, Bool, true, false, cond, Option, Some, None, refl, ap, ◌∙◌, arith}
use Rattle.wasmprinter_spec.specs.Grammar.{Placed}
use Rattle.wasmprinter_spec.specs.Operator.{Operator}
use Rattle.wasmprinter_spec.specs.Lines.{TextLine, has_place, line_from}
use Rattle.wasmprinter_ops.specs.Operators.{pairs}
use Rattle.wasmprinter_ops.proofs.Pairs.{first-pair}
use Rattle.wasmprinter.specs.Found.{place_at}

-- If no operator is left, no operator has the number.
pub place-none : (os : List (Placed Operator)) (n : ℕ) → pairs os ≡ [] → place_at os n ≡ None
place-none [] n e = refl
place-none (o ∷ os) n e = absurd cc

-- If the number is 0, the place is that of the next operator.
pub place-first : (os rest : List (Placed Operator)) (x : ℕ × Operator) (n : ℕ) → pairs os ≡ x ∷ pairs rest → n ≡ 0 → place_at os n ≡ Some x.0
place-first os rest x n e z = ap (λ (k : ℕ). place_at os k) z ∙ ap (λ (xs : List (Placed Operator)). place_at xs 0) (first-pair os rest x e)

-- If the number is not 0, the place is found among the operators after the next one, at the number less one.
pub place-later : (os rest : List (Placed Operator)) (x : ℕ × Operator) (n : ℕ) → pairs os ≡ x ∷ pairs rest → (n ≡ 0 → ⊥) → place_at os n ≡ place_at rest (n - 1)
place-later os rest x n e z =
    let more : n ≡ suc (n - 1) = omega (arith, z) in
    ap (λ (k : ℕ). place_at os k) more ∙ ap (λ (xs : List (Placed Operator)). place_at xs (suc (n - 1))) (first-pair os rest x e)

-- The line of the definitions that a line of the program represents.
abbrev pub line_view : {X : Type 0} → (X → List ℕ) → Option ℕ × X → TextLine
line_view text line = (line.0, text line.1)

-- The search from line i on tests line i, and then continues with the lines after it.
line-step : {X : Type 0} (text : X → List ℕ) (xs : List (Option ℕ × X)) (n i place : ℕ) (d : Option ℕ × X) → i < length xs →
    line_from n place (drop i (map (line_view text) xs)) ≡ cond (has_place place (get_or xs i d).0) (Some n) (line_from (n + 1) place (drop (i + 1) (map (line_view text) xs)))
line-step text [] n i place d lt = absurd (omega (arith, lt))
line-step text (x ∷ xs) n zero place d lt = refl
line-step text (x ∷ xs) n (suc i) place d lt =
    let next : suc (i + 1) ≡ suc i + 1 = omega arith in
    line-step text xs n i place d (omega (arith, lt))
    ∙ ap (λ (k : ℕ). cond (has_place place (get_or xs i d).0) (Some n) (line_from (n + 1) place (drop k (map (line_view text) (x ∷ xs))))) next

-- If line i has the place, it is found.
pub line-first : {X : Type 0} (text : X → List ℕ) (xs : List (Option ℕ × X)) (i place : ℕ) (d : Option ℕ × X) → i < length xs → has_place place (get_or xs i d).0 ≡ true →
    line_from i place (drop i (map (line_view text) xs)) ≡ Some i
line-first text xs i place d lt e = line-step text xs i i place d lt ∙ ap (λ (b : Bool). cond b (Some i) (line_from (i + 1) place (drop (i + 1) (map (line_view text) xs)))) e

-- If line i does not have the place, the search continues with the next line.
pub line-later : {X : Type 0} (text : X → List ℕ) (xs : List (Option ℕ × X)) (i place : ℕ) (d : Option ℕ × X) → i < length xs → has_place place (get_or xs i d).0 ≡ false →
    line_from i place (drop i (map (line_view text) xs)) ≡ line_from (i + 1) place (drop (i + 1) (map (line_view text) xs))
line-later text xs i place d lt e = line-step text xs i i place d lt ∙ ap (λ (b : Bool). cond b (Some i) (line_from (i + 1) place (drop (i + 1) (map (line_view text) xs)))) e
