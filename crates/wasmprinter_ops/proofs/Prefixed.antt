-- The entries of one prefix, found among the rows of that prefix only: these are far fewer than all rows.
use Rattle.std.proofs.Common.{◌≡◌, ℕ, zero, suc, ◌+◌, Bool, true, false, cond, eqb, ◌&&◌, List, [], ◌∷◌, Option, Some, refl, sym, ap, ◌∙◌}
use Rattle.wasmprinter_spec.specs.Operator.{opcode}
use Rattle.wasmprinter_spec.specs.Row.{Row, Shape, Arity}
use Rattle.wasmprinter_spec.specs.Table.{table, first, has_opcode}
use Rattle.wasmprinter_ops.specs.ByNumber.{each_from, size_of, entry_of, entry_of_row, each_entry}

-- The rows with the prefix.
abbrev with_prefix : ℕ → List Row → List Row
with_prefix p [] = []
with_prefix p (r ∷ rs) = cond (eqb r.prefix p) (r ∷ with_prefix p rs) (with_prefix p rs)

abbrev has_number : ℕ → Row → Bool
has_number n r = eqb r.number n

found : (b : Bool) (n : ℕ) (r : Row) (x : Option Row) (rs : List Row) → x ≡ first (has_number n) rs → cond (b && has_number n r) (Some r) x ≡ first (has_number n) (cond b (r ∷ rs) rs)
found true n r x rs e = ap (λ (y : Option Row). cond (has_number n r) (Some r) y) e
found false n r x rs e = e

-- The first row with the opcode is the first row with its number among the rows with its prefix.
first_is : (p n : ℕ) (rs : List Row) → first (has_opcode (opcode p n)) rs ≡ first (has_number n) (with_prefix p rs)
first_is p n [] = refl
first_is p n (r ∷ rs) = found (eqb r.prefix p) n r (first (has_opcode (opcode p n)) rs) (with_prefix p rs) (first_is p n rs)

each_same : {A : Type 0} (f h : ℕ → A) → ((n : ℕ) → f n ≡ h n) → (i n : ℕ) → each_from f i n ≡ each_from h i n
each_same f h e i zero = refl
each_same f h e i (suc n) = ap (λ x. x ∷ each_from f (i + 1) n) (e i) ∙ ap (λ xs. h i ∷ xs) (each_same f h e (i + 1) n)

-- The entries for `size` numbers, from 0 on, found among the rows.
abbrev pub entries_in : List Row → ℕ → List (Option (List ℕ × Shape × Arity))
entries_in rows size = each_from (λ n. entry_of_row (first (has_number n) rows)) 0 size

-- The entries of a prefix are those found among its rows.
pub entries_of_prefix : (p : ℕ) → entries_in (with_prefix p table) (size_of p) ≡ each_entry p
unfolding each_entry
entries_of_prefix p =
    each_same (λ n. entry_of_row (first (has_number n) (with_prefix p table))) (λ n. entry_of (opcode p n)) (λ n. ap entry_of_row (sym (first_is p n table))) 0 (size_of p)
