-- A table by position has the entries that the rows of the definitions list.
use Rattle.std.proofs.Common.{◌≡◌, ℕ, zero, suc, ◌+◌, ◌<◌, ◌≤◌, ◌≢◌, Bool, true, false, cond, eqb, ltb, ◌&&◌, ◌||◌, List, [], ◌∷◌, length, get_or, map, refl, ap, ◌∙◌, Option, Some, None, arith}
use Rattle.std.proofs.lemmas.Bool.{and_parts, ltb-true, eqb-true, ne_eqb}
use Rattle.std.proofs.lemmas.List.{length-map}
use Rattle.wasmprinter_spec.specs.Operator.{Opcode, opcode}
use Rattle.wasmprinter_spec.specs.Row.{Row, Shape, Arity, Role, Plain, Opens, OpensIf, OpensTry, Else, Catches, CatchesAll, Delegates, Ends}
use Rattle.wasmprinter_spec.specs.Table.{table, first, has_opcode, by_opcode, role_of_row, role_of}
use Rattle.wasmprinter_ops.specs.ByNumber.{each_from, size_of, entry_of, each_entry, roles_size_of, each_role}

module _ {A : Type 0} (f : ℕ → A) (d : A) where
  -- The entry at position k of the values of f from i on is f (i + k).
  get_or-each_from : (i n k : ℕ) → k < n → get_or (each_from f i n) k d ≡ f (i + k)
  get_or-each_from i zero k lt = absurd (omega arith)
  get_or-each_from i (suc n) zero lt = let e : i + 0 ≡ i = omega arith in rw e refl
  get_or-each_from i (suc n) (suc k) lt =
      let e : i + 1 + k ≡ i + suc k = omega arith in
      get_or-each_from (i + 1) n k (omega arith) ∙ ap f e

  -- The values of f at n numbers are n values.
  length-each_from : (i n : ℕ) → length (each_from f i n) ≡ n
  length-each_from i zero = refl
  length-each_from i (suc n) = let h = length-each_from (i + 1) n in omega arith

-- A mapped list has the same positions.
module _ {A B : Type 0} (f : A → B) (xs : List A) (n : ℕ) where
  pub same_length_lt : n < length xs → n < length (map f xs)
  same_length_lt lt = rw (length-map xs f) lt

  pub same_length_le : length xs ≤ n → length (map f xs) ≤ n
  same_length_le le = rw (length-map xs f) le

-- Each row's number is below the size of the program's table for its prefix.
abbrev fits : List Row → Bool
fits [] = true
fits (r ∷ rs) = ltb r.number (size_of r.prefix) && fits rs

-- Every row of the table fits.
table_fits : fits table ≡ true
unfolding table
table_fits = refl

-- A row whose number is below the size for its prefix does not have an opcode whose number is at least that size.
past_row : (size : ℕ → ℕ) (r : Row) (o : Opcode) → r.number < size r.prefix → size o.prefix ≤ o.number → has_opcode o r ≡ true → ⊥
past_row size r o lt le e =
    let parts = and_parts (eqb r.prefix o.prefix) (eqb r.number o.number) e in
    let p : r.prefix ≡ o.prefix = eqb-true _ _ parts.0 in
    let n : r.number ≡ o.number = eqb-true _ _ parts.1 in
    let s : size r.prefix ≡ size o.prefix = ap size p in
    omega arith

-- If the test does not hold for the first row, and no later row is found, no row is found.
no_first : (b : Bool) (r : Row) (x : Option Row) → (b ≡ true → ⊥) → x ≡ None → cond b (Some r) x ≡ None
no_first true r x h e = absurd (h refl)
no_first false r x h e = e

-- In a list of rows that fit, no row has an opcode whose number is at least the size for its prefix.
past_rows : (rs : List Row) (o : Opcode) → fits rs ≡ true → size_of o.prefix ≤ o.number → first (has_opcode o) rs ≡ None
past_rows [] o f le = refl
past_rows (r ∷ rs) o f le =
    let parts = and_parts (ltb r.number (size_of r.prefix)) (fits rs) f in
    no_first (has_opcode o r) r (first (has_opcode o) rs) (past_row size_of r o (ltb-true _ _ parts.0) le) (past_rows rs o parts.1 le)

-- The table lists no opcode whose number is at least the size for its prefix.
pub not_listed : (o : Opcode) → size_of o.prefix ≤ o.number → by_opcode o ≡ None
not_listed o le = past_rows table o table_fits le

-- The role is `Plain`, or the row's number is below the size of the program's table of roles.
abbrev is_plain : Role → Bool
is_plain Plain = true
is_plain _ = false

abbrev has_role : Row → Bool
has_role r = is_plain r.role || ltb r.number (roles_size_of r.prefix)

abbrev have_roles : List Row → Bool
have_roles [] = true
have_roles (r ∷ rs) = has_role r && have_roles rs

table_roles : have_roles table ≡ true
unfolding table
table_roles = refl

plain_is : (r : Role) → is_plain r ≡ true → Plain ≡ r
plain_is Plain e = refl
plain_is Opens e = absurd cc
plain_is OpensIf e = absurd cc
plain_is OpensTry e = absurd cc
plain_is Else e = absurd cc
plain_is Catches e = absurd cc
plain_is CatchesAll e = absurd cc
plain_is Delegates e = absurd cc
plain_is Ends e = absurd cc

-- If the first row either does not have the opcode or has the role `Plain`, and the opcode is `Plain` among the other
-- rows, then it is `Plain`.
plain_first : (b : Bool) (r : Row) (x : Option Row) → (b ≡ true → Plain ≡ r.role) → Plain ≡ role_of_row x → Plain ≡ role_of_row (cond b (Some r) x)
plain_first true r x h e = h refl
plain_first false r x h e = e

plain_row : (c : Bool) (r : Row) (o : Opcode) → is_plain r.role ≡ c → (c || ltb r.number (roles_size_of r.prefix)) ≡ true → roles_size_of o.prefix ≤ o.number
    → has_opcode o r ≡ true → Plain ≡ r.role
plain_row true r o c f le e = plain_is r.role c
plain_row false r o c f le e = absurd (past_row roles_size_of r o (ltb-true _ _ f) le e)

plain_rows : (rs : List Row) (o : Opcode) → have_roles rs ≡ true → roles_size_of o.prefix ≤ o.number → Plain ≡ role_of_row (first (has_opcode o) rs)
plain_rows [] o f le = refl
plain_rows (r ∷ rs) o f le =
    let parts = and_parts (has_role r) (have_roles rs) f in
    plain_first (has_opcode o r) r (first (has_opcode o) rs) (plain_row (is_plain r.role) r o refl parts.0 le) (plain_rows rs o parts.1 le)

-- A prefix without a table has no entries.
pub no_entries : (p : ℕ) → p ≢ 0 → p ≢ 0xfb → p ≢ 0xfc → p ≢ 0xfd → p ≢ 0xfe → [] ≡ each_entry p
unfolding each_entry
no_entries p none gc bulk vectors atomics =
    rw (ne_eqb p 0 none, ne_eqb p 0xfb gc, ne_eqb p 0xfc bulk, ne_eqb p 0xfd vectors, ne_eqb p 0xfe atomics) refl

-- A prefix other than 0 has no table of roles.
pub no_roles : (p : ℕ) → p ≢ 0 → [] ≡ each_role p
unfolding each_role
no_roles p ne = rw (ne_eqb p 0 ne) refl

module _ {A : Type 0} (f : ℕ → A) (d : A) (size n : ℕ) (xs : List A) (is : xs ≡ each_from f 0 size) where
  within_is : n < length xs → get_or xs n d ≡ f n
  within_is lt =
      let l : length xs ≡ size = ap length is ∙ length-each_from f d 0 size in
      let z : 0 + n ≡ n = omega arith in
      ap (λ (ys : List A). get_or ys n d) is ∙ get_or-each_from f d 0 size n (omega arith) ∙ ap f z

  past_is : length xs ≤ n → size ≤ n
  past_is le = omega (arith, ap length is, length-each_from f d 0 size)

module _ (o : Opcode) where
  -- The entry at a position of the table is the opcode's entry.
  pub entry_within : (xs : List (Option (List ℕ × Shape × Arity))) → xs ≡ each_entry o.prefix → o.number < length xs → get_or xs o.number None ≡ entry_of o
  unfolding each_entry
  entry_within xs is lt = within_is (λ n. entry_of (opcode o.prefix n)) None (size_of o.prefix) o.number xs is lt

  -- An opcode past the table has no entry.
  pub entry_past : (xs : List (Option (List ℕ × Shape × Arity))) → xs ≡ each_entry o.prefix → length xs ≤ o.number → None ≡ entry_of o
  unfolding each_entry
  entry_past xs is le = rw (not_listed o (past_is (λ n. entry_of (opcode o.prefix n)) None (size_of o.prefix) o.number xs is le)) refl

  -- The role at a position of the table is the opcode's role.
  pub role_within : (xs : List Role) → xs ≡ each_role o.prefix → o.number < length xs → get_or xs o.number Plain ≡ role_of o
  unfolding each_role
  role_within xs is lt = within_is (λ n. role_of (opcode o.prefix n)) Plain (roles_size_of o.prefix) o.number xs is lt

  -- An opcode past the table of roles has the role `Plain`.
  pub role_past : (xs : List Role) → xs ≡ each_role o.prefix → length xs ≤ o.number → Plain ≡ role_of o
  unfolding each_role
  role_past xs is le = plain_rows table o table_roles (past_is (λ n. role_of (opcode o.prefix n)) Plain (roles_size_of o.prefix) o.number xs is le)
