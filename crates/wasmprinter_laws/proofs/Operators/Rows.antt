-- Of the rows with the same word, the row of the operator is the first that reads its items.
use Rattle.std.proofs.Common.{◌≡◌, ℕ, Bool, true, false, cond, List, [], ◌∷◌, Some, None, refl, sym, ap, ◌∙◌, subst, map}
use Rattle.std.specs.List.{filter}
use Rattle.wasmprinter_spec.specs.Forest.{Forest}
use Rattle.wasmprinter_spec.specs.Operator.{Immediates}
use Rattle.wasmprinter_spec.specs.Row.{Row}
use Rattle.wasmprinter_spec.specs.Table.{table, has_word, rows_of}
use Rattle.wasmprinter_spec.specs.IndexSpaces.{Identifiers, Context}
use Rattle.wasmprinter_spec.specs.Text.Operators.{immediates, labels_in_sight, first_reading}
use Rattle.wasmprinter_laws.proofs.Bytes.{same_bytes, bytes_same}
use Rattle.wasmprinter_laws.proofs.Tabled.{In, here, there, refuses, keyed, are_told_apart, told_apart_later, refuses_later, table_tells_apart}

-- A list of rows that is not empty
pub record IsSome (rs : List Row) : Type 0 where
  pub first : Row
  pub others : List Row
  pub is : rs ≡ first ∷ others

some_of_word : (rs : List Row) (r : Row) → In r rs → IsSome (filter (has_word r.word) rs)
some_of_word [] r i = elim i [ ]
some_of_word (s ∷ rs) r here = record { first = r; others = filter (has_word r.word) rs; is = ap (λ t. cond t (r ∷ filter (has_word r.word) rs) (filter (has_word r.word) rs)) (same_bytes r.word) }
some_of_word (s ∷ rs) r (there i) = by (has_word r.word s) (some_of_word rs r i)
  where
    by : (t : Bool) → IsSome (filter (has_word r.word) rs) → IsSome (cond t (s ∷ filter (has_word r.word) rs) (filter (has_word r.word) rs))
    by true more = record { first = s; others = filter (has_word r.word) rs; is = refl }
    by false more = more

-- The first row with a word is one of the rows, and has that word.
pub first_of_rows : (w : List ℕ) (rs : List Row) (r : Row) (others : List Row) → filter (has_word w) rs ≡ r ∷ others → In r rs × (r.word ≡ w)
first_of_rows w [] r others e = absurd cc
first_of_rows w (s ∷ rs) r others e = by (has_word w s) refl e (first_of_rows w rs r others)
  where
    by : (t : Bool) → has_word w s ≡ t → cond t (s ∷ filter (has_word w) rs) (filter (has_word w) rs) ≡ r ∷ others →
        (filter (has_word w) rs ≡ r ∷ others → In r rs × (r.word ≡ w)) → In r (s ∷ rs) × (r.word ≡ w)
    by true h k more = let same : s ≡ r = cc in (subst (λ x. In x (s ∷ rs)) same here, ap (λ x. x.word) (sym same) ∙ bytes_same s.word w h)
    by false h k more = (there (more k).0, (more k).1)

pub rows_of-row : (r : Row) → In r table → IsSome (rows_of r.word)
rows_of-row r i = some_of_word table r i

module _ (c : Context) (is : Identifiers) (f : Forest) (i : Immediates) where
  first_reads : (r : Row) (rs : List Row) → immediates c (labels_in_sight r.role is) r.shape f ≡ Some i → first_reading c is (r ∷ rs) f ≡ Some (r, i)
  first_reads r rs e = rw e

  -- A row that does not read the items is skipped.
  passed_over : (s : Row) (rs : List Row) → immediates c (labels_in_sight s.role is) s.shape f ≡ None → first_reading c is (s ∷ rs) f ≡ first_reading c is rs f
  passed_over s rs e = rw e

  first_of_word : (rs : List Row) (r : Row) → are_told_apart (map keyed rs) ≡ true → In r rs → immediates c (labels_in_sight r.role is) r.shape f ≡ Some i →
      ((s : Row) → refuses s.shape r.shape ≡ true → immediates c (labels_in_sight s.role is) s.shape f ≡ None) →
      first_reading c is (filter (has_word r.word) rs) f ≡ Some (r, i)
  first_of_word [] r t at e refused = elim at [ ]
  first_of_word (s ∷ rs) r t here e refused =
      ap (λ b. first_reading c is (cond b (r ∷ filter (has_word r.word) rs) (filter (has_word r.word) rs)) f) (same_bytes r.word) ∙ first_reads r (filter (has_word r.word) rs) e
  first_of_word (s ∷ rs) r t (there at) e refused = by (has_word r.word s) refl (first_of_word rs r (told_apart_later s rs t) at e refused)
    where
      by : (b : Bool) → has_word r.word s ≡ b → first_reading c is (filter (has_word r.word) rs) f ≡ Some (r, i) →
          first_reading c is (cond b (s ∷ filter (has_word r.word) rs) (filter (has_word r.word) rs)) f ≡ Some (r, i)
      by true same more = passed_over s (filter (has_word r.word) rs) (refused s (refuses_later s r rs t at same)) ∙ more
      by false other more = more

  -- The first row that reads the items is the row of the operator.
  pub first_reading-row : (r : Row) → In r table → immediates c (labels_in_sight r.role is) r.shape f ≡ Some i →
      ((s : Row) → refuses s.shape r.shape ≡ true → immediates c (labels_in_sight s.role is) s.shape f ≡ None) → first_reading c is (rows_of r.word) f ≡ Some (r, i)
  first_reading-row r at e refused = first_of_word table r table_tells_apart at e refused
