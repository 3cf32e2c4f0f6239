-- Tables with an empty initialiser.
use Rattle.std.proofs.Common.{◌≡◌, ℕ, ◌+◌, ◌<◌, ◌≤◌, get_or, drop, List, [], ◌∷◌, ◌++◌, length, Option, Some, None, refl, sym, ap, subst, ◌∙◌, inl, inr, arith, append_assoc, length-append}
use Rattle.std.proofs.Math.ListN.{drop_of_length-le}
use Rattle.std.proofs.lemmas.List.{at_drop_more}
use Rattle.wasmprinter_spec.specs.Grammar.{Input, some_is, Placed, value_with_place}
use Rattle.wasmprinter_spec.specs.Repeated.{AreItems}
use Rattle.wasmprinter_spec.specs.Name.{vec}
use Rattle.wasmprinter_spec.specs.Sections.{TableSection}
use Rattle.wasmprinter_spec.specs.Operator.{Operator}
use Rattle.wasmprinter_spec.specs.Placed.{Table, table_of}
use Rattle.wasmprinter_spec.specs.Binary.Tables.{table}
use Rattle.wasmprinter_spec.specs.Limits.{HasNoEmptyInit}
use Rattle.wasmprinter_decoder.specs.Refusals.{HasEmptyInit, PlacedTable, IsEmptyInit, IsEmpty, FirstIsEmpty}
use Rattle.wasmprinter_decoder.specs.Tables.{FindsEmpty}
use Rattle.wasmprinter_decoder.specs.Contents.{content_reasons}
use Rattle.wasmprinter_decoder.proofs.Parts.{alone_some}

-- An empty initialiser is `Some []`.
init_is : (init : Option (List (Placed Operator))) → IsEmptyInit init → init ≡ Some []
init_is None e = absurd e
init_is (Some []) e = refl
init_is (Some (o ∷ os)) e = absurd e

-- `HasNoEmptyInit` and `IsEmptyInit` exclude each other, and one of them always holds.
pub not_empty : (init : Option (List (Placed Operator))) → HasNoEmptyInit init → IsEmptyInit init → ⊥
not_empty None none e = e
not_empty (Some []) none e = none
not_empty (Some (o ∷ os)) none e = e

has_none : (init : Option (List (Placed Operator))) → (IsEmptyInit init → ⊥) → HasNoEmptyInit init
has_none None ne = tt
has_none (Some []) ne = absurd (ne tt)
has_none (Some (o ∷ os)) ne = tt

-- If a table is encoded at p and its initialiser is empty, its place is p, and the bytes encode an empty initialiser.
here_of : (p : ℕ) (text after : List ℕ) (x : PlacedTable) (place : ℕ) → (value_with_place table).spells p text x → IsEmpty place x → (place ≡ p) × table.spells place text (table_of x.value.type (Some []))
here_of p text after x place s e =
    let there : place ≡ p = sym e.0 ∙ s.0 in
    let same : x.value ≡ table_of x.value.type (Some []) = ap (table_of x.value.type) (init_is x.value.init e.1) in
    (there, subst (λ (q : ℕ). table.spells q text (table_of x.value.type (Some []))) (sym there) (subst (λ (v : Table (Placed Operator)). table.spells p text v) same s.1))

-- If one of the tables that the bytes encode has an empty initialiser, the bytes contain such a table.
among : (p : ℕ) (text : List ℕ) (ts : List PlacedTable) (place : ℕ) → AreItems (value_with_place table) p text ts → FirstIsEmpty place ts
    → (at : Input) → (before after : List ℕ) → at.bytes ≡ before ++ (text ++ after) → p ≡ at.place + length before → HasEmptyInit at place
among p text [] place s any at before after parts starts = absurd any
among p text (x ∷ xs) place s (inl here) at before after parts starts =
    let (first, others, joined, first_spelled, others_spelled) = s in
    let h = here_of p first after x place first_spelled here in
    let split : text ++ after ≡ first ++ (others ++ after) = ap (λ (t : List ℕ). t ++ after) joined ∙ append_assoc first others after in
    record {
      before = before;
      text = first;
      after = others ++ after;
      parts = parts ∙ ap (λ (t : List ℕ). before ++ t) split;
      starts = h.0 ∙ starts;
      type = x.value.type;
      spelled = h.1;
    }
among p text (x ∷ xs) place s (inr there) at before after parts starts =
    let (first, others, joined, first_spelled, others_spelled) = s in
    let split : text ++ after ≡ first ++ (others ++ after) = ap (λ (t : List ℕ). t ++ after) joined ∙ append_assoc first others after in
    among (p + length first) others xs place others_spelled there.1 at (before ++ first) after
    (parts ∙ ap (λ (t : List ℕ). before ++ t) split ∙ sym (append_assoc before first (others ++ after)))
    (omega (arith, starts, length-append before first))

-- The result of a search among the tables from i on is the result for all tables.
abbrev pub FoundFrom : List PlacedTable → ℕ → Type 0
FoundFrom ts i = (r : Option ℕ) → FindsEmpty (drop i ts) r → FindsEmpty ts r

module _ (ts : List PlacedTable) (i : ℕ) (x d : PlacedTable) (lt : i < length ts) (same : x ≡ get_or ts i d) where
  next : (r : Option ℕ) → FindsEmpty (x ∷ drop (i + 1) ts) r → FindsEmpty (drop i ts) r
  next r h =
      let there : drop i ts ≡ get_or ts i d ∷ drop (i + 1) ts = at_drop_more (λ (xs : List PlacedTable). xs) ts i d lt in
      subst (λ (xs : List PlacedTable). FindsEmpty xs r) (sym there) (subst (λ (y : PlacedTable). FindsEmpty (y ∷ drop (i + 1) ts) r) same h)

  -- If the next table does not have an empty initialiser, the search continues after it.
  passed : (IsEmptyInit x.value.init → ⊥) → (r : Option ℕ) → FindsEmpty (drop (i + 1) ts) r → FindsEmpty (x ∷ drop (i + 1) ts) r
  passed ne None h = (has_none x.value.init ne, h)
  passed ne (Some place) h = inr (has_none x.value.init ne, h)

  pub found_more : (IsEmptyInit x.value.init → ⊥) → FoundFrom ts i → FoundFrom ts (i + 1)
  found_more ne h r there = h r (next r (passed ne r there))

  -- If the next table has an empty initialiser, it is the result.
  pub found_here : IsEmptyInit x.value.init → FoundFrom ts i → FindsEmpty ts (Some x.place)
  found_here e h = h (Some x.place) (next (Some x.place) (inl (refl, e)))

-- If no tables remain, there is no table with an empty initialiser.
pub found_none : (ts : List PlacedTable) (i : ℕ) → length ts ≤ i → FoundFrom ts i → FindsEmpty ts None
found_none ts i le h = h None (subst (λ (xs : List PlacedTable). FindsEmpty xs None) (sym (drop_of_length-le ts le)) tt)

-- If one of the tables of a section has an empty initialiser, this is a reason for `EmptyTableInit`.
pub section_empty : (at after : Input) (ts : List PlacedTable) (place : ℕ) → (vec (value_with_place table)).parse at ≡ Some (ts, after) → FirstIsEmpty place ts
    → (content_reasons TableSection at).tables place
section_empty at after ts place read any =
    let s = (vec (value_with_place table)).sound at (ts, after) read in
    let ((count, tables), kept, (front, rest, joined, count_spelled, (many, spelled))) = s.spelled in
    let same : tables ≡ ts = some_is tables ts kept in
    let starts : ℕ = at.place + length front in
    let items : AreItems (value_with_place table) starts rest ts =
    subst (λ (xs : List PlacedTable). AreItems (value_with_place table) starts rest xs) same spelled in
    let split : at.bytes ≡ front ++ (rest ++ after.bytes) =
    s.parts ∙ ap (λ (t : List ℕ). t ++ after.bytes) joined ∙ append_assoc front rest after.bytes in (
      among starts rest ts place items any at front after.bytes split refl,
      λ x e.
          let b = alone_some (vec (value_with_place table)) at x e in
          let are : ts ≡ x = ap (λ (y : List PlacedTable × Input). y.0) (some_is (ts, after) (x, b.0) (sym read ∙ b.1)) in
          (x, refl, subst (FirstIsEmpty place) are any),
    )
