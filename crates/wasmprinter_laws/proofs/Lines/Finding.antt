-- The place and the line that are found for an operator.
use Rattle.std.proofs.Common.{◌≡◌, ℕ, zero, suc, ◌+◌, cond, inl, inr, List, [], ◌∷◌, Bool, true, Option, Some, None, refl, sym, ap, ◌∙◌, subst, arith}
use Rattle.std.specs.Prelude.{slice_get}
use Rattle.std.proofs.lemmas.Bool.{eqb-true, eq-eqb, cases_Bool}
use Rattle.wasmprinter_spec.specs.Choices.{cond_cases}
use Rattle.wasmprinter_spec.specs.Grammar.{Placed, ◌>>=◌, bind_some, some_is}
use Rattle.wasmprinter_spec.specs.Operator.{Operator}
use Rattle.wasmprinter_spec.specs.Placed.{PlacedModule}
use Rattle.wasmprinter_spec.specs.Layout.{layout}
use Rattle.wasmprinter_spec.specs.Lines.{TextLine, lines_of, line_places, IsOnlyLine, has_place, line_from, operator_at, place_of}
use Rattle.wasmprinter_spec.specs.PlaceLaws.{FindsPlace, FindsLine}
use Rattle.wasmprinter_laws.proofs.Lines.FunctionLines.{function_lines}

has_place_true : (place : ℕ) (x : Option ℕ) → has_place place x ≡ true → x ≡ Some place
has_place_true place None e = absurd cc
has_place_true place (Some p) e = ap (λ (q : ℕ). Some q) (eqb-true p place e)

-- The line that is found has the place.
line_has : (lines : List TextLine) (number place k : ℕ) → line_from number place lines ≡ Some k → (j : ℕ) × (k ≡ number + j) × (slice_get (line_places lines) j ≡ Some (Some place))
line_has [] number place k e = absurd cc
line_has (line ∷ lines) number place k e =
    elim (cond_cases (has_place place line.0) (Some number) (line_from (number + 1) place lines) (Some k) e) [
      | inl here ↦ (0, omega (arith, some_is number k here.1), ap (λ (x : Option ℕ). Some x) (has_place_true place line.0 here.0))
      | inr on ↦
          let (index, counted, has) = line_has lines (number + 1) place k on.1 in
          (suc index, omega (arith, counted), has)
    ]

-- If a line has the place, a line is found.
line_found : (lines : List TextLine) (number place j : ℕ) → slice_get (line_places lines) j ≡ Some (Some place) → (k : ℕ) × (line_from number place lines ≡ Some k)
line_found [] number place j e = absurd cc
line_found (line ∷ lines) number place zero e =
    let test : has_place place line.0 ≡ true = ap (has_place place) (some_is line.0 (Some place) e) ∙ eq-eqb place place refl in
    (number, ap (λ (b : Bool). cond b (Some number) (line_from (number + 1) place lines)) test)
line_found (line ∷ lines) number place (suc j) e =
    elim (cases_Bool (has_place place line.0)) [
      | inl here ↦ (number, ap (λ (b : Bool). cond b (Some number) (line_from (number + 1) place lines)) here)
      | inr on ↦
          let rest = line_found lines (number + 1) place j e in
          (rest.0, ap (λ (b : Bool). cond b (Some number) (line_from (number + 1) place lines)) on ∙ rest.1)
    ]

-- In any lines, the place that is found for an operator is the operator's, and the line that is found has it.
pub finds_place : FindsPlace
finds_place m lines i j number place e =
    let (own, is_there, rest) =
    bind_some (operator_at m i j) (λ o. line_from 0 o.place lines >>= λ k. Some (k, o.place)) (number, place) e in
    let (found, is_found, result) = bind_some (line_from 0 own.place lines) (λ k. Some (k, own.place)) (number, place) rest in
    let same = some_is (found, own.place) (number, place) result in
    let is_number : found ≡ number = ap (λ (x : ℕ × ℕ). x.0) same in
    let is_place : own.place ≡ place = ap (λ (x : ℕ × ℕ). x.1) same in
    let (index, counted, has) = line_has lines 0 own.place found is_found in
    let is_index : index ≡ number = omega (arith, counted, is_number) in (
      own,
      is_there,
      sym is_place,
      subst (λ (x : ℕ). slice_get (line_places lines) x ≡ Some (Some place)) is_index
          (subst (λ (q : ℕ). slice_get (line_places lines) index ≡ Some (Some q)) is_place has),
    )

-- If only one line has the place of an operator, that line is found.
pub only_found : (m : PlacedModule) (lines : List TextLine) (i j number : ℕ) (a : Placed Operator) → operator_at m i j ≡ Some a → IsOnlyLine (line_places lines) a.place number →
    (n : ℕ) × (place_of m lines i j ≡ Some (n, a.place)) × IsOnlyLine (line_places lines) a.place n
only_found m lines i j number a e only =
    let (found, is_found) = line_found lines 0 a.place number only.has in
    let (index, counted, has) = line_has lines 0 a.place found is_found in
    let same : number ≡ found = omega (arith, counted, only.only index has) in (
      found,
      ap (λ (x : Option (Placed Operator)). x >>= λ o. line_from 0 o.place lines >>= λ k. Some (k, o.place)) e
          ∙ ap (λ (x : Option ℕ). x >>= λ k. Some (k, a.place)) is_found,
      subst (IsOnlyLine (line_places lines) a.place) same only,
    )

pub finds_line : FindsLine
finds_line bytes m o answers spelled whole unfolded laid i j =
    let lines : List TextLine = lines_of (layout o answers m) in (
      λ a e.
          let (own, is_there, operator) = bind_some (slice_get m.functions i) (λ f. slice_get f.body.value.operators j) a e in
          let has = function_lines bytes m o answers spelled whole unfolded laid i own is_there in
          let line = (has.at_operator j a operator).among_all in
          only_found m lines i j line.0 a e line.1,
      λ e. ap (λ (x : Option (Placed Operator)). x >>= λ o. line_from 0 o.place lines >>= λ k. Some (k, o.place)) e,
    )
