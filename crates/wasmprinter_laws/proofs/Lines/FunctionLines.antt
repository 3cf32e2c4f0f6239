-- Each function has its lines.
use Rattle.std.proofs.Common.{◌≡◌, ℕ, suc, ◌+◌, ◌<◌, ◌≤◌, inl, inr, List, [], ◌∷◌, ◌++◌, length, Option, Some, None, refl, sym, ap, ◌∙◌, subst, arith}
use Rattle.std.specs.Prelude.{slice_get, option_map}
use Rattle.std.specs.List.{AllByRecursion}
use Rattle.std.proofs.lemmas.Option.{slice_get-map}
use Rattle.wasmprinter_spec.specs.Grammar.{Placed}
use Rattle.wasmprinter_spec.specs.Operator.{Operator}
use Rattle.wasmprinter_spec.specs.Placed.{PlacedFunction}
use Rattle.wasmprinter_spec.specs.Piece.{all_calls}
use Rattle.wasmprinter_spec.specs.Layout.Functions.{locals_place}
use Rattle.wasmprinter_spec.specs.Layout.{module_pieces, layout}
use Rattle.wasmprinter_spec.specs.Lines.{lines_of, line_places, places, hint_places, lines_without, lines_for, IsItsLine}
use Rattle.wasmprinter_spec.specs.Apart.{Rises, IsOutside, place_if_any, locals_places, body_places, IsApart}
use Rattle.wasmprinter_spec.specs.PlaceLaws.{FunctionsHaveLines}
use Rattle.wasmprinter_laws.proofs.Lines.Order.{rises_ends, rises_from}
use Rattle.wasmprinter_laws.proofs.Lines.CodeSection.{apart}
use Rattle.wasmprinter_laws.proofs.Lines.Starts.{places_of_pieces}
use Rattle.wasmprinter_laws.proofs.Lines.Indexes.{get_left, get_right, RisesAmong, once, rises_kept, rises_left, rises_right, rises_each}
use Rattle.wasmprinter_laws.proofs.Lines.Kept.{there, none_among}
use Rattle.wasmprinter_laws.proofs.Lines.FieldLines.{placed_lines}
use Rattle.wasmprinter_laws.proofs.Lines.BodyLines.{some_all, closing_lines, all_rising, IsKept}
use Rattle.wasmprinter_laws.proofs.Lines.ModuleLines.{Stands, module_lines, own_parts, module_begins, module_rises, module_stands}

-- A place within the interval is not outside of it.
inside_not : (low high x : ℕ) → low ≤ x → x < high → IsOutside low high x → ⊥
inside_not low high x above below out = elim out [ inl less ↦ omega (arith, less, above) | inr past ↦ omega (arith, past, below) ]

-- There is one line for each place.
lines_counted : (r : Option ℕ) → length (some_all (place_if_any r)) ≡ lines_for r
lines_counted None = refl
lines_counted (Some place) = refl

locals_first : (r : Option ℕ) (place : ℕ) (others : List (Option ℕ)) → r ≡ Some place → slice_get (some_all (place_if_any r) ++ others) 0 ≡ Some (Some place)
locals_first r place others e = ap (λ (x : Option ℕ). slice_get (some_all (place_if_any x) ++ others) 0) e

module _ (low high : ℕ) (ps : List ℕ) (ls : List (Option ℕ)) (rise : RisesAmong low high low ls) where
  its_line : (place number : ℕ) → low ≤ place → place < high → slice_get (lines_without ps ls) number ≡ Some (Some place) → IsItsLine ps ls place number
  its_line place number above below e =
      let all = there ps ls number (Some place) e in
      record {
        among_kept = record { has = e; only = λ other f. once low high (lines_without ps ls) low other number place (rises_kept low high ps ls low rise) above below f e };
        among_all = (all.0, record { has = all.1; only = λ other f. once low high ls low other all.0 place rise above below f all.1 });
      }

  module _ (f : PlacedFunction) (s : Stands f (lines_without ps ls)) (r : Rises low (body_places f.body) high) where
    header_line : IsItsLine ps ls f.body.place s.at
    header_line =
        let same : s.at + 0 ≡ s.at = omega arith in
        its_line f.body.place s.at r.0 (omega (arith, rises_ends (f.body.place + 1) high _ r.1))
        (subst (λ (k : ℕ). slice_get (lines_without ps ls) k ≡ Some (Some f.body.place)) same (s.stands 0 (Some f.body.place) refl))

    after_header : (n x : ℕ) →
        slice_get (some_all (locals_places f.body.value.locals) ++ (placed_lines f.body.value.operators ++ closing_lines f.body.value.end s.closes)) n ≡ Some (Some x) →
        slice_get (lines_without ps ls) (s.at + 1 + n) ≡ Some (Some x)
    after_header n x e =
        let same : s.at + suc n ≡ s.at + 1 + n = omega arith in
        subst (λ (k : ℕ). slice_get (lines_without ps ls) k ≡ Some (Some x)) same (s.stands (suc n) (Some x) e)

    inner_rise : Rises low (locals_places f.body.value.locals ++ (places f.body.value.operators ++ (f.body.value.end ∷ []))) high
    inner_rise = rises_from low (f.body.place + 1) high _ (omega (arith, r.0)) r.1

    locals_line : (place : ℕ) → locals_place f.body.value.locals ≡ Some place → IsItsLine ps ls place (s.at + 1)
    locals_line place e =
        let others : List (Option ℕ) = placed_lines f.body.value.operators ++ closing_lines f.body.value.end s.closes in
        let inner : Rises low (locals_places f.body.value.locals) high =
        rises_left low high (locals_places f.body.value.locals) (places f.body.value.operators ++ (f.body.value.end ∷ [])) inner_rise in
        let bounds : Rises low (place ∷ []) high = subst (λ (x : Option ℕ). Rises low (place_if_any x) high) e inner in
        let same : s.at + 1 + 0 ≡ s.at + 1 = omega arith in
        its_line place (s.at + 1) bounds.0 (omega (arith, bounds.1))
        (subst (λ (k : ℕ). slice_get (lines_without ps ls) k ≡ Some (Some place)) same (after_header 0 place (locals_first (locals_place f.body.value.locals) place others e)))

    operator_line : (j : ℕ) (o : Placed Operator) → slice_get f.body.value.operators j ≡ Some o → IsItsLine ps ls o.place (s.at + 1 + lines_for (locals_place f.body.value.locals) + j)
    operator_line j o e =
        let locals : List (Option ℕ) = some_all (locals_places f.body.value.locals) in
        let operators : List (Placed Operator) = f.body.value.operators in
        let closing : List (Option ℕ) = closing_lines f.body.value.end s.closes in
        let rising : Rises low (places operators) high =
        rises_left low high (places operators) (f.body.value.end ∷ []) (rises_right low high (locals_places f.body.value.locals) (places operators ++ (f.body.value.end ∷ [])) inner_rise) in
        let bounds : Rises low (o.place ∷ []) high = rises_each (λ x. x.place ∷ []) operators low high j o rising e in
        let own : slice_get (placed_lines operators) j ≡ Some (Some o.place) = slice_get-map (λ x. Some x.place) operators j ∙ ap (option_map (λ x. Some x.place)) e in
        let there = after_header (length locals + j) o.place (get_right locals (placed_lines operators ++ closing) j (Some o.place) (get_left (placed_lines operators) closing j (Some o.place) own)) in
        let counted : length locals ≡ lines_for (locals_place f.body.value.locals) = lines_counted (locals_place f.body.value.locals) in
        let same : s.at + 1 + (length locals + j) ≡ s.at + 1 + lines_for (locals_place f.body.value.locals) + j = omega (arith, counted) in
        its_line o.place (s.at + 1 + lines_for (locals_place f.body.value.locals) + j) bounds.0 (omega (arith, bounds.1))
        (subst (λ (k : ℕ). slice_get (lines_without ps ls) k ≡ Some (Some o.place)) same there)

pub function_lines : FunctionsHaveLines
unfolding layout
function_lines bytes m o answers spelled whole unfolded laid i f e =
    let a : IsApart m = apart bytes m spelled in
    let ps : List ℕ = hint_places m in
    let begins = module_begins o answers m laid in
    let ls : List (Option ℕ) = line_places (lines_of (all_calls o (module_pieces o answers m))) in
    let are : ls ≡ module_lines begins.0 m.size (own_parts o answers m) = places_of_pieces o (module_pieces o answers m) ∙ begins.1 in
    let rise : RisesAmong a.low a.high a.low ls = subst (RisesAmong a.low a.high a.low) (sym are) (module_rises o answers m a unfolded begins.0 whole) in
    let body : Rises a.low (body_places f.body) a.high = rises_each (λ g. body_places g.body) m.functions a.low a.high i f a.bodies e in
    let own : AllByRecursion (IsKept ps) (body_places f.body) =
    all_rising (IsKept ps) a.low a.high (body_places f.body) (λ x above below. none_among (IsOutside a.low a.high) x (inside_not a.low a.high x above below) ps a.hints) body in
    let stands : Stands f (lines_without ps ls) = subst (λ (xs : List (Option ℕ)). Stands f (lines_without ps xs)) (sym are) (module_stands o answers m begins.0 unfolded whole i f e own) in
    record {
      header = stands.at;
      at_header = header_line a.low a.high ps ls rise f stands body;
      at_locals = locals_line a.low a.high ps ls rise f stands body;
      at_operator = operator_line a.low a.high ps ls rise f stands body;
    }
