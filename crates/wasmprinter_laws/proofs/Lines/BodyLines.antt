-- The lines of one function: they follow the places of its body. Also the lines that remain without those of
-- hints.
use Rattle.std.proofs.Common.{◌≡◌, ℕ, zero, suc, ◌+◌, ◌-◌, ◌<◌, ◌≤◌, ◌==◌, ◌||◌, List, [], ◌∷◌, ◌++◌, Bool, true, false, cond, Option, Some, None, map, refl, ap, ap₂, ◌∙◌, codes, append_assoc, arith}
use Rattle.std.specs.Prelude.{replicate}
use Rattle.std.specs.List.{AllByRecursion, flat_map}
use Rattle.std.proofs.lemmas.Bool.{ne_eqb}
use Rattle.std.proofs.lemmas.List.Concat.{flat_map-append}
use Rattle.wasmprinter_spec.specs.Grammar.{Placed}
use Rattle.wasmprinter_spec.specs.Types.{ValType, signature_at}
use Rattle.wasmprinter_spec.specs.Row.{Func}
use Rattle.wasmprinter_spec.specs.Labels.{Named}
use Rattle.wasmprinter_spec.specs.Names.{Names}
use Rattle.wasmprinter_spec.specs.Indexed.{parameter_count}
use Rattle.wasmprinter_spec.specs.Operator.{Operator}
use Rattle.wasmprinter_spec.specs.Customs.Hints.{Hint, next_hint, hints_after}
use Rattle.wasmprinter_spec.specs.Placed.{LocalEntry, PlacedFunction}
use Rattle.wasmprinter_spec.specs.Module.{locals_of}
use Rattle.wasmprinter_spec.specs.Options.{Options}
use Rattle.wasmprinter_spec.specs.Piece.{Piece}
use Rattle.wasmprinter_spec.specs.Layout.Groups.{has_break, close, group_space_at}
use Rattle.wasmprinter_spec.specs.Layout.Variables.{Variables, Alone, Together, with_variable, variable_groups, variables_pieces, groups_pieces}
use Rattle.wasmprinter_spec.specs.Layout.Declarations.{Scope, scope_of_function, Folding}
use Rattle.wasmprinter_spec.specs.Layout.Operators.{OverLines, Setting}
use Rattle.wasmprinter_spec.specs.Layout.Functions.{locals_place, local_line, local_pieces, header_pieces, over_lines, result_count, body_by, body_pieces, inner_pieces, function_group, function_pieces}
use Rattle.wasmprinter_spec.specs.Lines.{places, is_among, lines_without}
use Rattle.wasmprinter_spec.specs.Apart.{Rises, place_if_any, locals_places, body_places}
use Rattle.wasmprinter_laws.proofs.Lines.Order.{rises_ends}
use Rattle.wasmprinter_laws.proofs.Lines.Indexes.{IsElsewhere, Follows, follows_none, follows_one, follows_skip, follows_elsewhere, follows_both}
use Rattle.wasmprinter_laws.proofs.Lines.Kept.{kept_out, kept_in, lines_without-append}
use Rattle.wasmprinter_spec.proofs.Each.{all_parts}
use Rattle.wasmprinter_spec.proofs.OneLine.{starts, IsOneLine, both_stay, variables_stay, groups_stay}
use Rattle.wasmprinter_laws.proofs.Lines.OperatorLines.{hint_lines, operator_lines, operators_begin}
use Rattle.wasmprinter_laws.proofs.Lines.FieldLines.{placed_lines, header_stays}
use Rattle.wasmprinter_laws.proofs.Lines.HintLines.{OfHints, of_next_hint, of_hint_after}

abbrev pub some_all : List ℕ → List (Option ℕ)
some_all ps = map (λ p. Some p) ps

-- The line of a closing parenthesis, if it has a line of its own
abbrev pub closing_lines : ℕ → Bool → List (Option ℕ)
closing_lines place true = Some place ∷ []
closing_lines place false = []

pub close_begins : (place nesting : ℕ) (b : Bool) → flat_map starts (close (Some place) nesting b) ≡ closing_lines place b
close_begins place nesting true = refl
close_begins place nesting false = refl

-- The lines of a function with these hints
abbrev pub own_lines : Bool → List (Placed Hint) → PlacedFunction → List (Option ℕ)
own_lines b hs f =
    Some f.body.place
    ∷ (some_all (locals_places f.body.value.locals) ++ (operator_lines f.body.place hs f.body.value.operators ++ closing_lines f.body.value.end b))

-- The lines of a function without those of hints
abbrev pub kept_lines : Bool → PlacedFunction → List (Option ℕ)
kept_lines b f =
    Some f.body.place
    ∷ (some_all (locals_places f.body.value.locals) ++ (placed_lines f.body.value.operators ++ closing_lines f.body.value.end b))

-- ---- locals

module _ (names : Names) where
  line_begins : (place : Option ℕ) (g : Variables) (gs : List Variables) → flat_map starts (local_line names place (g ∷ gs)) ≡ place ∷ []
  unfolding local_line
  line_begins place g gs =
      let stays : IsOneLine (variables_pieces names (codes "local") g ++ groups_pieces names (codes "local") gs) =
      both_stay (variables_stay names (codes "local") g) (groups_stay names (codes "local") gs) in
      ap (λ (ls : List (Option ℕ)). place ∷ ls) stays.begins

  with_begins : (place : Option ℕ) (n : Option Named) (t : ValType) (gs : List Variables) → flat_map starts (local_line names place (with_variable n t gs)) ≡ place ∷ []
  with_begins place (Some n) t gs = line_begins place (Alone n t) gs
  with_begins place None t [] = line_begins place (Together (t ∷ [])) []
  with_begins place None t (Together ts ∷ gs) = line_begins place (Together (t ∷ ts)) gs
  with_begins place None t (Alone n u ∷ gs) = line_begins place (Together (t ∷ [])) (Alone n u ∷ gs)

  module _ (named : ℕ → Option Named) where
    locals_step : (place k count : ℕ) (type : ValType) (rest : List ValType) (r : Option ℕ) →
        flat_map starts (local_line names r (variable_groups named k rest)) ≡ some_all (place_if_any r) →
        flat_map starts (local_line names (cond (count == 0) r (Some place)) (variable_groups named k (replicate count type ++ rest))) ≡ some_all (place_if_any (cond (count == 0) r (Some place)))
    locals_step place k zero type rest r h = h
    locals_step place k (suc n) type rest r h =
        rw (ne_eqb (suc n) 0 (λ e. omega (arith, e))) (with_begins (Some place) (named k) type (variable_groups named (k + 1) (replicate n type ++ rest)))

    nothing_begins : flat_map starts (local_line names None []) ≡ []
    unfolding local_line
    nothing_begins = refl

    locals_begin : (k : ℕ) (es : List (Placed LocalEntry)) → flat_map starts (local_line names (locals_place es) (variable_groups named k (locals_of es))) ≡ some_all (locals_places es)
    locals_begin k [] = nothing_begins
    locals_begin k (e ∷ es) = locals_step e.place k e.value.count e.value.type (locals_of es) (locals_place es) (locals_begin k es)

-- ---- the lines of a function

-- The lines are those of the function, with the line of its closing parenthesis or without.
pub record BeginsOwn (hs : List (Placed Hint)) (f : PlacedFunction) (lines : List (Option ℕ)) : Type 0 where
  pub closes : Bool
  pub are : lines ≡ own_lines closes hs f

-- If operators are not folded, each has a line.
body_begins : (folding : Option Folding) → folding ≡ None → (own : Option ℕ) (s : Setting) → s.form ≡ OverLines → (hs : List (Placed Hint)) (os : List (Placed Operator)) →
    flat_map starts (body_by folding own s hs os) ≡ operator_lines s.body hs os
unfolding body_by
body_begins None flat own s over hs os = operators_begin s over hs true 0 [] os
body_begins (Some f) flat own s over hs os = absurd cc

inner_begins : (s : Scope) → s.folding ≡ None → (hs : List (Placed Hint)) (f : PlacedFunction) →
    flat_map starts (inner_pieces s hs f) ≡ some_all (locals_places f.body.value.locals) ++ operator_lines f.body.place hs f.body.value.operators
unfolding inner_pieces local_pieces body_pieces
inner_begins s flat hs f =
    let count : ℕ = parameter_count (signature_at s.types f.type_index) in
    flat_map-append starts (local_pieces s.names s.function count f.body.value.locals) (body_pieces s f.type_index hs f.body)
    ∙ ap₂ (λ (ls ms : List (Option ℕ)). ls ++ ms) (locals_begin s.names (s.names.locals s.function) count f.body.value.locals)
    (body_begins s.folding flat (result_count s f.type_index) (over_lines s f.body.place) refl hs f.body.value.operators)

group_begins : (skeleton offsets : Bool) (s : Scope) → s.folding ≡ None → (hs : List (Placed Hint)) (f : PlacedFunction) → skeleton ≡ false →
    BeginsOwn hs f (Some f.body.place ∷ flat_map starts (function_group skeleton offsets s hs f))
unfolding function_group group_space_at
group_begins true offsets s flat hs f e = absurd cc
group_begins false offsets s flat hs f e =
    let locals : List (Option ℕ) = some_all (locals_places f.body.value.locals) in
    let operators : List (Option ℕ) = operator_lines f.body.place hs f.body.value.operators in
    let header : List Piece = header_pieces s Func (Some s.function) s.function f.type_index in
    let all : List Piece = header ++ inner_pieces s hs f in
    let closes : Bool = offsets || has_break all in
    let all_begin : flat_map starts all ≡ locals ++ operators =
    flat_map-append starts header (inner_pieces s hs f)
    ∙ ap₂ (λ (ls ms : List (Option ℕ)). ls ++ ms) (header_stays s Func (Some s.function) s.function f.type_index).begins (inner_begins s flat hs f) in
    record {
      closes = closes;
      are = ap (λ (ls : List (Option ℕ)). Some f.body.place ∷ ls)
          (flat_map-append starts all (close (Some f.body.value.end) 1 closes)
          ∙ ap₂ (λ (ls ms : List (Option ℕ)). ls ++ ms) all_begin (close_begins f.body.value.end 1 closes)
          ∙ append_assoc locals operators (closing_lines f.body.value.end closes));
    }

pub function_begins : (o : Options) (s : Scope) → s.folding ≡ None → (i : ℕ) (hs : List (Placed Hint)) (f : PlacedFunction) → o.skeleton ≡ false → BeginsOwn hs f (flat_map starts (function_pieces o s i hs f))
unfolding function_pieces
function_begins o s flat i hs f whole = group_begins o.skeleton o.offsets (scope_of_function s i) flat hs f whole

-- ---- the lines follow the places of the body

module _ (low high : ℕ) where
  some_follow : (ps : List ℕ) → Follows low high ps (some_all ps)
  some_follow [] = follows_none low high
  some_follow (p ∷ ps) = follows_both low high (p ∷ []) ps (Some p ∷ []) (some_all ps) (follows_one low high p) (some_follow ps)

  operators_follow : (body : ℕ) (hs : List (Placed Hint)) (os : List (Placed Operator)) → OfHints (IsElsewhere low high) hs → Follows low high (places os) (operator_lines body hs os)
  operators_follow body hs [] all = follows_none low high
  operators_follow body hs (o ∷ os) all =
      let offset : ℕ = o.place - body in
      let hint : List (Option ℕ) = hint_lines (next_hint offset hs) in
      let rest : List (Option ℕ) = operator_lines body (hints_after offset hs) os in
      follows_both low high [] (o.place ∷ places os) hint (Some o.place ∷ rest)
      (follows_elsewhere low high hint (of_next_hint (IsElsewhere low high) offset hs all))
      (follows_both low high (o.place ∷ []) (places os) (Some o.place ∷ []) rest (follows_one low high o.place)
      (operators_follow body (hints_after offset hs) os (of_hint_after (IsElsewhere low high) offset hs all)))

  closing_follows : (place : ℕ) (b : Bool) → Follows low high (place ∷ []) (closing_lines place b)
  closing_follows place true = follows_one low high place
  closing_follows place false = follows_skip low high place

  pub own_follow : (b : Bool) (hs : List (Placed Hint)) (f : PlacedFunction) → OfHints (IsElsewhere low high) hs → Follows low high (body_places f.body) (own_lines b hs f)
  own_follow b hs f all =
      let locals : List ℕ = locals_places f.body.value.locals in
      let operators : List (Placed Operator) = f.body.value.operators in
      let lines : List (Option ℕ) = operator_lines f.body.place hs operators in
      let end : ℕ = f.body.value.end in
      follows_both low high (f.body.place ∷ []) (locals ++ (places operators ++ (end ∷ []))) (Some f.body.place ∷ []) (some_all locals ++ (lines ++ closing_lines end b))
      (follows_one low high f.body.place)
      (follows_both low high locals (places operators ++ (end ∷ [])) (some_all locals) (lines ++ closing_lines end b) (some_follow locals)
      (follows_both low high (places operators) (end ∷ []) lines (closing_lines end b) (operators_follow f.body.place hs operators all) (closing_follows end b)))

-- ---- the lines without those of hints

-- Increasing places are within their bounds. So a property of all numbers between the bounds holds for each of
-- them.
pub all_rising : (P : ℕ → Type 0) (p q : ℕ) (xs : List ℕ) → ((x : ℕ) → p ≤ x → x < q → P x) → Rises p xs q → AllByRecursion P xs
all_rising P p q [] have h = tt
all_rising P p q (x ∷ xs) have h =
    (have x h.0 (omega (arith, rises_ends (x + 1) q xs h.1)), all_rising P (x + 1) q xs (λ y above below. have y (omega (arith, h.0, above)) below) h.1)

module _ (ps : List ℕ) where
  abbrev pub IsHint : Option ℕ → Type 0
  IsHint x = is_among ps x ≡ true

  abbrev pub IsKept : ℕ → Type 0
  IsKept p = is_among ps (Some p) ≡ false

  all_out : (xs : List (Option ℕ)) → AllByRecursion IsHint xs → lines_without ps xs ≡ []
  all_out [] h = refl
  all_out (x ∷ xs) h = kept_out ps x xs h.0 ∙ all_out xs h.1

  some_kept : (xs : List ℕ) → AllByRecursion IsKept xs → lines_without ps (some_all xs) ≡ some_all xs
  some_kept [] h = refl
  some_kept (x ∷ xs) h = kept_in ps (Some x) (some_all xs) h.0 ∙ ap (λ (ls : List (Option ℕ)). Some x ∷ ls) (some_kept xs h.1)

  operators_kept : (body : ℕ) (hs : List (Placed Hint)) (os : List (Placed Operator)) → OfHints IsHint hs → AllByRecursion IsKept (places os) →
      lines_without ps (operator_lines body hs os) ≡ placed_lines os
  operators_kept body hs [] all own = refl
  operators_kept body hs (o ∷ os) all own =
      let offset : ℕ = o.place - body in
      let hint : List (Option ℕ) = hint_lines (next_hint offset hs) in
      let rest : List (Option ℕ) = operator_lines body (hints_after offset hs) os in
      lines_without-append ps hint (Some o.place ∷ rest)
      ∙ ap₂ (λ (ls ms : List (Option ℕ)). ls ++ ms) (all_out hint (of_next_hint IsHint offset hs all))
      (kept_in ps (Some o.place) rest own.0
      ∙ ap (λ (ls : List (Option ℕ)). Some o.place ∷ ls) (operators_kept body (hints_after offset hs) os (of_hint_after IsHint offset hs all) own.1))

  closing_kept : (place : ℕ) (b : Bool) → IsKept place → lines_without ps (closing_lines place b) ≡ closing_lines place b
  closing_kept place true h = kept_in ps (Some place) [] h
  closing_kept place false h = refl

  pub own_kept : (b : Bool) (hs : List (Placed Hint)) (f : PlacedFunction) → OfHints IsHint hs → AllByRecursion IsKept (body_places f.body) → lines_without ps (own_lines b hs f) ≡ kept_lines b f
  own_kept b hs f all own =
      let locals : List ℕ = locals_places f.body.value.locals in
      let operators : List (Placed Operator) = f.body.value.operators in
      let lines : List (Option ℕ) = operator_lines f.body.place hs operators in
      let closing : List (Option ℕ) = closing_lines f.body.value.end b in
      let (own_locals, after_locals) = all_parts IsKept locals (places operators ++ (f.body.value.end ∷ [])) own.1 in
      let (own_operators, (own_end, _)) = all_parts IsKept (places operators) (f.body.value.end ∷ []) after_locals in
      kept_in ps (Some f.body.place) (some_all locals ++ (lines ++ closing)) own.0
      ∙ ap (λ (ls : List (Option ℕ)). Some f.body.place ∷ ls)
      (lines_without-append ps (some_all locals) (lines ++ closing)
      ∙ ap₂ (λ (ls ms : List (Option ℕ)). ls ++ ms) (some_kept locals own_locals)
      (lines_without-append ps lines closing
      ∙ ap₂ (λ (ls ms : List (Option ℕ)). ls ++ ms) (operators_kept f.body.place hs operators all own_operators)
      (closing_kept f.body.value.end b own_end)))
