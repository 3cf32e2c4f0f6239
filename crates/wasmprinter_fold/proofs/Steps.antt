-- The first place of a list that consists of parts.
use Rattle.std.specs.Prelude.{◌≡◌, ℕ, suc, ◌+◌, ◌-◌, List, [], ◌∷◌, ◌++◌, map, drop, cond, Bool, true, false, if◌then◌else◌, get_or, length, ◌<◌, codes, bytes_eq, is_some, Option, Result, Ok, Err, None, Some, slice_get}
use Rattle.std.specs.List.{flat_map}
use Rattle.std.specs.Result.{IsErrAnd}
use Rattle.std.proofs.Common.{refl, sym, ap, ◌∙◌, add-one, drop-cons, arith, true≢false}
use Rattle.std.proofs.lemmas.List.Concat.{flat_map_single}
use Rattle.std.proofs.lemmas.List.{append_assoc}
use Rattle.std.proofs.lemmas.Grind.{flat_map-append}
use Rattle.std.proofs.lemmas.Option.{slice_get_within, get_or_from_slice_get}
use Rattle.wasmprinter_bytes.specs.declared.library_error.Error.{Error}
use Rattle.wasmprinter_spec.specs.Grammar.{Placed}
use Rattle.wasmprinter_spec.specs.Operator.{Operator}
use Rattle.wasmprinter_spec.specs.Instructions.{Closed}
use Rattle.wasmprinter_spec.specs.Table.{role_of}
use Rattle.wasmprinter_spec.specs.Customs.Hints.{Hint, FunctionHints, next_hint, hints_after, hints_of_next, entries_after, last_named, hints_by, hints_of}
use Rattle.wasmprinter_spec.specs.Placed.{Custom, CustomEntry, Global, PlacedFunction, PlacedModule}
use Rattle.wasmprinter_spec.specs.Options.{Options}
use Rattle.wasmprinter_spec.specs.Folding.Code.{is_try}
use Rattle.wasmprinter_spec.specs.Folding.Refusals.{Operators, init_list, element_lists, data_lists, lists_before_code, body_lists, legacy_places_in, legacy_places, place_if_misplaced, misplaced_hints_in, misplaced_hints_from}
use Rattle.wasmprinter_decoder.specs.Segments.{constants_of}
use Rattle.wasmprinter_ops.specs.Operators.{pairs}
use Rattle.wasmprinter_ops.proofs.Pairs.{first-pair, no-pair}
use Rattle.wasmprinter_fold.specs.Refused.{error_of_first}

-- ---- Lists of places

-- If the first part of a list has a place, the error is that of the first part.
pub front_refused : (f : ℕ → Error) (all front rest : List ℕ) (e : Error) → all ≡ front ++ rest → error_of_first f front ≡ Err e → error_of_first f all ≡ Err e
front_refused f all [] rest e is r = cc
front_refused f all (x ∷ xs) rest e is r = rw is r

-- If the first part of a list has no place, the error is that of the rest.
pub front_passed : (f : ℕ → Error) (all front rest : List ℕ) → all ≡ front ++ rest → error_of_first f front ≡ Ok tt → error_of_first f rest ≡ error_of_first f all
front_passed f all [] rest is r = ap (error_of_first f) (sym is)
front_passed f all (x ∷ xs) rest is r = cc

-- An error that is forwarded is the error of the call.
pub handed_on : (r : Result (Unit {0}) Error) (e : Error) → IsErrAnd r (λ y. y ≡ e) → r ≡ Err e
handed_on (Ok x) e h = absurd h
handed_on (Err y) e h = ap Err h

-- ---- Operators, one by one

-- The places of legacy operators in a list are that of the first operator, if it is one, and those in the rest.
pub legacy_next : (os rest : Operators) (place : ℕ) (o : Operator) → pairs os ≡ (place, o) ∷ pairs rest →
    legacy_places_in os ≡ cond (is_try (role_of o.opcode)) (place ∷ legacy_places_in rest) (legacy_places_in rest)
legacy_next os rest place o e = ap legacy_places_in (first-pair os rest (place, o) e)

-- An empty list has no legacy operators.
pub legacy_none : (os : Operators) → pairs os ≡ [] → legacy_places_in os ≡ []
legacy_none os e = ap legacy_places_in (no-pair os e)

-- The places of misplaced hints in a list are that of the first operator's hint, if it is misplaced, and those in
-- the rest.
pub misplaced_next : (body : ℕ) (hs : List (Placed Hint)) (os rest : Operators) (place : ℕ) (o : Operator) → pairs os ≡ (place, o) ∷ pairs rest →
    misplaced_hints_in body hs os ≡ place_if_misplaced (role_of o.opcode) (next_hint (place - body) hs) ++ misplaced_hints_in body (hints_after (place - body) hs) rest
misplaced_next body hs os rest place o e = ap (misplaced_hints_in body hs) (first-pair os rest (place, o) e)

-- An empty list has no misplaced hints.
pub misplaced_none : (body : ℕ) (hs : List (Placed Hint)) (os : Operators) → pairs os ≡ [] → misplaced_hints_in body hs os ≡ []
misplaced_none body hs os e = ap (misplaced_hints_in body hs) (no-pair os e)

-- ---- Functions, one by one

-- The functions from index i on are the function with index i and the others.
function_next : (i : ℕ) (fs : List PlacedFunction) (f : PlacedFunction) → slice_get fs i ≡ Some f → drop i fs ≡ f ∷ drop (i + 1) fs
function_next i fs f e = rw (add-one, drop-cons fs i f (slice_get_within fs i f e)) (ap (λ y. y ∷ drop (suc i) fs) (get_or_from_slice_get fs i f f e))

-- The places of legacy operators in the functions from index i on are those in function i and those in the others.
pub bodies_next : (i : ℕ) (fs : List PlacedFunction) (f : PlacedFunction) → slice_get fs i ≡ Some f →
    flat_map legacy_places_in (map (λ f. f.body.value.operators) (drop i fs))
    ≡ legacy_places_in f.body.value.operators ++ flat_map legacy_places_in (map (λ f. f.body.value.operators) (drop (i + 1) fs))
bodies_next i fs f e = ap (λ (gs : List PlacedFunction). flat_map legacy_places_in (map (λ f. f.body.value.operators) gs)) (function_next i fs f e)

-- The places of misplaced hints in the functions from index i on, whose numbers start at k + i, are those in the
-- first and those in the others.
pub hints_next : (es : List FunctionHints) (k i : ℕ) (fs : List PlacedFunction) (f : PlacedFunction) → slice_get fs i ≡ Some f →
    misplaced_hints_from es (k + i) (drop i fs)
    ≡ misplaced_hints_in f.body.place (hints_of_next (k + i) es) f.body.value.operators
    ++ misplaced_hints_from (entries_after (k + i) es) (k + (i + 1)) (drop (i + 1) fs)
hints_next es k i fs f e =
    let number : (k + i) + 1 ≡ k + (i + 1) = omega (arith) in
    ap (misplaced_hints_from es (k + i)) (function_next i fs f e)
    ∙ ap (λ n. misplaced_hints_in f.body.place (hints_of_next (k + i) es) f.body.value.operators ++ misplaced_hints_from (entries_after (k + i) es) n (drop (i + 1) fs)) number

-- ---- Hint sections

-- If a section was found before, one is still found after the next section.
either_named : (b : Bool) (x : Custom) (last : Option Custom) → is_some last ≡ true → is_some (if b then Some x else last) ≡ true
either_named true x last h = refl
either_named false x last h = h

-- If a section was found before, one is still found after all others.
still_named : (n : List ℕ) (last : Option Custom) (customs : List CustomEntry) → is_some last ≡ true → is_some (last_named n last customs) ≡ true
still_named n last [] h = h
still_named n last (c ∷ customs) h = still_named n (if bytes_eq c.section.value.name n then Some c.section.value else last) customs (either_named (bytes_eq c.section.value.name n) c.section.value last h)

-- If a section has the name, a section with that name is found.
pub one_named : (n : List ℕ) (customs : List CustomEntry) (i : ℕ) (c : CustomEntry) → i < length customs → c ≡ get_or customs i c → bytes_eq c.section.value.name n ≡ true →
    is_some (last_named n None (drop i customs)) ≡ true
one_named n customs i c lt is named =
    let next : drop i customs ≡ c ∷ drop (suc i) customs = drop-cons customs i c lt ∙ ap (λ y. y ∷ drop (suc i) customs) (sym is) in
    ap (λ l. is_some (last_named n None l)) next
    ∙ still_named n (if bytes_eq c.section.value.name n then Some c.section.value else None) (drop (suc i) customs) (ap (λ b. is_some (if b then Some c.section.value else None)) named)

-- ---- No hints

-- Without a hint section there are no hints.
none_given : (section : Option Custom) → is_some section ≡ false → hints_by section ≡ []
none_given None e = refl
none_given (Some x) e = absurd (true≢false e)

pub unhinted : (customs : List CustomEntry) → is_some (last_named (codes "metadata.code.branch_hint") None customs) ≡ false → hints_of customs ≡ []
unhinted customs none = none_given (last_named (codes "metadata.code.branch_hint") None customs) none

-- A body without hints has no misplaced hints.
body_hintless : (body : ℕ) (os : Operators) → misplaced_hints_in body [] os ≡ []
body_hintless body [] = refl
body_hintless body (o ∷ os) = body_hintless body os

-- Functions without hints have no misplaced hints.
pub hintless : (k : ℕ) (fs : List PlacedFunction) → misplaced_hints_from [] k fs ≡ []
hintless k [] = refl
hintless k (f ∷ fs) = rw (body_hintless f.body.place f.body.value.operators) (hintless (k + 1) fs)

-- ---- Constant expressions

-- Each item that is an expression has one list.
pub items_single : (es : List (Closed (Placed Operator))) → flat_map (λ (e : Closed (Placed Operator)). e.items ∷ []) es ≡ constants_of es
items_single es = flat_map_single (λ (e : Closed (Placed Operator)). e.items) es

-- The places in constant expressions before the bodies are those in tables, globals and element segments.
pub before_parts : (o : Options) (m : PlacedModule) →
    flat_map legacy_places_in (lists_before_code o m)
    ≡ flat_map legacy_places_in (flat_map init_list m.tables)
    ++ (flat_map legacy_places_in (flat_map (λ (g : Placed (Global (Placed Operator))). g.value.init ∷ []) m.globals)
    ++ flat_map legacy_places_in (flat_map (element_lists o.skeleton) m.elements))
before_parts o m =
    let globals = flat_map_single (λ (g : Placed (Global (Placed Operator))). g.value.init) m.globals in
    let first = flat_map init_list m.tables in
    let second = map (λ (g : Placed (Global (Placed Operator))). g.value.init) m.globals in
    let third = flat_map (element_lists o.skeleton) m.elements in
    rw (globals, flat_map-append legacy_places_in (first ++ second) third, flat_map-append legacy_places_in first second)
    (append_assoc (flat_map legacy_places_in first) (flat_map legacy_places_in second) (flat_map legacy_places_in third))

-- The places in all lists are those before the bodies, in the bodies and in data segments.
pub all_parts : (o : Options) (m : PlacedModule) →
    legacy_places o m
    ≡ flat_map legacy_places_in (lists_before_code o m)
    ++ (flat_map legacy_places_in (body_lists o m) ++ flat_map legacy_places_in (flat_map data_lists m.data_segments))
all_parts o m =
    let before = lists_before_code o m in
    let bodies = body_lists o m in
    let after = flat_map data_lists m.data_segments in
    rw (flat_map-append legacy_places_in (before ++ bodies) after, flat_map-append legacy_places_in before bodies)
    (append_assoc (flat_map legacy_places_in before) (flat_map legacy_places_in bodies) (flat_map legacy_places_in after))
