-- Hints that operators and functions take, one after the other.
use Rattle.std.proofs.Common.{◌≡◌, ℕ, ◌+◌, ◌-◌, ◌<◌, ◌≤◌, ◌==◌, Bool, true, false, length, map, drop, get_or, List, [], ◌∷◌, ◌++◌, Option, Some, None, refl, sym, ap, ◌∙◌, arith, append_assoc, drop-drop}
use Rattle.std.specs.Prelude.{slice_get, bytes_eq, is_none, if◌then◌else◌}
use Rattle.std.proofs.lemmas.List.{map-append, drop_more, drop_all}
use Rattle.wasmprinter_spec.specs.Grammar.{Placed}
use Rattle.wasmprinter_spec.specs.Operator.{Operator}
use Rattle.wasmprinter_spec.specs.Placed.{PlacedFunction, Custom, CustomEntry}
use Rattle.wasmprinter_spec.specs.Customs.Hints.{Hint, FunctionHints, last_named, hints_of_next, entries_after, hints_after}
use Rattle.wasmprinter_ops.specs.Operators.{pairs}
use Rattle.wasmprinter_ops.proofs.Pairs.{first-pair, no-pair}
use Rattle.wasmprinter_hidden.specs.HiddenHints.{left_in_body, left_hints, in_hint}
use Rattle.wasmprinter_hidden.specs.declared.finding.Finding.{Finding}
use Rattle.wasmprinter_hidden.proofs.FunctionParts.{functions_drop}

-- ---- Operators, one by one

-- The next operator takes the next hint, if it has the operator's offset.
pub left_more : (body place : ℕ) (o : Operator) (hs taken : List (Placed Hint)) (os rest : List (Placed Operator)) → pairs os ≡ (place, o) ∷ pairs rest →
    taken ≡ hints_after (place - body) hs → left_in_body body taken rest ≡ left_in_body body hs os
left_more body place o hs taken os rest e is =
    ap (λ xs. left_in_body body xs rest) is ∙ ap (left_in_body body hs) (sym (first-pair os rest (place, o) e))

-- Without operators, all hints are left.
pub left_all : (body : ℕ) (hs : List (Placed Hint)) (os : List (Placed Operator)) → pairs os ≡ [] → hs ≡ left_in_body body hs os
left_all body hs os e = ap (left_in_body body hs) (sym (no-pair os e))

-- Without hints, no hint is left.
left_none : (body : ℕ) (os : List (Placed Operator)) → left_in_body body [] os ≡ []
left_none body [] = refl
left_none body (o ∷ os) = left_none body os

-- ---- Functions, one by one

-- The first function takes the first entry.
taken_first : (i : ℕ) (f : PlacedFunction) (fs : List PlacedFunction) (e : FunctionHints) (es : List FunctionHints) → (e.function == i) ≡ true →
    left_hints i (f ∷ fs) (e ∷ es) ≡ left_in_body f.body.place e.hints f.body.value.operators ++ left_hints (i + 1) fs es
taken_first i f fs e es h = rw h refl

-- The first function takes no entry.
not_taken : (i : ℕ) (fs : List PlacedFunction) (es : List FunctionHints) → hints_of_next i es ≡ [] → entries_after i es ≡ es →
    left_hints i fs es ≡ left_hints (i + 1) (drop 1 fs) es
not_taken i [] es none same = refl
not_taken i (f ∷ fs) es none same =
    ap (λ hs. left_in_body f.body.place hs f.body.value.operators ++ left_hints (i + 1) fs (entries_after i es)) none
    ∙ ap (λ hs. hs ++ left_hints (i + 1) fs (entries_after i es)) (left_none f.body.place f.body.value.operators)
    ∙ ap (left_hints (i + 1) fs) same

-- The first entry is that of another function.
of_another : (i : ℕ) (fs : List PlacedFunction) (e : FunctionHints) (es : List FunctionHints) → (e.function == i) ≡ false →
    left_hints i fs (e ∷ es) ≡ left_hints (i + 1) (drop 1 fs) (e ∷ es)
of_another i fs e es h = not_taken i fs (e ∷ es) (rw h refl) (rw h refl)

-- The functions from index i on take the entries from index t on. Imported functions, k of them, come first.
module _ (k i t : ℕ) (fs : List PlacedFunction) (es : List FunctionHints) where
  next_index : (gs : List PlacedFunction) (xs : List FunctionHints) → left_hints (k + i + 1) gs xs ≡ left_hints (k + (i + 1)) gs xs
  next_index gs xs = ap (λ n. left_hints n gs xs) (omega arith)

  next_functions : (xs : List FunctionHints) → left_hints (k + i + 1) (drop 1 (drop i fs)) xs ≡ left_hints (k + (i + 1)) (drop (i + 1) fs) xs
  next_functions xs = ap (λ gs. left_hints (k + i + 1) gs xs) (drop-drop 1 i fs) ∙ next_index (drop (i + 1) fs) xs

  first_entry : (e : FunctionHints) → t < length es → e ≡ get_or es t e → drop t es ≡ e ∷ drop (t + 1) es
  first_entry e lt is = drop_more es t e lt ∙ ap (λ x. x ∷ drop (t + 1) es) (sym is)

  -- The findings so far, with those of the functions and entries that are left, are these.
  abbrev pub LeftIs : List Finding → List Finding → Type 0
  LeftIs found all = found ++ map in_hint (left_hints (k + i) (drop i fs) (drop t es)) ≡ all

  pub left_taken : (f : PlacedFunction) (e : FunctionHints) (old found all : List Finding) (hs : List (Placed Hint)) → slice_get fs i ≡ Some f →
      t < length es → e ≡ get_or es t e → (e.function == k + i) ≡ true → hs ≡ left_in_body f.body.place e.hints f.body.value.operators →
      found ≡ old ++ map in_hint hs → LeftIs old all → found ++ map in_hint (left_hints (k + (i + 1)) (drop (i + 1) fs) (drop (t + 1) es)) ≡ all
  left_taken f e old found all hs at lt is same left is_found was =
      let rest : List (Placed Hint) = left_hints (k + (i + 1)) (drop (i + 1) fs) (drop (t + 1) es) in
      let step : left_hints (k + i) (drop i fs) (drop t es) ≡ hs ++ rest =
      ap (λ gs. left_hints (k + i) gs (drop t es)) (functions_drop fs i f at)
      ∙ ap (left_hints (k + i) (f ∷ drop (i + 1) fs)) (first_entry e lt is)
      ∙ taken_first (k + i) f (drop (i + 1) fs) e (drop (t + 1) es) same
      ∙ ap (λ xs. xs ++ left_hints (k + i + 1) (drop (i + 1) fs) (drop (t + 1) es)) (sym left)
      ∙ ap (λ xs. hs ++ xs) (next_index (drop (i + 1) fs) (drop (t + 1) es)) in
      ap (λ xs. xs ++ map in_hint rest) is_found ∙ append_assoc old (map in_hint hs) (map in_hint rest)
      ∙ ap (λ xs. old ++ xs) (sym (map-append in_hint hs rest)) ∙ ap (λ xs. old ++ map in_hint xs) (sym step) ∙ was

  pub left_of_another : (e : FunctionHints) (found all : List Finding) → t < length es → e ≡ get_or es t e → (e.function == k + i) ≡ false →
      LeftIs found all → found ++ map in_hint (left_hints (k + (i + 1)) (drop (i + 1) fs) (drop t es)) ≡ all
  left_of_another e found all lt is other was =
      let step : left_hints (k + i) (drop i fs) (drop t es) ≡ left_hints (k + (i + 1)) (drop (i + 1) fs) (drop t es) =
      ap (left_hints (k + i) (drop i fs)) (first_entry e lt is)
      ∙ of_another (k + i) (drop i fs) e (drop (t + 1) es) other
      ∙ ap (left_hints (k + i + 1) (drop 1 (drop i fs))) (sym (first_entry e lt is))
      ∙ next_functions (drop t es) in
      ap (λ xs. found ++ map in_hint xs) (sym step) ∙ was

  pub left_without : (found all : List Finding) → length es ≤ t → LeftIs found all →
      found ++ map in_hint (left_hints (k + (i + 1)) (drop (i + 1) fs) (drop t es)) ≡ all
  left_without found all le was =
      let none : drop t es ≡ [] = drop_all t es le in
      let step : left_hints (k + i) (drop i fs) (drop t es) ≡ left_hints (k + (i + 1)) (drop (i + 1) fs) (drop t es) =
      not_taken (k + i) (drop i fs) (drop t es) (ap (hints_of_next (k + i)) none) (ap (entries_after (k + i)) none ∙ sym none)
      ∙ next_functions (drop t es) in
      ap (λ xs. found ++ map in_hint xs) (sym step) ∙ was

-- ---- Custom sections

-- If a section was found before, one is still found after the next section.
either_named : (b : Bool) (x : Custom) (last : Option Custom) → is_none last ≡ false → is_none (if b then Some x else last) ≡ false
either_named true x last h = refl
either_named false x last h = h

-- If a section was found before, one is still found after all others.
still_named : (n : List ℕ) (last : Option Custom) (customs : List CustomEntry) → is_none last ≡ false → is_none (last_named n last customs) ≡ false
still_named n last [] h = h
still_named n last (c ∷ customs) h =
    still_named n (if bytes_eq c.section.value.name n then Some c.section.value else last) customs (either_named (bytes_eq c.section.value.name n) c.section.value last h)

-- If a section has the name, a section with the name is found.
pub one_named : (n : List ℕ) (customs : List CustomEntry) (i : ℕ) (c : CustomEntry) → i < length customs → c ≡ get_or customs i c →
    bytes_eq c.section.value.name n ≡ true → is_none (last_named n None (drop i customs)) ≡ false
one_named n customs i c lt is named =
    ap (λ cs. is_none (last_named n None cs)) (drop_more customs i c lt ∙ ap (λ x. x ∷ drop (i + 1) customs) (sym is))
    ∙ still_named n (if bytes_eq c.section.value.name n then Some c.section.value else None) (drop (i + 1) customs)
    (ap (λ b. is_none (if b then Some c.section.value else None)) named)
