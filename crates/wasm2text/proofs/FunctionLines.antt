-- The lines of a function, among the lines of a text.
use Rattle.std.specs.Prelude.{◌≡◌, ℕ, ◌+◌, ◌-◌, ◌<◌, ◌≤◌, List, [], ◌∷◌, ◌++◌, Bool, true, false, ◌||◌, Option, IfSome, length, slice_get, slice_range}
use Rattle.std.specs.Borrow.{Bor}
use Rattle.std.specs.Option.{option_map}
use Rattle.std.proofs.Common.{refl, sym, ap, ◌∙◌, subst, zero, suc, take, drop, get_or, arith, inl, inr, append_assoc, append-nil}
use Rattle.std.proofs.lemmas.List.{drop_all, at_drop_more, get_or-map, length-map, length-drop, length-take-le, take-append-drop, take_all}
use Rattle.std.proofs.Math.Seq.{drop-nil}
use Rattle.std.proofs.lemmas.Bool.{cases_lt}
use Rattle.std.proofs.lemmas.List.Folds.{list_any_more}
use Rattle.std.proofs.lemmas.Option.{slice_get-get_or, slice_get-map, slice_get_past}
use Rattle.wasmprinter_spec.specs.Lines.{TextLine, joined_lines}
use Rattle.wasmprinter.specs.Found.{text_lines}
use Rattle.wasm2text.specs.declared.function_search.PlaceRange.{PlaceRange}
use Rattle.wasm2text.specs.FunctionText.{is_in, any_in, IsInAt, IsShown, IsTextOfRange, StartsAt, EndsAt}
use Rattle.wasm2text.proofs.ExcerptLines.{range_lines}

-- A line that the program has, as a line of the text.
abbrev view : Option ℕ × Bor (List ℕ) → TextLine
view line = (line.0, line.1.now)

pub length_lines : (lines : List (Option ℕ × Bor (List ℕ))) → length (text_lines lines) ≡ length lines
length_lines lines = length-map lines view

within : (lines : List (Option ℕ × Bor (List ℕ))) (i : ℕ) → i < length lines → i < length (text_lines lines)
within lines i lt = omega (arith, lt, length_lines lines)

-- Whether a line has a place in the range, by the program's line.
pub in_at : (range : PlaceRange) (lines : List (Option ℕ × Bor (List ℕ))) (i : ℕ) (d : Option ℕ × Bor (List ℕ)) → i < length lines →
    is_in range (get_or lines i d).0 ≡ true → IsInAt range (text_lines lines) i
in_at range lines i d lt e =
    subst (λ (o : Option TextLine). IfSome o (λ line. is_in range line.0 ≡ true))
    (sym (slice_get-map view lines i ∙ ap (option_map view) (slice_get-get_or lines i d lt))) e

-- There is no line after the last one.
pub in_past : (range : PlaceRange) (lines : List TextLine) (i : ℕ) → length lines ≤ i → IsInAt range lines i
in_past range lines i past = subst (λ (o : Option TextLine). IfSome o (λ line. is_in range line.0 ≡ true)) (sym (slice_get_past lines i past)) tt

-- One more line without a place in the range, after lines without one or before them.
pub none_more : (range : PlaceRange) (lines : List (Option ℕ × Bor (List ℕ))) (i : ℕ) (d : Option ℕ × Bor (List ℕ)) → i < length lines →
    is_in range (get_or lines i d).0 ≡ false → any_in range (take i (text_lines lines)) ≡ false →
    any_in range (take (i + 1) (text_lines lines)) ≡ false
none_more range lines i d lt e before =
    list_any_more (λ (line : TextLine). is_in range line.0) (text_lines lines) i (view d) (within lines i lt)
    ∙ ap (λ (b : Bool). b || is_in range (get_or (text_lines lines) i (view d)).0) before
    ∙ ap (λ (line : TextLine). is_in range line.0) (get_or-map view lines i d (view d) lt) ∙ e

pub none_before : (range : PlaceRange) (lines : List (Option ℕ × Bor (List ℕ))) (end : ℕ) (d : Option ℕ × Bor (List ℕ)) → 0 < end → end ≤ length lines →
    is_in range (get_or lines (end - 1) d).0 ≡ false → any_in range (drop end (text_lines lines)) ≡ false →
    any_in range (drop (end - 1) (text_lines lines)) ≡ false
none_before range lines end d some le e after =
    let lt : end - 1 < length lines = omega (arith, some, le) in
    let same : end - 1 + 1 ≡ end = omega (arith, some) in
    at_drop_more (any_in range) (text_lines lines) (end - 1) (view d) (within lines (end - 1) lt)
    ∙ ap (λ (line : TextLine). is_in range line.0 || any_in range (drop (end - 1 + 1) (text_lines lines))) (get_or-map view lines (end - 1) d (view d) lt)
    ∙ ap (λ (b : Bool). b || any_in range (drop (end - 1 + 1) (text_lines lines))) e
    ∙ ap (λ (i : ℕ). any_in range (drop i (text_lines lines))) same ∙ after

-- If there are no more lines, no line has a place in the range.
pub none_of_all : (range : PlaceRange) (lines : List (Option ℕ × Bor (List ℕ))) (i : ℕ) → length lines ≤ i →
    any_in range (take i (text_lines lines)) ≡ false → any_in range (take (length lines) (text_lines lines)) ≡ false
none_of_all range lines i past e =
    ap (any_in range)
    (take_all (length lines) (text_lines lines) (omega (arith, length_lines lines))
    ∙ sym (take_all i (text_lines lines) (omega (arith, length_lines lines, past)))) ∙ e

-- ---- The lines between two indices

drop_drop : (n k : ℕ) (xs : List TextLine) → drop n (drop k xs) ≡ drop (k + n) xs
drop_drop n zero xs = let e : n ≡ 0 + n = omega arith in ap (λ (j : ℕ). drop j xs) e
drop_drop n (suc k) [] = drop-nil n ∙ sym (drop-nil (suc k + n))
drop_drop n (suc k) (x ∷ xs) = let e : suc (k + n) ≡ suc k + n = omega arith in drop_drop n k xs ∙ ap (λ (j : ℕ). drop j (x ∷ xs)) e

get_drop : (xs : List TextLine) (n i : ℕ) → slice_get (drop n xs) i ≡ slice_get xs (n + i)
get_drop xs zero i = let e : i ≡ 0 + i = omega arith in ap (slice_get xs) e
get_drop [] (suc n) i = refl
get_drop (x ∷ xs) (suc n) i = let e : suc (n + i) ≡ suc n + i = omega arith in get_drop xs n i ∙ ap (slice_get (x ∷ xs)) e

get_take : (xs : List TextLine) (n i : ℕ) → i < n → slice_get (take n xs) i ≡ slice_get xs i
get_take xs zero i lt = absurd (omega (arith, lt))
get_take [] (suc n) i lt = refl
get_take (x ∷ xs) (suc n) zero lt = refl
get_take (x ∷ xs) (suc n) (suc i) lt = get_take xs n i (omega (arith, lt))

get_between : (xs : List TextLine) (first end i : ℕ) → first + i < end → slice_get (slice_range xs first end) i ≡ slice_get xs (first + i)
get_between xs first end i lt = get_take (drop first xs) (end - first) i (omega (arith, lt)) ∙ get_drop xs first i

parts : (xs : List TextLine) (first end : ℕ) → first ≤ end → xs ≡ take first xs ++ (slice_range xs first end ++ drop end xs)
parts xs first end le =
    let same : first + (end - first) ≡ end = omega (arith, le) in
    sym (take-append-drop first xs)
    ∙ ap (λ (ys : List TextLine). take first xs ++ ys)
    (sym (take-append-drop (end - first) (drop first xs))
    ∙ ap (λ (ys : List TextLine). slice_range xs first end ++ ys) (drop_drop (end - first) first xs ∙ ap (λ (k : ℕ). drop k xs) same))

length_between : (xs : List TextLine) (first end : ℕ) → first ≤ end → end ≤ length xs → length (slice_range xs first end) ≡ end - first
length_between xs first end le within =
    length-take-le (end - first) (drop first xs) (let left : length (drop first xs) ≡ length xs - first = length-drop first xs in omega (arith, left, le, within))

in_between : (range : PlaceRange) (xs : List TextLine) (first end i j : ℕ) → first + i < end → j ≡ first + i → IsInAt range xs j →
    IsInAt range (slice_range xs first end) i
in_between range xs first end i j lt e is =
    subst (λ (o : Option TextLine). IfSome o (λ line. is_in range line.0 ≡ true))
    (ap (slice_get xs) e ∙ sym (get_between xs first end i lt)) is

-- The lines from the first one up to the last one that have a place in the range.
pub shown_between : (range : PlaceRange) (xs : List TextLine) (first end : ℕ) → StartsAt xs range first → EndsAt xs range first end →
    IsShown xs range (slice_range xs first end)
shown_between range xs first end starts ends =
    let len : length (slice_range xs first end) ≡ end - first = length_between xs first end ends.0 ends.1 in
    record {
      before = take first xs;
      after = drop end xs;
      are = parts xs first end ends.0;
      none_before = starts.1;
      none_after = ends.2;
      first = elim (cases_lt first end) [
        | inl lt ↦ in_between range xs first end 0 first (omega (arith, lt)) (omega arith) starts.2
        | inr ge ↦ in_past range (slice_range xs first end) 0 (omega (arith, len, ge))
      ];
      last = elim (cases_lt first end) [
        | inl lt ↦ in_between range xs first end (length (slice_range xs first end) - 1) (end - 1) (omega (arith, lt, len)) (omega (arith, lt, len)) (ends.3 lt)
        | inr ge ↦ in_past range (slice_range xs first end) (length (slice_range xs first end) - 1) (omega (arith, len, ge))
      ];
    }

-- ---- The text of lines

-- After one more line, the lines that are left complete the text.
pub join_step : (old new all : List ℕ) (lines : List (Option ℕ × Bor (List ℕ))) (i : ℕ) (d : Option ℕ × Bor (List ℕ)) → i < length lines →
    new ≡ old ++ (get_or lines i d).1.now → old ++ joined_lines (drop i (text_lines lines)) ≡ all →
    new ++ joined_lines (drop (i + 1) (text_lines lines)) ≡ all
join_step old new all lines i d lt pushed so_far =
    let rest : List ℕ = joined_lines (drop (i + 1) (text_lines lines)) in
    ap (λ (t : List ℕ). t ++ rest) pushed
    ∙ append_assoc old (get_or lines i d).1.now rest
    ∙ ap (λ (t : List ℕ). old ++ t)
    (sym (at_drop_more joined_lines (text_lines lines) i (view d) (within lines i lt)
    ∙ ap (λ (line : TextLine). line.1 ++ rest) (get_or-map view lines i d (view d) lt)))
    ∙ so_far

-- If no line is left, the text is complete.
pub join_end : (text all : List ℕ) (lines : List (Option ℕ × Bor (List ℕ))) (i : ℕ) → length lines ≤ i →
    text ++ joined_lines (drop i (text_lines lines)) ≡ all → text ≡ all
join_end text all lines i past so_far =
    sym (append-nil text)
    ∙ ap (λ (rest : List TextLine). text ++ joined_lines rest) (sym (drop_all i (text_lines lines) (simp length-map past)))
    ∙ so_far

-- The text of these lines, by the lines that the program has.
pub text_of_collected : (lines : List (Option ℕ × Bor (List ℕ))) (given : List TextLine) (range : PlaceRange) (first end : ℕ) (text : List ℕ) →
    text_lines lines ≡ given → StartsAt (text_lines lines) range first → EndsAt (text_lines lines) range first end →
    text ≡ joined_lines (text_lines (slice_range lines first end)) → IsTextOfRange given range text
text_of_collected lines given range first end text all starts ends is =
    subst (λ (ls : List TextLine). IsTextOfRange ls range text) all (
      slice_range (text_lines lines) first end,
      shown_between range (text_lines lines) first end starts ends,
      is ∙ ap joined_lines (range_lines lines first end),
    )
