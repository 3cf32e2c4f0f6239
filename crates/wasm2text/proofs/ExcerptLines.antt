-- The lines of an excerpt, one after the other.
use Rattle.std.specs.Prelude.{◌≡◌, ℕ, ◌+◌, ◌-◌, ◌<◌, ◌≤◌, List, [], ◌∷◌, ◌++◌, Bool, true, false, if◌then◌else◌, Option, Some, length, slice_range}
use Rattle.std.specs.Borrow.{Bor}
use Rattle.std.proofs.Common.{refl, sym, ap, ◌∙◌, zero, suc, take, drop, get_or, arith, append_assoc, append-nil}
use Rattle.std.proofs.lemmas.List.{drop_all, length-map}
use Rattle.wasmprinter_spec.specs.Lines.{TextLine}
use Rattle.wasmprinter.specs.Found.{text_lines}
use Rattle.wasm2text.specs.declared.excerpt.Window.{Window}
use Rattle.wasm2text.specs.Excerpt.{excerpt_line, excerpt_lines, lines_between, header_before, is_outside, window_around, excerpt_text}

-- The lines from the one with this index are that line, and then those from the next index.
step : (width shown number : ℕ) (lines : List (Option ℕ × Bor (List ℕ))) (i : ℕ) (d : Option ℕ × Bor (List ℕ)) → i < length lines →
    excerpt_lines width shown number (drop i (text_lines lines))
    ≡ excerpt_line width shown number (get_or lines i d).1.now ++ excerpt_lines width shown (number + 1) (drop (i + 1) (text_lines lines))
step width shown number [] i d lt = absurd (omega (arith, lt))
step width shown number (line ∷ lines) zero d lt = refl
step width shown number (line ∷ lines) (suc i) d lt =
    let next : suc (i + 1) ≡ suc i + 1 = omega arith in
    step width shown number lines i d (omega (arith, lt))
    ∙ ap (λ (k : ℕ). excerpt_line width shown number (get_or lines i d).1.now ++ excerpt_lines width shown (number + 1) (drop k (text_lines (line ∷ lines)))) next

-- After one more line, the lines that are left complete all lines.
pub push_step : (old new all : List ℕ) (width shown number next : ℕ) (lines : List (Option ℕ × Bor (List ℕ))) (i : ℕ) (d : Option ℕ × Bor (List ℕ)) →
    i < length lines → next ≡ number + 1 → new ≡ old ++ excerpt_line width shown number (get_or lines i d).1.now →
    old ++ excerpt_lines width shown number (drop i (text_lines lines)) ≡ all →
    new ++ excerpt_lines width shown next (drop (i + 1) (text_lines lines)) ≡ all
push_step old new all width shown number next lines i d lt e pushed so_far =
    let rest : List ℕ = excerpt_lines width shown (number + 1) (drop (i + 1) (text_lines lines)) in
    ap (λ (n : ℕ). new ++ excerpt_lines width shown n (drop (i + 1) (text_lines lines))) e
    ∙ ap (λ (t : List ℕ). t ++ rest) pushed
    ∙ append_assoc old (excerpt_line width shown number (get_or lines i d).1.now) rest
    ∙ ap (λ (t : List ℕ). old ++ t) (sym (step width shown number lines i d lt))
    ∙ so_far

-- If no line is left, all lines were written.
pub push_end : (text all : List ℕ) (width shown number : ℕ) (lines : List (Option ℕ × Bor (List ℕ))) (i : ℕ) → length lines ≤ i →
    text ++ excerpt_lines width shown number (drop i (text_lines lines)) ≡ all → text ≡ all
push_end text all width shown number lines i past so_far =
    sym (append-nil text)
    ∙ ap (λ (rest : List TextLine). text ++ excerpt_lines width shown number rest) (sym (drop_all i (text_lines lines) (simp length-map past)))
    ∙ so_far

take_lines : (lines : List (Option ℕ × Bor (List ℕ))) (n : ℕ) → text_lines (take n lines) ≡ take n (text_lines lines)
take_lines [] zero = refl
take_lines [] (suc n) = refl
take_lines (line ∷ lines) zero = refl
take_lines (line ∷ lines) (suc n) = ap (λ (rest : List TextLine). (line.0, line.1.now) ∷ rest) (take_lines lines n)

drop_lines : (lines : List (Option ℕ × Bor (List ℕ))) (n : ℕ) → text_lines (drop n lines) ≡ drop n (text_lines lines)
drop_lines [] zero = refl
drop_lines [] (suc n) = refl
drop_lines (line ∷ lines) zero = refl
drop_lines (line ∷ lines) (suc n) = drop_lines lines n

-- The lines of a range.
pub range_lines : (lines : List (Option ℕ × Bor (List ℕ))) (first end : ℕ) → text_lines (slice_range lines first end) ≡ slice_range (text_lines lines) first end
range_lines lines first end = take_lines (drop first lines) (end - first) ∙ ap (take (end - first)) (drop_lines lines first)

by_test : (t : Bool) (xs ys : List ℕ) → t ≡ true → (if t then xs else ys) ≡ xs
by_test true xs ys e = refl
by_test false xs ys e = absurd (let both : false ≡ true = e in cc)

-- A header that is not among the lines around is written before them.
pub header_outside : (lines : List (Option ℕ × Bor (List ℕ))) (w : Window) (h : ℕ) → is_outside w h ≡ true →
    excerpt_lines w.numbering.width w.numbering.shown (h + 1) (text_lines (slice_range lines h (h + 1))) ≡ header_before w (text_lines lines) (Some h)
header_outside lines w h out =
    ap (excerpt_lines w.numbering.width w.numbering.shown (h + 1)) (range_lines lines h (h + 1))
    ∙ sym (by_test (is_outside w h) (lines_between w (text_lines lines) h (h + 1)) [] out)

-- The excerpt is the header, if it is not among the lines around, and then these lines.
pub excerpt_is : (lines : List (Option ℕ × Bor (List ℕ))) (index : ℕ) (header : Option ℕ) (w : Window) (start before text : List ℕ) →
    w ≡ window_around (length lines) index → start ≡ [] → before ≡ start ++ header_before w (text_lines lines) header →
    text ≡ before ++ excerpt_lines w.numbering.width w.numbering.shown (w.first + 1) (text_lines (slice_range lines w.first w.end)) →
    text ≡ excerpt_text (text_lines lines) index header
excerpt_is lines index header w start before text around empty front all =
    let tl : List TextLine = text_lines lines in
    let same : window_around (length lines) index ≡ window_around (length tl) index
    = ap (λ (n : ℕ). window_around n index) (sym (length-map lines (λ (line : Option ℕ × Bor (List ℕ)). (line.0, line.1.now)))) in
    all
    ∙ ap (λ (t : List ℕ). t ++ excerpt_lines w.numbering.width w.numbering.shown (w.first + 1) (text_lines (slice_range lines w.first w.end)))
    (front ∙ ap (λ (t : List ℕ). t ++ header_before w tl header) empty)
    ∙ ap (λ (ls : List TextLine). header_before w tl header ++ excerpt_lines w.numbering.width w.numbering.shown (w.first + 1) ls)
    (range_lines lines w.first w.end)
    ∙ ap (λ (v : Window). header_before v tl header ++ lines_between v tl v.first v.end) (around ∙ same)
