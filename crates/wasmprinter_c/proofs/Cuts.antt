-- A text that is cut at the starts of its lines has the lines of its calls.
use Rattle.std.proofs.Common.{◌≡◌, ℕ, ◌+◌, ◌-◌, List, [], ◌∷◌, ◌++◌, length, take, drop, refl, sym, ap, ap₂, ◌∙◌, append_assoc, length-append, arith}
use Rattle.std.specs.Prelude.{false, Option, Some, None, map}
use Rattle.wasmprinter_spec.specs.Call.{Call, Text, Newline, Line, Start, Claim, text_of}
use Rattle.wasmprinter_spec.specs.Lines.{TextLine, lines_of, text_before_line, joined_lines}
use Rattle.wasmprinter_writers.specs.Cuts.{lines_at_starts, first_at}
use Rattle.wasmprinter_writers.specs.declared.line_iterator.LineStart.{LineStart}
use Rattle.wasmprinter_writers.proofs.LineLaws.{joined-lines_of}
use Rattle.wasmprinter_c.specs.Events.{events, line_event, line_start}

-- The starts of the lines of these calls, whose text starts at this byte.
abbrev starts_at : ℕ → List Call → List LineStart
starts_at n cs = map line_start (events false n cs)

line_start-event : (place : Option ℕ) (n : ℕ) → line_start (line_event place n) ≡ record { place = place; at = n }
line_start-event (Some p) n = refl
line_start-event None n = refl

drop_front : (x y : List ℕ) → drop (length x) (x ++ y) ≡ y
drop_front [] y = refl
drop_front (b ∷ x) y = drop_front x y

take_front : (x y : List ℕ) → take (length x) (x ++ y) ≡ x
take_front [] y = refl
take_front (b ∷ x) y = ap (λ (t : List ℕ). b ∷ t) (take_front x y)

-- The start of the first line moves by the length of a text before the calls.
first-text : (x s : List ℕ) (cs : List Call) →
    first_at (starts_at (length (x ++ s)) cs) ((x ++ s) ++ text_of cs) ≡ length (x ++ s) + length (text_before_line cs) →
    first_at (starts_at (length x + length s) cs) (x ++ (s ++ text_of cs)) ≡ length x + length (s ++ text_before_line cs)
first-text x s cs h =
    let e₁ = length-append x s in
    let e₂ = length-append s (text_before_line cs) in
    ap (λ (n : ℕ). first_at (starts_at n cs) (x ++ (s ++ text_of cs))) (sym e₁)
    ∙ ap (λ (t : List ℕ). first_at (starts_at (length (x ++ s)) cs) t) (sym (append_assoc x s (text_of cs))) ∙ h ∙ omega (arith, e₁, e₂)

-- The first line starts after the text before it.
first-before : (x : List ℕ) (cs : List Call) → first_at (starts_at (length x) cs) (x ++ text_of cs) ≡ length x + length (text_before_line cs)
first-before x [] = length-append x []
first-before x (Text s ∷ cs) = first-text x s cs (first-before (x ++ s) cs)
first-before x (Newline ∷ cs) = first-text x (10 ∷ []) cs (first-before (x ++ 10 ∷ []) cs)
first-before x (Line place ∷ cs) = ap (λ (s : LineStart). s.at) (line_start-event place (length x)) ∙ omega arith
first-before x (Start style ∷ cs) = first-before x cs
first-before x (Claim name place bytes answer ∷ cs) = first-before x cs

-- The text from the start of the calls up to the first line is the one before that line.
line-text : (x : List ℕ) (cs : List Call) (end : ℕ) → end ≡ length x + length (text_before_line cs) →
    take (end - length x) (drop (length x) (x ++ text_of cs)) ≡ text_before_line cs
line-text x cs end e =
    let size : end - length x ≡ length (text_before_line cs) = omega (arith, e) in
    ap (λ (t : List ℕ). take (end - length x) t) (drop_front x (text_of cs))
    ∙ ap (λ (n : ℕ). take n (text_of cs)) size
    ∙ ap (λ (t : List ℕ). take (length (text_before_line cs)) t) (sym (joined-lines_of cs))
    ∙ take_front (text_before_line cs) (joined_lines (lines_of cs))

-- If the lines of calls are cut correctly, they are cut correctly after another text.
cut-text : (x s : List ℕ) (cs : List Call) → lines_at_starts (starts_at (length (x ++ s)) cs) ((x ++ s) ++ text_of cs) ≡ lines_of cs →
    lines_at_starts (starts_at (length x + length s) cs) (x ++ (s ++ text_of cs)) ≡ lines_of cs
cut-text x s cs h =
    ap (λ (n : ℕ). lines_at_starts (starts_at n cs) (x ++ (s ++ text_of cs))) (sym (length-append x s))
    ∙ ap (λ (t : List ℕ). lines_at_starts (starts_at (length (x ++ s)) cs) t) (sym (append_assoc x s (text_of cs))) ∙ h

pub lines-cut : (x : List ℕ) (cs : List Call) → lines_at_starts (starts_at (length x) cs) (x ++ text_of cs) ≡ lines_of cs
lines-cut x [] = refl
lines-cut x (Text s ∷ cs) = cut-text x s cs (lines-cut (x ++ s) cs)
lines-cut x (Newline ∷ cs) = cut-text x (10 ∷ []) cs (lines-cut (x ++ 10 ∷ []) cs)
lines-cut x (Line place ∷ cs) =
    ap (λ (s : LineStart). lines_at_starts (s ∷ starts_at (length x) cs) (x ++ text_of cs)) (line_start-event place (length x))
    ∙ ap₂ (λ (t : List ℕ) (ls : List TextLine). (place, t) ∷ ls) (line-text x cs (first_at (starts_at (length x) cs) (x ++ text_of cs)) (first-before x cs)) (lines-cut x cs)
lines-cut x (Start style ∷ cs) = lines-cut x cs
lines-cut x (Claim name place bytes answer ∷ cs) = lines-cut x cs
