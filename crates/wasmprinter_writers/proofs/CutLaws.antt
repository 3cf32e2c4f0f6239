-- How the lines of a text change when text and lines are added at its end.
use Rattle.std.proofs.Common.{◌≡◌, ℕ, ◌-◌, ◌≤◌, List, [], ◌∷◌, ◌++◌, length, take, drop, refl, sym, ap, ap₂, ◌∙◌, append-nil, arith, length-append, length-drop, true≢false}
use Rattle.std.proofs.Math.Seq.{take-length, take-nil, drop-length}
use Rattle.std.specs.Prelude.{Option, Some, None, Bool, is_some, true, false}
use Rattle.std.specs.Str.{IsCharBoundary, IsUtf8}
use Rattle.std.proofs.lemmas.Str.{IsCharBoundary-from_take, IsUtf8-append, IsUtf8-take, IsCharBoundary-end}
use Rattle.std.proofs.lemmas.List.{take-append-le, drop-append-le}
use Rattle.wasmprinter_spec.specs.Lines.{TextLine}
use Rattle.wasmprinter_writers.specs.Cuts.{lines_at_starts, first_at, AreLineStarts}
use Rattle.wasmprinter_writers.specs.Tracked.{Tracked, waiting_start, extend_last, tracked_of, with_line, with_text}
use Rattle.wasmprinter_writers.specs.declared.line_iterator.LineStart.{LineStart}

-- A character boundary of a text is one of a longer text.
pub IsCharBoundary-longer : (t s : List ℕ) (i : ℕ) → IsUtf8 t → IsUtf8 s → IsCharBoundary t i → IsCharBoundary (t ++ s) i
IsCharBoundary-longer t s i v u b =
    let le : i ≤ length t = b.0 in
    IsCharBoundary-from_take (t ++ s) i (IsUtf8-append t s v u) (omega (arith, length-append t s))
    (rw take-append-le (IsUtf8-take t i v b))

pub first_at_le : (starts : List LineStart) (t : List ℕ) → AreLineStarts starts t → first_at starts t ≤ length t
first_at_le [] t h = omega arith
first_at_le (s ∷ starts) t ((within, whole_chars), before, others) = omega (arith, within)

pub AreLineStarts-longer : (starts : List LineStart) (t s : List ℕ) → IsUtf8 t → IsUtf8 s → AreLineStarts starts t → AreLineStarts starts (t ++ s)
AreLineStarts-longer [] t s v u h = tt
AreLineStarts-longer (x ∷ []) t s v u h = (IsCharBoundary-longer t s x.at v u h.0, omega (arith, length-append t s, h.1), tt)
AreLineStarts-longer (x ∷ y ∷ starts) t s v u (boundary, before, others) =
    (IsCharBoundary-longer t s x.at v u boundary, before, AreLineStarts-longer (y ∷ starts) t s v u others)

-- If the line starts are valid, then so are they with one more at the end of the text.
pub AreLineStarts-more : (starts : List LineStart) (t : List ℕ) (p : Option ℕ) → AreLineStarts starts t →
    AreLineStarts (starts ++ record { place = p; at = length t } ∷ []) t
AreLineStarts-more [] t p h = (IsCharBoundary-end t, omega arith, tt)
AreLineStarts-more (x ∷ []) t p h = (h.0, h.1, AreLineStarts-more [] t p tt)
AreLineStarts-more (x ∷ y ∷ starts) t p (boundary, before, others) = (boundary, before, AreLineStarts-more (y ∷ starts) t p others)

-- Taking `length t - i` bytes from place `i` on takes all bytes from there on.
whole : (i : ℕ) (t : List ℕ) → take (length t - i) (drop i t) ≡ drop i t
whole i t = rw (← length-drop i t) (take-length (drop i t))

-- A part of a text is the same part of a longer text.
part-longer : (i j : ℕ) (t s : List ℕ) → i ≤ length t → j ≤ length t → take (j - i) (drop i (t ++ s)) ≡ take (j - i) (drop i t)
part-longer i j t s le within =
    let short : j - i ≤ length (drop i t) = omega (arith, length-drop i t) in
    rw (drop-append-le i t s le) (take-append-le (j - i) (drop i t) s short)

pub lines_at_starts-longer : (starts : List LineStart) (t s : List ℕ) → AreLineStarts starts t → lines_at_starts starts (t ++ s) ≡ extend_last (lines_at_starts starts t) s
lines_at_starts-longer [] t s h = refl
lines_at_starts-longer (x ∷ []) t s ((within, whole_chars), before, none) =
    ap (λ (l : List ℕ). (x.place, l) ∷ [])
    (whole x.at (t ++ s) ∙ drop-append-le x.at t s within ∙ ap (λ l. l ++ s) (sym (whole x.at t)))
lines_at_starts-longer (x ∷ y ∷ starts) t s ((within, whole_chars), before, others) =
    let (next, order, more) = others in
    ap₂ (λ (l : List ℕ) (m : List TextLine). (x.place, l) ∷ m) (part-longer x.at y.at t s within next.0)
    (lines_at_starts-longer (y ∷ starts) t s others)

pub lines_at_starts-more : (starts : List LineStart) (t : List ℕ) (p : Option ℕ) → AreLineStarts starts t →
    lines_at_starts (starts ++ record { place = p; at = length t } ∷ []) t ≡ lines_at_starts starts t ++ (p, []) ∷ []
lines_at_starts-more [] t p h = ap (λ (l : List ℕ). (p, l) ∷ []) (rw drop-length (take-nil (length t - length t)))
lines_at_starts-more (x ∷ []) t p h = ap (λ (l : List TextLine). (x.place, take (length t - x.at) (drop x.at t)) ∷ l) (lines_at_starts-more [] t p tt)
lines_at_starts-more (x ∷ y ∷ starts) t p (boundary, before, others) =
    ap (λ (l : List TextLine). (x.place, take (y.at - x.at) (drop x.at t)) ∷ l) (lines_at_starts-more (y ∷ starts) t p others)

-- If no line waits, then the line starts are still valid after one more line starts.
pub AreLineStarts-begun : (starts : List LineStart) (w : Option (Option ℕ)) (t : List ℕ) (p : Option ℕ) → is_some w ≡ false →
    AreLineStarts (starts ++ waiting_start w (length t)) t → AreLineStarts (starts ++ record { place = p; at = length t } ∷ []) t
AreLineStarts-begun starts None t p e h = AreLineStarts-more starts t p (rw append-nil at h)
AreLineStarts-begun starts (Some q) t p e h = absurd (true≢false e)

-- If no line waits, then the line starts are still valid after text is appended.
pub AreLineStarts-pushed : (starts : List LineStart) (w : Option (Option ℕ)) (t s u : List ℕ) → IsUtf8 t → IsUtf8 s → is_some w ≡ false → u ≡ t ++ s →
    AreLineStarts (starts ++ waiting_start w (length t)) t → AreLineStarts (starts ++ waiting_start w (length u)) u
AreLineStarts-pushed starts None t s u v x e f h =
    rw (append-nil, f) (AreLineStarts-longer starts t s v x (rw append-nil at h))
AreLineStarts-pushed starts (Some q) t s u v x e f h = absurd (true≢false e)

-- If no line waits, then the view after a line start is that of `with_line`.
pub tracked_of-begun : (t : List ℕ) (starts : List LineStart) (w : Option (Option ℕ)) (lost : Bool) (p : Option ℕ) → is_some w ≡ false →
    AreLineStarts (starts ++ waiting_start w (length t)) t → tracked_of t starts (Some p) lost ≡ with_line (tracked_of t starts w lost) p
tracked_of-begun t starts None lost p e h =
    let same : lines_at_starts (starts ++ record { place = p; at = length t } ∷ []) t ≡ lines_at_starts (starts ++ []) t ++ (p, []) ∷ [] =
    lines_at_starts-more starts t p (rw append-nil at h) ∙ ap (λ (x : List LineStart). lines_at_starts x t ++ (p, []) ∷ []) (sym (append-nil starts)) in
    let show : List TextLine → Tracked = λ l. record { text = t; lines = l; new_line = true; lost = lost } in
    ap show same
tracked_of-begun t starts (Some q) lost p e h = absurd (true≢false e)

-- If no line waits, then the view after text is appended is that of `with_text`.
pub tracked_of-pushed : (t s u : List ℕ) (starts : List LineStart) (w : Option (Option ℕ)) (lost : Bool) → is_some w ≡ false → u ≡ t ++ s →
    AreLineStarts (starts ++ waiting_start w (length t)) t → tracked_of u starts w lost ≡ with_text (tracked_of t starts w lost) s
tracked_of-pushed t s u starts None lost e f h =
    rw (f, append-nil) (let same : lines_at_starts starts (t ++ s) ≡ extend_last (lines_at_starts starts t) s = lines_at_starts-longer starts t s (rw append-nil at h) in cc)
tracked_of-pushed t s u starts (Some q) lost e f h = absurd (true≢false e)
