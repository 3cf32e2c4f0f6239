-- The lines of calls: how they grow when calls are added, and that joined they are the text from the first line
-- start on.
use Rattle.std.proofs.Common.{◌≡◌, ℕ, List, [], ◌∷◌, ◌++◌, refl, sym, ap, ap₂, ◌∙◌, append_assoc, inl, inr}
use Rattle.std.specs.Prelude.{Option, ◌⊎◌}
use Rattle.wasmprinter_spec.specs.Call.{Call, Line, call_text, text_of}
use Rattle.wasmprinter_spec.specs.Lines.{TextLine, text_before_line, lines_of, joined_lines}
use Rattle.wasmprinter_writers.specs.Tracked.{extend_last}

-- ---- more calls

-- A line has started in `k`, so calls after `k` add nothing before the first line.
record HasBegun (k l : List Call) : Type 0 where
  first : TextLine
  others : List TextLine
  lines : lines_of k ≡ first ∷ others
  before : text_before_line (k ++ l) ≡ text_before_line k

-- Either no line starts in `k`, and the text before the first line grows, or a line has started in `k`.
before-append : (k l : List Call) → ((lines_of k ≡ []) × (text_before_line (k ++ l) ≡ text_before_line k ++ text_before_line l)) ⊎ HasBegun k l
before-append [] l = inl (refl, refl)
before-append (Line p ∷ k) l = inr (record { first = (p, text_before_line k); others = lines_of k; lines = refl; before = refl })
before-append (c ∷ k) l =
    elim (before-append k l) [
      | inl e ↦ inl (e.0, ap (λ x. call_text c ++ x) e.1 ∙ sym (append_assoc (call_text c) (text_before_line k) (text_before_line l)))
      | inr e ↦ inr (record { first = e.first; others = e.others; lines = e.lines; before = ap (λ x. call_text c ++ x) e.before })
    ]

-- If no line starts in `l`, then its text is appended to the last line of `k`.
pub lines_of-text : (k l : List Call) → lines_of l ≡ [] → lines_of (k ++ l) ≡ extend_last (lines_of k) (text_before_line l)
lines_of-text [] l h = h
lines_of-text (Line p ∷ k) l h =
    elim (before-append k l) [
      | inl e ↦ simp (lines_of-text k l h, e.1, e.0)
      | inr e ↦ simp (lines_of-text k l h, e.before, e.lines)
    ]
lines_of-text (c ∷ k) l h = lines_of-text k l h

before-line : (k : List Call) (p : Option ℕ) → text_before_line (k ++ Line p ∷ []) ≡ text_before_line k
before-line [] p = refl
before-line (Line q ∷ k) p = refl
before-line (c ∷ k) p = ap (λ x. call_text c ++ x) (before-line k p)

-- A line start adds an empty line.
pub lines_of-line : (k : List Call) (p : Option ℕ) → lines_of (k ++ Line p ∷ []) ≡ lines_of k ++ (p, []) ∷ []
lines_of-line [] p = refl
lines_of-line (Line q ∷ k) p =
    ap₂ (λ (t : List ℕ) (lines : List TextLine). (q, t) ∷ lines) (before-line k p) (lines_of-line k p)
lines_of-line (c ∷ k) p = lines_of-line k p

-- ---- joined lines

-- The text before the first line, followed by the joined lines, is the text of the calls.
pub joined-lines_of : (k : List Call) → text_before_line k ++ joined_lines (lines_of k) ≡ text_of k
joined-lines_of [] = refl
joined-lines_of (Line p ∷ k) = joined-lines_of k
joined-lines_of (c ∷ k) =
    append_assoc (call_text c) (text_before_line k) (joined_lines (lines_of k)) ∙ ap (λ x. call_text c ++ x) (joined-lines_of k)

-- If the calls begin with a line start, then the joined lines are the text of the calls.
pub joined-begun : (p : Option ℕ) (k : List Call) → joined_lines (lines_of (Line p ∷ k)) ≡ text_of (Line p ∷ k)
joined-begun p k = joined-lines_of k
