-- The effect of a run of calls on a tracker: its text and its lines are those of the calls.
use Rattle.std.proofs.Common.{◌≡◌, ℕ, List, [], ◌∷◌, ◌++◌, refl, sym, ap, ◌∙◌, subst, append_assoc, append-nil, true≢false}
use Rattle.std.specs.Prelude.{Option, Bool, true, false}
use Rattle.std.specs.declared.io.Error.{Error as IoError}
use Rattle.wasmprinter_spec.specs.Call.{Call, Text, Newline, Line, Start, Claim, IsUnclaimed, call_text, text_of}
use Rattle.wasmprinter_spec.specs.Lines.{TextLine, lines_of}
use Rattle.wasmprinter_spec.specs.Meaning.{Run}
use Rattle.wasmprinter_spec.proofs.Texts.{text_of-append}
use Rattle.wasmprinter_print.specs.MadeCalls.{Broken}
use Rattle.wasmprinter_writers.specs.Tracked.{Tracked, without_lines, extend_last, with_line_if}
use Rattle.wasmprinter_writers.specs.Tracking.{tracked_after, tracked_meaning, Tracks}
use Rattle.wasmprinter_writers.proofs.LineLaws.{lines_of-text, lines_of-line}

-- A line start adds no text. It adds a line, unless that line is lost.
line-text : (b : Bool) (t : Tracked) (p : Option ℕ) → (with_line_if b t p).text ≡ t.text
line-text true t p = refl
line-text false t p = refl

line-lines : (b : Bool) (t : Tracked) (p : Option ℕ) → (with_line_if b t p).lost ≡ false →
    (t.lost ≡ false) × ((with_line_if b t p).lines ≡ t.lines ++ (p, []) ∷ [])
line-lines true t p e = absurd (true≢false e)
line-lines false t p e = (e, refl)

-- Appending no text to the last line changes nothing.
extend_last-nil : (lines : List TextLine) → extend_last lines [] ≡ lines
extend_last-nil [] = refl
extend_last-nil (x ∷ []) = ap (λ (t : List ℕ). (x.0, t) ∷ []) (append-nil x.1)
extend_last-nil (x ∷ y ∷ lines) = ap (λ (l : List TextLine). x ∷ l) (extend_last-nil (y ∷ lines))

-- ---- a call

tracked_after-text : (t : Tracked) (c : Call) → (tracked_after t c).text ≡ t.text ++ call_text c
tracked_after-text t (Text s) = refl
tracked_after-text t Newline = refl
tracked_after-text t (Line p) = line-text t.new_line t p ∙ sym (append-nil t.text)
tracked_after-text t (Start style) = sym (append-nil t.text)
tracked_after-text t (Claim name place bytes answer) = sym (append-nil t.text)

-- If a call adds no text and starts no line, then the lines are unchanged.
idle-lines : (k : List Call) (c : Call) (lines : List TextLine) → lines ≡ lines_of k → lines_of (k ++ c ∷ []) ≡ extend_last (lines_of k) [] →
    lines ≡ lines_of (k ++ c ∷ [])
idle-lines k c lines e more = e ∙ sym (extend_last-nil (lines_of k)) ∙ sym more

tracked_after-lines : (k : List Call) (c : Call) (t : Tracked) → (t.lost ≡ false → t.lines ≡ lines_of k) → (tracked_after t c).lost ≡ false →
    (tracked_after t c).lines ≡ lines_of (k ++ c ∷ [])
tracked_after-lines k (Text s) t h kept =
    ap (λ x. extend_last x s) (h kept) ∙ ap (λ x. extend_last (lines_of k) x) (sym (append-nil s)) ∙ sym (lines_of-text k (Text s ∷ []) refl)
tracked_after-lines k Newline t h kept = ap (λ x. extend_last x (10 ∷ [])) (h kept) ∙ sym (lines_of-text k (Newline ∷ []) refl)
tracked_after-lines k (Line p) t h kept =
    let there = line-lines t.new_line t p kept in
    there.1 ∙ ap (λ x. x ++ (p, []) ∷ []) (h there.0) ∙ sym (lines_of-line k p)
tracked_after-lines k (Start style) t h kept = idle-lines k (Start style) t.lines (h kept) (lines_of-text k (Start style ∷ []) refl)
tracked_after-lines k (Claim name place bytes answer) t h kept =
    idle-lines k (Claim name place bytes answer) t.lines (h kept) (lines_of-text k (Claim name place bytes answer ∷ []) refl)

-- If the tracker has the text and lines of `k`, then after one more call it has those of `k` and that call.
Tracks-tracked_after : (base : List ℕ) (k : List Call) (c : Call) (t : Tracked) → Tracks base k t → Tracks base (k ++ c ∷ []) (tracked_after t c)
Tracks-tracked_after base k c t h = record {
  text = tracked_after-text t c ∙ ap (λ x. x ++ call_text c) h.text ∙ append_assoc base (text_of k) (call_text c)
      ∙ ap (λ x. base ++ (text_of k ++ x)) (sym (append-nil (call_text c))) ∙ ap (λ x. base ++ x) (sym (text_of-append k (c ∷ [])));
  lines = λ kept. tracked_after-lines k c t h.lines kept;
}

-- ---- a run

tracks_more : (base : List ℕ) (k cs : List Call) (s t : Tracked) → Tracks base k s → Run tracked_meaning s cs t → Tracks base (k ++ cs) t
tracks_more base k [] s t h r =
    subst (λ (u : Tracked). Tracks base (k ++ []) u) r (subst (λ (l : List Call). Tracks base l s) (sym (append-nil k)) h)
tracks_more base k (c ∷ cs) s t h (between, called, rest) =
    let more : Tracks base (k ++ c ∷ []) between =
    subst (λ (u : Tracked). Tracks base (k ++ c ∷ []) u) (sym called.step.0) (Tracks-tracked_after base k c s h) in
    subst (λ (l : List Call). Tracks base l t) (append_assoc k (c ∷ []) cs) (tracks_more base (k ++ c ∷ []) cs between t more rest)

-- After a run of calls, a tracker that had no lines has its old text followed by that of the calls, and their
-- lines, unless one was lost.
pub run_tracks : (base : List ℕ) (calls : List Call) (t : Tracked) → Run tracked_meaning (without_lines base) calls t → Tracks base calls t
run_tracks base calls t r =
    tracks_more base [] calls (without_lines base) t (record { text = sym (append-nil base); lines = λ kept. refl }) r

-- The text of a tracker grows by the text of the calls.
pub run_text : (s : Tracked) (calls : List Call) (t : Tracked) → Run tracked_meaning s calls t → t.text ≡ s.text ++ text_of calls
run_text s [] t r = sym (ap (λ (u : Tracked). u.text) r) ∙ sym (append-nil s.text)
run_text s (c ∷ cs) t (between, called, rest) =
    run_text between cs t rest ∙ ap (λ (u : Tracked). u.text ++ text_of cs) called.step.0
    ∙ ap (λ x. x ++ text_of cs) (tracked_after-text s c)
    ∙ append_assoc s.text (call_text c) (text_of cs)

-- A tracker claims no custom section.
pub claims_never : (s : Tracked) (c : Call) (t : Tracked) → tracked_meaning.after s c t → IsUnclaimed c
claims_never s (Text bytes) t h = tt
claims_never s Newline t h = tt
claims_never s (Line place) t h = tt
claims_never s (Start style) t h = tt
claims_never s (Claim name place bytes answer) t h = h.1

-- If a call failed, then the text is the old text followed by that of the calls before the failed one.
pub broken_text : (s t : Tracked) (e : IoError) (layout : List Call) (b : Broken tracked_meaning s t e layout) → t.text ≡ s.text ++ text_of b.calls
broken_text s t e layout b = b.failed.left.1 ∙ run_text s b.calls b.before b.run
