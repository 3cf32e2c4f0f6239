-- The view of a tracker: the text that was printed to it, and its lines.
use Rattle.std.specs.Prelude.{ℕ, List, [], ◌∷◌, ◌++◌, Bool, true, false, Option, Some, None, is_some, length}
use Rattle.wasmprinter_spec.specs.Lines.{TextLine}
use Rattle.wasmprinter_writers.specs.Cuts.{lines_at_starts}
use Rattle.wasmprinter_writers.specs.declared.line_iterator.LineStart.{LineStart}

-- The text, its lines, whether the last line has started and got no text yet, and whether a line was lost.
pub record Tracked : Type 0 where
  pub text : List ℕ
  pub lines : List TextLine
  pub new_line : Bool
  pub lost : Bool

-- A tracker with this text. It has no lines, and none was lost.
abbrev pub without_lines : List ℕ → Tracked
without_lines text = record { text = text; lines = []; new_line = false; lost = false }

-- The entry of the line that waits, if one does.
abbrev pub waiting_start : Option (Option ℕ) → ℕ → List LineStart
waiting_start None at = []
waiting_start (Some place) at = record { place = place; at = at } ∷ []

-- The view of a tracker with this text, these line starts, and this waiting line.
abbrev pub tracked_of : List ℕ → List LineStart → Option (Option ℕ) → Bool → Tracked
tracked_of text starts waiting lost = record {
  text = text;
  lines = lines_at_starts (starts ++ waiting_start waiting (length text)) text;
  new_line = is_some waiting;
  lost = lost;
}

-- Appends text to the last line.
abbrev pub extend_last : List TextLine → List ℕ → List TextLine
extend_last [] s = []
extend_last (x ∷ []) s = (x.0, x.1 ++ s) ∷ []
extend_last (x ∷ y ∷ lines) s = x ∷ extend_last (y ∷ lines) s

-- The tracker after a piece of text.
abbrev pub with_text : Tracked → List ℕ → Tracked
with_text t piece = record { text = t.text ++ piece; lines = extend_last t.lines piece; new_line = false; lost = t.lost }

-- The tracker after a line start. If the flag says that another line has just started, the new line is lost.
abbrev pub with_line_if : Bool → Tracked → Option ℕ → Tracked
with_line_if true t place = record { text = t.text; lines = t.lines; new_line = true; lost = true }
with_line_if false t place = record { text = t.text; lines = t.lines ++ (place, []) ∷ []; new_line = true; lost = t.lost }

-- The tracker after a line start. If another line has just started, the new line is lost.
abbrev pub with_line : Tracked → Option ℕ → Tracked
with_line t place = with_line_if t.new_line t place
