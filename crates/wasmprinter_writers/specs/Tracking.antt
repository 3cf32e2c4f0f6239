-- The meaning of calls on a tracker.
use Rattle.std.specs.Prelude.{◌≡◌, ℕ, List, [], ◌∷◌, ◌++◌, false, None}
use Rattle.std.specs.IoError.{error_kind}
use Rattle.std.specs.declared.io.ErrorKind.TheVariants.{OutOfMemory}
use Rattle.wasmprinter_spec.specs.Call.{Call, Text, Newline, Line, Start, Claim, text_of, IsText}
use Rattle.wasmprinter_spec.specs.Lines.{lines_of}
use Rattle.wasmprinter_spec.specs.Meaning.{Meaning}
use Rattle.wasmprinter_writers.specs.Tracked.{Tracked, with_text, with_line}

-- The tracker after a call.
abbrev pub tracked_after : Tracked → Call → Tracked
tracked_after t (Text bytes) = with_text t bytes
tracked_after t Newline = with_text t (10 ∷ [])
tracked_after t (Line place) = with_line t place
tracked_after t (Start style) = t
tracked_after t (Claim name place bytes answer) = t

-- A successful call that writes text leaves no line lost, and no custom section is claimed.
abbrev pub KeepsAll : Call → Tracked → Type 0
KeepsAll (Text bytes) new = new.lost ≡ false
KeepsAll Newline new = new.lost ≡ false
KeepsAll (Line place) new = Unit {0}
KeepsAll (Start style) new = Unit {0}
KeepsAll (Claim name place bytes answer) new = answer ≡ false

-- The meaning of a tracker: only calls that write text can fail. A call that fails returns an error of the kind
-- `OutOfMemory`, leaves the text and its lines unchanged, and loses no line.
abbrev pub tracked_meaning : Meaning Tracked
tracked_meaning = record {
  after = λ old call new. (new ≡ tracked_after old call) × KeepsAll call new;
  may_fail = λ old call. IsText call;
  partly = λ old call error new.
      (error_kind error ≡ OutOfMemory) × (new.text ≡ old.text) × (new.lines ≡ old.lines) × (new.lost ≡ old.lost);
  faults = λ t. None;
}

-- The tracker has the text of these calls after the text `base`, and their lines, unless a line was lost.
pub record Tracks (base : List ℕ) (calls : List Call) (t : Tracked) : Type 0 where
  pub text : t.text ≡ base ++ text_of calls
  pub lines : t.lost ≡ false → t.lines ≡ lines_of calls
