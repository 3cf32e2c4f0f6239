-- The meaning of calls on a text-only printer.
use Rattle.std.specs.Prelude.{◌≡◌, ℕ, List, [], ◌∷◌, ◌++◌, false, None, Result, Ok, Err}
use Rattle.std.specs.declared.io.Error.{Error as IoError}
use Rattle.wasmprinter_spec.specs.Call.{Call, Text, Newline, Line, Start, Claim, IsText, text_of}
use Rattle.wasmprinter_spec.specs.Meaning.{Meaning, Run}

-- The results that a write of bytes may have, and the states of the printer after it.
abbrev pub Writes : Type 0 → Type 1
Writes P = P → List ℕ → Result (Unit {0}) IoError → P → Type 0

-- A text and a line feed are each written by one write, and its result is that of the call. The calls for a line,
-- a style and a claim succeed and leave the printer unchanged. No custom section is claimed.
abbrev pub WritesTextOnly : {P : Type 0} → Writes P → P → Call → Result (Unit {0}) IoError → P → Type 0
WritesTextOnly writes old (Text bytes) answer new = writes old bytes answer new
WritesTextOnly writes old Newline answer new = writes old (10 ∷ []) answer new
WritesTextOnly writes old (Line place) answer new = (answer ≡ Ok tt) × (new ≡ old)
WritesTextOnly writes old (Start style) answer new = (answer ≡ Ok tt) × (new ≡ old)
WritesTextOnly writes old (Claim name place bytes claimed) answer new = (claimed ≡ false) × (answer ≡ Ok tt) × (new ≡ old)

-- The meaning of a text-only printer: only writes can fail.
abbrev pub text_only : {P : Type 0} → Writes P → Meaning P
text_only writes = record {
  after = λ old call new. WritesTextOnly writes old call (Ok tt) new;
  may_fail = λ old call. IsText call;
  partly = λ old call error new. WritesTextOnly writes old call (Err error) new;
  faults = λ old. None;
}

-- Each successful write appends its bytes to this view of the printer.
abbrev pub Grows : {P : Type 0} → (P → List ℕ) → Writes P → Type 0
Grows {P} view writes = (old : P) (bytes : List ℕ) (new : P) → writes old bytes (Ok tt) new → view new ≡ view old ++ bytes

-- If all these calls succeed, the view of the printer grows by their text. Lines, styles and claims have no text, and a
-- line feed has the byte 10.
abbrev pub TextIsGained : {P : Type 0} → (P → List ℕ) → Writes P → Type 0
TextIsGained {P} view writes = (old : P) (calls : List Call) (new : P) → Run (text_only writes) old calls new → view new ≡ view old ++ text_of calls
