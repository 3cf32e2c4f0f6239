-- The texts of nodes in one buffer, as a printer: the effect of calls on it.
use Rattle.std.specs.Prelude.{◌≡◌, ℕ, ◌==◌, ◌&&◌, ◌||◌, List, [], ◌∷◌, ◌++◌, Bool, true, false, None, IsUtf8}
use Rattle.std.specs.IoError.{error_kind}
use Rattle.std.specs.declared.io.ErrorKind.TheVariants.{OutOfMemory}
use Rattle.wasmprinter_spec.specs.Call.{Call, Text, Newline, Line, Start, Claim, IsTextOrStyle}
use Rattle.wasmprinter_spec.specs.Colored.{colored_bytes}
use Rattle.wasmprinter_spec.specs.Meaning.{Meaning}
use Rattle.wasmprinter_fold.specs.declared.node_text.line_comment_scan.Semicolons.{Semicolons}

-- The texts; whether they contain escape sequences; and the semicolons seen since the last text began, without
-- escape sequences.
pub record View : Type 0 where
  pub bytes : List ℕ
  pub color : Bool
  pub seen : Semicolons

-- The state before any text.
abbrev pub no_semicolons : Semicolons
no_semicolons = record { last = false; double = false }

-- The state after one more byte.
abbrev pub see : Semicolons → ℕ → Semicolons
see s b = record { last = b == 59; double = s.double || (s.last && (b == 59)) }

-- The state after bytes.
abbrev pub see_all : Semicolons → List ℕ → Semicolons
see_all s [] = s
see_all s (b ∷ bs) = see_all (see s b) bs

-- The buffer at the start of the next text.
abbrev pub with_text_begun : View → View
with_text_begun v = record { bytes = v.bytes; color = v.color; seen = no_semicolons }

-- The buffer with one more piece of text.
abbrev pub with_text : View → List ℕ → View
with_text v s = record { bytes = v.bytes ++ s; color = v.color; seen = see_all v.seen s }

-- The buffer with escape sequences added, if texts contain them.
abbrev pub with_sequences : Bool → View → List ℕ → View
with_sequences true v s = record { bytes = v.bytes ++ s; color = v.color; seen = v.seen }
with_sequences false v s = v

-- The buffer after a call.
abbrev pub view_after : View → Call → View
view_after v (Text s) = with_text v s
view_after v Newline = with_text v (10 ∷ [])
view_after v (Line place) = v
view_after v (Start style) = with_sequences v.color v (colored_bytes (Start style))
view_after v (Claim name place bytes answer) = v

-- Bytes that a call passes are UTF-8, and a custom section is not claimed.
abbrev pub IsTextual : Call → Type 0
IsTextual (Text s) = IsUtf8 s
IsTextual Newline = Unit {0}
IsTextual (Line place) = Unit {0}
IsTextual (Start style) = Unit {0}
IsTextual (Claim name place bytes answer) = answer ≡ false

-- The meaning of a buffer: only calls that may write text can fail. A call that fails reports that memory ran out
-- and leaves the buffer as it was.
abbrev pub texts_meaning : Meaning View
texts_meaning = record {
  after = λ old call new. (new ≡ view_after old call) × IsTextual call;
  may_fail = λ old call. IsTextOrStyle call;
  partly = λ old call error new. (error_kind error ≡ OutOfMemory) × (new ≡ old);
  faults = λ v. None;
}

-- The new bytes are the old ones followed by UTF-8.
pub record GrowsText (old new : List ℕ) : Type 0 where
  pub more : List ℕ
  pub parts : new ≡ old ++ more
  pub is_text : IsUtf8 more
