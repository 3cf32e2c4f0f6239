-- The meaning of calls on a printer that keeps its text in memory, with ANSI escape sequences.
use Rattle.std.specs.Prelude.{◌≡◌, ℕ, List, ◌++◌, None}
use Rattle.std.specs.IoError.{error_kind}
use Rattle.std.specs.declared.io.ErrorKind.TheVariants.{OutOfMemory}
use Rattle.wasmprinter_spec.specs.Call.{IsUnclaimed, IsTextOrStyle}
use Rattle.wasmprinter_spec.specs.Colored.{colored_bytes}
use Rattle.wasmprinter_spec.specs.Meaning.{Meaning}

-- The state is the bytes of the text. Each call appends its bytes: those of a text, a line feed or the escape
-- sequences of a style. No custom section is claimed. Only a call that writes a text (an empty text too), a line
-- feed or a style may fail. An allocation failed then, and the bytes are unchanged.
abbrev pub ansi_text_meaning : Meaning (List ℕ)
ansi_text_meaning = record {
  after = λ old call new. (new ≡ old ++ colored_bytes call) × IsUnclaimed call;
  may_fail = λ old call. IsTextOrStyle call;
  partly = λ old call error new. (error_kind error ≡ OutOfMemory) × (new ≡ old);
  faults = λ bytes. None;
}
