-- The meaning of writes to a printer that keeps its text in memory, without colors.
use Rattle.std.specs.Prelude.{◌≡◌, ℕ, List, ◌++◌, Ok, Err}
use Rattle.std.specs.IoError.{error_kind}
use Rattle.std.specs.declared.io.ErrorKind.TheVariants.{OutOfMemory}
use Rattle.wasmprinter_print.specs.TextOnly.{Writes}

-- A text is appended. A write may fail, even of an empty text: an allocation failed then, and the bytes are
-- unchanged.
abbrev pub appends : Writes (List ℕ)
appends old bytes (Ok x) new = new ≡ old ++ bytes
appends old bytes (Err e) new = (error_kind e ≡ OutOfMemory) × (new ≡ old)
