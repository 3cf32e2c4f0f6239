-- The meaning of writes to a text writer.
use Rattle.std.specs.Prelude.{◌≡◌, ℕ, List, Result, Ok, Err}
use Rattle.std.specs.IoError.{error_kind}
use Rattle.std.specs.declared.fmt.Error.{Error as FmtError}
use Rattle.std.specs.declared.io.Error.{Error as IoError}
use Rattle.std.specs.declared.io.ErrorKind.TheVariants.{Other}

-- The results that a write of a text may have, and the states of the writer after it.
abbrev pub TextWrites : Type 0 → Type 1
TextWrites T = T → List ℕ → Result (Unit {0}) FmtError → T → Type 0

-- The text was written once, and that write had this result. The error of a failed write carries no cause: its
-- kind is `Other`.
abbrev pub WritesFmt : {T : Type 0} → TextWrites T → T → List ℕ → Result (Unit {0}) IoError → T → Type 0
WritesFmt takes old bytes (Ok x) new = takes old bytes (Ok x) new
WritesFmt takes old bytes (Err e) new = ((failure : FmtError) × takes old bytes (Err failure) new) × (error_kind e ≡ Other)
