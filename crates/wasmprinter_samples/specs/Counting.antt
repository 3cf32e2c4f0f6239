-- The meaning of a printer that counts failed calls.
use Rattle.std.specs.Prelude.{◌≡◌, ℕ, ◌+◌, nat_lt, if◌then◌else◌, Some, Result, OnOk, OnErr}
use Rattle.std.specs.declared.io.Error.{Error as IoError}
use Rattle.wasmprinter_spec.specs.Meaning.{Meaning, most_faults}

-- The count after one more failed call. It stays at its greatest number.
abbrev pub one_fault_more : ℕ → ℕ
one_fault_more n = if nat_lt n most_faults then n + 1 else n

-- A call that succeeds leaves the count as it is. A call that fails increments it.
abbrev pub Counts : {T : Type 0} → ℕ → ℕ → Result T IoError → Type 0
Counts old new answer = OnOk answer (new ≡ old) × OnErr answer (new ≡ one_fault_more old)

-- Only the count is promised. Any call may fail, with any error.
abbrev pub counting : Meaning ℕ
counting = record {
  after = λ old call new. Unit {0};
  may_fail = λ old call. Unit {0};
  partly = λ old call error new. Unit {0};
  faults = λ count. Some count;
}
