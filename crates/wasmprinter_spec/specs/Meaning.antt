-- The meaning of calls on a printer: the state after each call, when a call may fail, and the state after a failed
-- call. An implementation of the trait `Print` states its meaning; code over any printer is proved against it.
use Rattle.std.specs.Prelude.{◌≡◌, ℕ, ◌+◌, ◌-◌, ◌^◌, nat_lt, if◌then◌else◌, List, [], ◌∷◌, Option, Some, None}
use Rattle.std.specs.declared.io.Error.{Error as IoError}
use Rattle.wasmprinter_spec.specs.Call.{Call}

-- The meaning of calls on a printer whose states have the type P.
pub record Meaning (P : Type 0) : Type 1 where
  -- `after old call new`: if the call succeeds in the state `old`, it leaves the state `new`.
  pub after : P → Call → P → Type 0
  -- The call may return an error in this state.
  pub may_fail : P → Call → Type 0
  -- `partly old call error new`: if the call fails in the state `old`, it may return this error and leave the state
  -- `new`.
  pub partly : P → Call → IoError → P → Type 0
  -- The number of failed calls so far, or None if the printer does not count them.
  pub faults : P → Option ℕ

-- The greatest value of the number of failed calls.
abbrev pub most_faults : ℕ
most_faults = 2 ^ 64 - 1

-- The count after one more failed call. It stays at its greatest value.
abbrev pub one_more : Option ℕ → Option ℕ
one_more None = None
one_more (Some n) = Some (if nat_lt n most_faults then n + 1 else n)

-- The call was made in the state `old` and succeeded, with the state `new` after it. No failure was counted.
pub record Succeeded {P : Type 0} (m : Meaning P) (old : P) (call : Call) (new : P) : Type 0 where
  pub step : m.after old call new
  pub kept : m.faults new ≡ m.faults old

-- The call was made in the state `old` and failed with this error, with the state `new` after it. The failure was
-- counted, if the printer counts failures and the count is below its greatest value.
pub record Failed {P : Type 0} (m : Meaning P) (old : P) (call : Call) (error : IoError) (new : P) : Type 0 where
  pub may : m.may_fail old call
  pub left : m.partly old call error new
  pub counted : m.faults new ≡ one_more (m.faults old)

-- `new` is the state after a list of calls, each of which succeeded.
abbrev pub Run : {P : Type 0} → Meaning P → P → List Call → P → Type 0
Run m old [] new = old ≡ new
Run m old (call ∷ calls) new = (between : _) × Succeeded m old call between × Run m between calls new
