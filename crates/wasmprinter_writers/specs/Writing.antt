-- The meaning of writes of bytes.
use Rattle.std.specs.Prelude.{◌≡◌, ℕ, ◌⊎◌, List, [], ◌∷◌, Option, Result, Ok, Err, OnOk, IsErrAnd}
use Rattle.std.specs.Io.KnownBytes.{Appends}
use Rattle.std.specs.declared.io.Error.{Error as IoError}

-- The results that a write of bytes may have, and the states of the writer after it.
abbrev pub Writing : Type 0 → Type 1
Writing T = T → List ℕ → Result (Unit {0}) IoError → T → Type 0

-- On success the writer's contents, if it reports them, grow by the bytes. Nothing is known of a write that failed.
abbrev pub TakesWhole : {T : Type 0} → (T → Option (List ℕ)) → Writing T
TakesWhole contents old bytes answer new = OnOk answer (Appends (contents old) (contents new) bytes)

-- Nothing is written, and the result is `Ok`.
abbrev pub WritesNothing : {T : Type 0} → T → Result (Unit {0}) IoError → T → Type 0
WritesNothing old answer new = (answer ≡ Ok tt) × (new ≡ old)

-- The byte strings are written in order, up to the first write that fails. The result is the error of that write,
-- and nothing is written after it.
abbrev pub WritesEach : {T : Type 0} → Writing T → T → List (List ℕ) → Result (Unit {0}) IoError → T → Type 0
WritesEach takes old [] answer new = WritesNothing old answer new
WritesEach {T} takes old (bytes ∷ rest) answer new =
    IsErrAnd answer (λ e. takes old bytes (Err e) new)
    ⊎ ((between : T) × takes old bytes (Ok tt) between × WritesEach takes between rest answer new)
