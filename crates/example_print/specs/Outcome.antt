-- The results of a run.
use Rattle.std.specs.Prelude.{◌≡◌, ◌≢◌, ℕ, List, [], ◌∷◌, length}
use Rattle.wasmprinter_spec.specs.Options.{defaults}
use Rattle.wasmprinter.specs.TextOfFile.{Reading, IsTextOfFile, IsRefusedBy}
use Rattle.example_print.specs.declared.Failure.{Failure}
use Rattle.example_print.specs.declared.Failure.TheVariants.{Usage, Refused}

-- The exit status after a failure.
abbrev pub status_of : Failure → ℕ
status_of Usage = 2
status_of (Refused error) = 1

-- The only word names a file, and this is the text of its module. `may_read` gives the possible results of reading each
-- file.
abbrev pub GivesText : (List ℕ → Reading) → List (List ℕ) → List ℕ → Type 0
GivesText may_read words text = (file : List ℕ) × (words ≡ file ∷ []) × IsTextOfFile (may_read file) text

-- A run with these words has this failure: there is not exactly one word, or the file that it names has no text.
abbrev pub IsFailureOf : (List ℕ → Reading) → List (List ℕ) → Failure → Type 0
IsFailureOf may_read words Usage = length words ≢ 1
IsFailureOf may_read words (Refused error) =
    (file : List ℕ) × (words ≡ file ∷ []) × IsRefusedBy defaults (may_read file) error
