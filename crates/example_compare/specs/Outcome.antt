-- The results of a run. `may_read` gives the possible results of reading each file.
use Rattle.std.specs.Prelude.{◌≡◌, ◌≢◌, ◌↔◌, ◌⊎◌, ℕ, List, [], ◌∷◌, Option, Some, None, Result, Ok, Err, IsNone, length}
use Rattle.wasmprinter_spec.specs.Options.{defaults}
use Rattle.wasmprinter.specs.TextOfFile.{Reading, IsTextOfFile, IsRefusedBy}
use Rattle.example_compare.specs.declared.Failure.{Failure}
use Rattle.example_compare.specs.declared.Failure.TheVariants.{Usage, Refused, Memory}

-- The exit status for what a run returned.
abbrev pub status_of : {A : Type 0} → Result (Option A) Failure → ℕ
status_of (Ok None) = 0
status_of (Ok (Some difference)) = 1
status_of (Err failure) = 2

-- The words name two files. There is no difference if and only if the texts of their modules are equal.
pub record Compares {A : Type 0} (may_read : List ℕ → Reading) (words : List (List ℕ)) (difference : Option A) : Type 0 where
  pub left_file : List ℕ
  pub right_file : List ℕ
  pub named : words ≡ left_file ∷ right_file ∷ []
  pub left : List ℕ
  pub right : List ℕ
  pub left_text : IsTextOfFile (may_read left_file) left
  pub right_text : IsTextOfFile (may_read right_file) right
  pub exact : IsNone difference ↔ (left ≡ right)

-- The failure is that of this file, which has no text.
abbrev pub IsRefused : (List ℕ → Reading) → List ℕ → Failure → Type 0
IsRefused may_read name (Refused file error) = (file.now ≡ name) × IsRefusedBy defaults (may_read name) error
IsRefused may_read name failure = ⊥

-- The failure is that of the first of the two files that has no text.
abbrev pub IsRefusedFirst : (List ℕ → Reading) → List ℕ → List ℕ → Failure → Type 0
IsRefusedFirst may_read left right failure =
    IsRefused may_read left failure
    ⊎ (((text : List ℕ) × IsTextOfFile (may_read left) text) × IsRefused may_read right failure)

-- Both files have texts, and these differ.
abbrev pub HaveTextsThatDiffer : (List ℕ → Reading) → List ℕ → List ℕ → Type 0
HaveTextsThatDiffer may_read left right =
    (text other : List ℕ) × IsTextOfFile (may_read left) text × IsTextOfFile (may_read right) other × (text ≢ other)

-- A run with these words has this failure: there are not exactly two words, or a file has no text and this is the failure
-- of the first such file. `Memory` is possible only if both files have texts and these differ: an allocation failed while
-- the difference was written.
abbrev pub IsFailureOf : (List ℕ → Reading) → List (List ℕ) → Failure → Type 0
IsFailureOf may_read words Usage = length words ≢ 2
IsFailureOf may_read words (Refused file error) =
    (left right : List ℕ) × (words ≡ left ∷ right ∷ []) × IsRefusedFirst may_read left right (Refused file error)
IsFailureOf may_read words Memory = (left right : List ℕ) × (words ≡ left ∷ right ∷ []) × HaveTextsThatDiffer may_read left right
