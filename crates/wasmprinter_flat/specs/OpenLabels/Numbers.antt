-- Labels with names, each with a number that is the same for equal given names.
use Rattle.std.specs.Prelude.{◌≡◌, ℕ, ◌<◌, ◌==◌, List, length, bytes_eq, Option, Some}
use Rattle.std.specs.List.{All}
use Rattle.std.specs.Borrow.{Bor}
use Rattle.std.specs.Ordering.{nat_cmp}
use Rattle.std.specs.Cmp.Lexicographic.{slice_cmp}
use Rattle.std.specs.BTreeMap.{BTreeMap, get_by}
use Rattle.wasmprinter_flat.specs.declared.open_labels.label_numbering.NumberedLabel.{NumberedLabel}

-- The name that the label was given.
abbrev pub given_of : NumberedLabel → List ℕ
given_of x = x.label.name.given.now

-- The number of a given name, if it has one.
abbrev pub number_of : BTreeMap (Bor (List ℕ)) ℕ → List ℕ → Option ℕ
number_of numbers name = get_by (λ k. slice_cmp nat_cmp name k.now) numbers

-- Each label has the number of its given name, no two names share a number, and all numbers are below the number
-- of labels.
pub record IsNumbering (numbers : BTreeMap (Bor (List ℕ)) ℕ) (xs : List NumberedLabel) : Type 0 where
  pub known : All (λ x. number_of numbers (given_of x) ≡ Some x.name_number) xs
  pub apart : (q r : List ℕ) (n : ℕ) → number_of numbers q ≡ Some n → number_of numbers r ≡ Some n → q ≡ r
  pub few : (q : List ℕ) (n : ℕ) → number_of numbers q ≡ Some n → n < length xs

-- The number of each label is below the number of labels, and two labels have the same number if and only if they
-- have the same given name.
pub record AreNumbered (xs : List NumberedLabel) : Type 0 where
  pub few : All (λ x. x.name_number < length xs) xs
  pub same : All (λ x. All (λ y. (x.name_number == y.name_number) ≡ bytes_eq (given_of x) (given_of y)) xs) xs
