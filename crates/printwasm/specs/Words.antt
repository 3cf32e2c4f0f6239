-- The words of the program: its arguments without its own name.
use Rattle.std.specs.Prelude.{◌≡◌, ℕ, ◌⊎◌, List, [], ◌∷◌, map, drop, filter, Bool, not, ◌||◌, bytes_eq, nat_eq, codes, Option, None, if◌then◌else◌, Result, IsOk, IsOkAnd, IsErrAnd, string_bytes}
use Rattle.std.specs.List.{starts_with, list_any, list_all}
use Rattle.wasmprinter_spec.specs.Options.{Options, defaults}
use Rattle.wasmprinter_spec.specs.Text.Items.{the_only}
use Rattle.std.specs.IoError.{error_kind}
use Rattle.std.specs.Iterator.Runs.{WholeRun}
use Rattle.std.specs.declared.io.Error.{Error as IoError}
use Rattle.std.specs.declared.io.ErrorKind.TheVariants.{OutOfMemory}
use Rattle.std.specs.declared.string.String.{String}

-- A word with this prefix chooses an option.
abbrev pub is_option : List ℕ → Bool
is_option word = starts_with nat_eq word (codes "--")

-- The words contain this word.
abbrev pub has : List (List ℕ) → List ℕ → Bool
has words word = list_any (λ w. bytes_eq w word) words

-- The options of the program: `offsets_option`, `skeleton_option`, `name_unnamed_option`, `fold_option` and
-- `color_option`.
abbrev pub offsets_option : List ℕ
offsets_option = codes "--offsets"

abbrev pub skeleton_option : List ℕ
skeleton_option = codes "--skeleton"

abbrev pub name_unnamed_option : List ℕ
name_unnamed_option = codes "--name-unnamed"

abbrev pub fold_option : List ℕ
fold_option = codes "--fold"

abbrev pub color_option : List ℕ
color_option = codes "--color"

-- An option of the program, or a file.
abbrev pub is_known : List ℕ → Bool
is_known word =
    not (is_option word) || has (offsets_option ∷ (skeleton_option ∷ (name_unnamed_option ∷ (fold_option ∷ (color_option ∷ []))))) word

-- The words that are files.
abbrev pub files : List (List ℕ) → List (List ℕ)
files words = filter (λ w. not (is_option w)) words

-- The file that the words name: the only file among them, at any position, if each other word is an option of the
-- program.
abbrev pub named_file : List (List ℕ) → Option (List ℕ)
named_file words = if list_all is_known words then the_only (files words) else None

-- The choices that words make: the options of printing, and whether the text has ANSI escape sequences.
pub record Choice : Type 0 where
  pub options : Options
  pub colored : Bool

-- The choices of the options, at any position and any number of times.
abbrev pub choice_of : List (List ℕ) → Choice
choice_of words = record {
  options = record defaults {
    offsets = has words offsets_option;
    skeleton = has words skeleton_option;
    synthesizes = has words name_unnamed_option;
    folds = has words fold_option;
  };
  colored = has words color_option;
}

-- `args` is `Ok` of an iterator, and the words are all items that it returns before the first `None`, in order, except
-- the first item, which is the program's name (`drop 1`). There are no words if there is no item.
abbrev pub AreWordsOf : {I A : Type 0} → (I → Option (String A) → I → Type 0) → Result I IoError → List (List ℕ) → Type 0
AreWordsOf next_gives args words = IsOkAnd args (λ all. WholeRun next_gives all (λ p. words ≡ map string_bytes (drop 1 p.items)))

-- The error for which the words can't be read: the system did not return them, and this is its error, or it did,
-- and an allocation failed.
abbrev pub CannotReadWords : {I : Type 0} → Result I IoError → IoError → Type 0
CannotReadWords args error = IsErrAnd args (λ e. error ≡ e) ⊎ (IsOk args × (error_kind error ≡ OutOfMemory))
