-- The results of a run. `may_read` gives the possible results of reading a file.
use Rattle.std.specs.Prelude.{◌≡◌, ◌++◌, ℕ, ◌+◌, List, [], ◌∷◌, Option, Some, None, length, slice_get, codes, decimal, false}
use Rattle.std.specs.Fmt.{digits}
use Rattle.std.specs.Str.{trim}
use Rattle.wasmprinter_spec.specs.Options.{defaults}
use Rattle.wasmprinter_spec.specs.Lines.{TextLine, line_places}
use Rattle.wasmprinter.specs.Lined.{HasLinesBy}
use Rattle.wasmprinter.specs.TextOfFile.{Reading, IsRefusedBy}
use Rattle.example_lines.specs.Answers.{IsIndexFor, IsOutside}
use Rattle.example_lines.specs.Queries.{AsksFor}
use Rattle.example_lines.specs.declared.Failure.{Failure}
use Rattle.example_lines.specs.declared.Failure.TheVariants.{Usage, Outside, Refused}
use Rattle.example_lines.specs.declared.query.Query.{Query}

-- The answer that shows a line with this number, counted from 1: the number, the byte offset at which the line starts, or
-- that it shows no byte, and the text of the line without the white space around it.
abbrev pub answer_text : ℕ → TextLine → List ℕ
answer_text number (Some place, text) =
    codes "line " ++ (decimal number ++ (codes " starts at byte 0x" ++ (digits 16 false place ++ (codes ": " ++ trim text))))
answer_text number (None, text) = codes "line " ++ (decimal number ++ (codes " shows no byte: " ++ trim text))

-- The bytes encode a module whose text, with the default options, has these lines.
abbrev pub HaveLines : List ℕ → List TextLine → Type 0
HaveLines wasm lines = (text : List ℕ) × HasLinesBy defaults wasm [] text lines

-- The answer shows the line that the query asks for, in the module that the bytes encode.
pub record IsAnswer (wasm : List ℕ) (query : Query) (answer : List ℕ) : Type 0 where
  -- The lines of the module's text.
  pub lines : List TextLine
  pub have : HaveLines wasm lines
  -- The index of the line that the query asks for.
  pub index : ℕ
  pub found : IsIndexFor (line_places lines) (length wasm) query index
  -- The line.
  pub line : TextLine
  pub at : slice_get lines index ≡ Some line
  -- Lines are numbered from 1.
  pub is : answer ≡ answer_text (index + 1) line

-- The query has no answer in the module that the bytes encode: the module has no such byte, no line shows it, or the text
-- has no such line.
pub record HasNoAnswer (wasm : List ℕ) (query : Query) : Type 0 where
  -- The lines of the module's text.
  pub lines : List TextLine
  pub have : HaveLines wasm lines
  pub outside : IsOutside (line_places lines) (length wasm) query

-- The result for the query in the module that the bytes encode: its answer, or `None` if it has no answer.
abbrev pub AnswersQuery : List ℕ → Query → Option (List ℕ) → Type 0
AnswersQuery wasm query (Some answer) = IsAnswer wasm query answer
AnswersQuery wasm query None = HasNoAnswer wasm query

-- The result for the query in the module of a file.
abbrev pub AnswersFromFile : Reading → Query → Option (List ℕ) → Type 0
AnswersFromFile may_read query answer = (wasm : List ℕ) × may_read (Some wasm) × AnswersQuery wasm query answer

-- The words are this file and a word that asks for this.
abbrev pub AskAbout : List (List ℕ) → List ℕ → Query → Type 0
AskAbout words file query = (word : List ℕ) × (words ≡ file ∷ word ∷ []) × AsksFor word query

-- The words name a file and a query, and this is the answer to the query in the file's module.
abbrev pub GivesAnswer : (List ℕ → Reading) → List (List ℕ) → List ℕ → Type 0
GivesAnswer may_read words answer =
    (file : List ℕ) × (query : Query) × AskAbout words file query × AnswersFromFile (may_read file) query (Some answer)

-- A run with these words has this failure: the words are not a file and a query, or the query has no answer in the file's
-- module, or the file has no text.
abbrev pub IsFailureOf : (List ℕ → Reading) → List (List ℕ) → Failure → Type 0
IsFailureOf may_read words Usage = (file : List ℕ) (query : Query) → ¬ (AskAbout words file query)
IsFailureOf may_read words (Outside query) =
    (file : List ℕ) × AskAbout words file query × AnswersFromFile (may_read file) query None
IsFailureOf may_read words (Refused error) =
    (file : List ℕ) × ((query : Query) × AskAbout words file query) × IsRefusedBy defaults (may_read file) error
