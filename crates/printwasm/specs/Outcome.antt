-- The outcome of a run: the text that it writes, the error for which it writes none, what it reports, and its exit
-- status.
use Rattle.std.specs.Prelude.{◌≡◌, ℕ, ◌≤◌, ◌⊎◌, ◌↔◌, List, [], ◌∷◌, ◌++◌, Bool, true, false, Option, Some, None, Result, Ok, Err, codes}
use Rattle.std.specs.Fmt.{◌++?◌}
use Rattle.std.specs.declared.io.Error.{Error as IoError}
use Rattle.std.specs.declared.string.String.{String}
use Rattle.wasmprinter_bytes.specs.declared.library_error.Error.{Error}
use Rattle.wasmprinter_bytes.specs.declared.library_error.Error.TheVariants.{Printer}
use Rattle.wasmprinter_spec.specs.Options.{Options}
use Rattle.wasmprinter.specs.Printed.{IsTextOf}
use Rattle.wasmprinter.specs.Colored.{HasColoredTextBy}
use Rattle.wasmprinter.specs.TextOfFile.{Reading, IsRefusedBy}
use Rattle.printwasm.specs.Words.{Choice, named_file, choice_of, AreWordsOf, CannotReadWords}
use Rattle.printwasm.specs.Unread.{words_error}
use Rattle.printwasm.specs.declared.error_lines.WordsError.{WordsError}

-- The possible results of writing a text, with the states of the sink before and after. The text is `None` if no
-- contract specifies it.
abbrev pub TextWrite : Type 0 → Type 1
TextWrite W = W → Option (List ℕ) → Result (Unit {0}) IoError → W → Type 0

-- A sink during a run: the writes to it, and its states before and after the run.
pub record Writes (W : Type 0) : Type 1 where
  -- The possible results of a write.
  pub takes : TextWrite W
  -- The state before the run.
  pub old : W
  -- The state after the run.
  pub new : W

-- The sink with these possible results of a write, and with these states before and after the run.
abbrev pub writes : {W : Type 0} → TextWrite W → W → W → Writes W
writes takes old new = record { takes = takes; old = old; new = new }

-- The text was written in one write, which returned this result.
abbrev pub TakesOnce : {W : Type 0} → Writes W → Option (List ℕ) → Result (Unit {0}) IoError → Type 0
TakesOnce sink text answer = sink.takes sink.old text answer sink.new

-- Nothing was written.
abbrev pub IsUnchanged : {W : Type 0} → Writes W → Type 0
IsUnchanged sink = sink.new ≡ sink.old

-- The text was written in one write, whatever the result.
abbrev pub IsWrittenOnce : {W : Type 0} → Writes W → Option (List ℕ) → Type 0
IsWrittenOnce sink text = (answer : Result (Unit {0}) IoError) × TakesOnce sink text answer

-- The text is that of the module with these options, with ANSI escape sequences or without.
abbrev pub HasTextIn : Bool → Options → List ℕ → List ℕ → Type 0
HasTextIn true o wasm text = HasColoredTextBy o wasm text
HasTextIn false o wasm text = IsTextOf o wasm text

-- The text, in the chosen form, of the module that the bytes encode.
abbrev pub IsTextBy : Choice → List ℕ → List ℕ → Type 0
IsTextBy c wasm text = HasTextIn c.colored c.options wasm text

-- Reading the file may return bytes that encode a module with this text in the chosen form.
abbrev pub GivesText : Choice → Reading → List ℕ → Type 0
GivesText c may_read text = (wasm : List ℕ) × may_read (Some wasm) × IsTextBy c wasm text

-- The file has no text: it can't be read, or its module can't be printed for a cause that is true of its bytes.
abbrev pub GivesNoText : Choice → Reading → Error → Type 0
GivesNoText c may_read error = IsRefusedBy c.options may_read error

-- The text of the file's module was written in one write, which returned this result.
abbrev pub WritesModuleText : {W : Type 0} → Choice → Reading → Writes W → Result (Unit {0}) IoError → Type 0
WritesModuleText c may_read out answer = (text : List ℕ) × GivesText c may_read text × TakesOnce out (Some text) answer

-- The module is not printed: either the file has no text and nothing was written, or the one write of its text
-- failed.
abbrev pub FailsToWrite : {W : Type 0} → Choice → Reading → Writes W → Error → Type 0
FailsToWrite c may_read out error = (GivesNoText c may_read error × IsUnchanged out)
    ⊎ ((failure : IoError) × WritesModuleText c may_read out (Err failure) × (error ≡ Printer failure))

-- The line that shows the usage of the program.
abbrev pub usage_line : List ℕ
usage_line = codes "usage: printwasm [--offsets] [--skeleton] [--name-unnamed] [--fold] [--color] FILE" ++ (10 ∷ [])

-- The line that reports an error with this text, or `None` if no contract specifies the text.
abbrev pub error_line : Option (List ℕ) → Option (List ℕ)
error_line text = Some (codes "error: ") ++? text ++? Some (10 ∷ [])

-- The text that an error of this type may have, or `None` for a text that no contract specifies.
abbrev pub Rendering : Type 0 → Type 1
Rendering X = X → Option (List ℕ) → Type 0

-- This error was reported: the line with its text was written in one write, whatever the result.
abbrev pub ReportsError : {V X : Type 0} → Writes V → Rendering X → X → Type 0
ReportsError err renders error = (text : Option (List ℕ)) × renders error text × IsWrittenOnce err (error_line text)

-- The exit statuses: the text was printed (`printed_status`); the module was not printed, or the arguments can't be
-- read (`refused_status`); the words do not name one file, or one is an unknown option (`misused_status`).
abbrev pub printed_status : ℕ
printed_status = 0

abbrev pub refused_status : ℕ
refused_status = 1

abbrev pub misused_status : ℕ
misused_status = 2

-- What a run reads and writes: what reading each file may return, the texts of the library's errors, and the two
-- sinks.
pub record System (W V : Type 0) : Type 1 where
  -- The possible results of reading each file.
  pub may_read : List ℕ → Reading
  -- The texts that an error may have.
  pub renders : Rendering Error
  -- The output.
  pub out : Writes W
  -- The error output.
  pub err : Writes V

-- The system with these parts, in the order of the fields: results of reading each file, texts of errors, output, error
-- output.
abbrev pub system : {W V : Type 0} → (List ℕ → Reading) → Rendering Error → Writes W → Writes V → System W V
system may_read renders out err = record { may_read = may_read; renders = renders; out = out; err = err }

-- The outcome of a run with these words. The statuses are 0 (`printed_status`), 1 (`refused_status`) and 2
-- (`misused_status`). The output and the error output are `s.out` and `s.err`.
pub record HasOutcome {W V : Type 0} (s : System W V) (words : List (List ℕ)) (status : ℕ) : Type 0 where
  -- The status is `misused_status` if and only if the words do not name one file or contain an unknown option.
  pub usage : (status ≡ misused_status) ↔ (named_file words ≡ None)
  -- There is no other status than the three.
  pub bound : status ≤ misused_status
  -- After `misused_status`, the output is unchanged.
  pub silent : status ≡ misused_status → IsUnchanged s.out
  -- After `misused_status`, the usage line was written to the error output in one write, whatever the result.
  pub misused : status ≡ misused_status → IsWrittenOnce s.err (Some usage_line)
  -- After `printed_status`, the text of the module in the named file, in the chosen form, was written in one write,
  -- which succeeded.
  pub printed : status ≡ printed_status →
      (file : List ℕ) × (named_file words ≡ Some file) × WritesModuleText (choice_of words) (s.may_read file) s.out (Ok tt)
  -- After `printed_status`, the error output is unchanged.
  pub quiet : status ≡ printed_status → IsUnchanged s.err
  -- After `refused_status`, the module in the named file was not printed, for an error that was reported.
  pub refused : status ≡ refused_status →
      (file : List ℕ) × (error : Error) × (named_file words ≡ Some file)
      × FailsToWrite (choice_of words) (s.may_read file) s.out error
      × ReportsError s.err s.renders error

-- The arguments were read as words, and the run with these words has its outcome. The order is: what `next` of the
-- iterator may return, the arguments, what the run reads and writes, the status.
abbrev pub RunsWithWords : {I A W V : Type 0} → (I → Option (String A) → I → Type 0) → Result I IoError → System W V → ℕ → Type 0
RunsWithWords next_gives args s status = (words : List (List ℕ)) × AreWordsOf next_gives args words × HasOutcome s words status

-- The words can't be read. A line that reports the error was written to the error output in one write, whatever the
-- result, the output is unchanged, and the status is 1 (`refused_status`). The order is: the error, the texts that an
-- error may have, the output, the error output, the status.
abbrev pub RefusesArguments : {W V : Type 0} → IoError → Rendering WordsError → Writes W → Writes V → ℕ → Type 0
RefusesArguments error renders out err status =
    ReportsError err renders (words_error error) × IsUnchanged out × (status ≡ refused_status)

-- The arguments can't be read as words, for an error with `RefusesArguments`: it was reported on the error output, the
-- output is unchanged, and the status is 1. The order is: the arguments, the texts that an error may have, the output,
-- the error output, the status.
abbrev pub RefusesToRead : {I W V : Type 0} → Result I IoError → Rendering WordsError → Writes W → Writes V → ℕ → Type 0
RefusesToRead args renders out err status =
    (error : IoError) × CannotReadWords args error × RefusesArguments error renders out err status
