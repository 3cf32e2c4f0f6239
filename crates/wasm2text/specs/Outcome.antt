-- The outcome of a run: what is printed and written, which failures are reported, and the exit status.
use Rattle.std.specs.Prelude.{◌≡◌, ◌≢◌, ℕ, ◌⊎◌, List, [], ◌∷◌, Bool, true, false, ◌&&◌, codes, Option, Some, None, is_none, Result, Ok, Err, cond, if◌then◌else◌}
use Rattle.std.specs.List.{concat}
use Rattle.std.specs.IoError.{error_kind}
use Rattle.std.specs.declared.io.Error.{Error as IoError}
use Rattle.wasmprinter_bytes.specs.declared.library_error.Error.{Error}
use Rattle.wasmprinter_bytes.specs.declared.library_error.Error.TheVariants.{DylinkSubsection, Memory as NoMemory, Printer}
use Rattle.wasmprinter_spec.specs.Options.{Options}
use Rattle.wasmprinter_writers.specs.Writing.{Writing, WritesEach}
use Rattle.wasmprinter.specs.Printed.{IsTextOf}
use Rattle.wasmprinter.specs.Colored.{HasColoredTextBy}
use Rattle.wasmprinter.specs.Prefix.{PutsPrefix}
use Rattle.wasmprinter.specs.TextOfFile.{AreRefused}
use Rattle.wasm2text.specs.Arguments.{Argument, IsCommandLine, IsArgumentError, Request, request_of, with_input}
use Rattle.wasm2text.specs.Excerpt.{HaveNoByte, HaveNoCode}
use Rattle.wasm2text.specs.FunctionText.{Function, HaveNoFunction}
use Rattle.wasm2text.specs.HiddenText.{AreUndecoded}
use Rattle.wasm2text.specs.Messages.{is_closed_pipe, Failure, failure_line, misuse_line}
use Rattle.wasm2text.specs.OutputFiles.{Creating, Closing, WritesFile, FlushesFile, ClosesFile, uncreated_file}
use Rattle.wasm2text.specs.OwnTexts.{help_text, version_text}
use Rattle.wasm2text.specs.Parts.{Part, Excerpt, OneFunction, Hidden, part_view, IsPartOf}
use Rattle.wasm2text.specs.declared.cause.Cause.{Cause}
use Rattle.wasm2text.specs.declared.cause.Cause.TheVariants.{System as Unread, Module, NoByte, NoCode, NoFunction, Output}
use Rattle.wasm2text.specs.declared.form.Form.{Form as ReadForm}
use Rattle.wasm2text.specs.declared.form.Form.TheVariants as read
use Rattle.wasm2text.specs.declared.printing.Style.{Style}
use Rattle.wasm2text.specs.declared.printing.Ended.{Ended}
use Rattle.wasm2text.specs.declared.printing.Ended.TheVariants.{Printed, Refused, Unwritten}
use Rattle.wasm2text.specs.declared.output.OutputFile.{OutputFile}
use Rattle.wasm2text.specs.declared.misuse.ArgumentError.{ArgumentError}
use Rattle.wasm2text.specs.declared.misuse.ArgumentError.TheVariants.{Memory}
use Rattle.wasm2text.specs.declared.options.ColorChoice.{ColorChoice}
use Rattle.wasm2text.specs.declared.options.ColorChoice.TheVariants.{Auto, Always, Never}
use Rattle.wasm2text.specs.declared.target.Target.{Target}
use Rattle.wasm2text.specs.declared.target.Target.TheVariants.{CodeByte}

-- What is written for a module: the text, the text with ANSI escape sequences, or a part without them.
pub data Form : Type 0 where
  Plain : Form
  InColors : Form
  PartForm : Part → Form

-- The form that the program's value represents.
abbrev pub form_view : ReadForm → Form
form_view read.Plain = Plain
form_view read.InColors = InColors
form_view (read.Part part) = PartForm (part_view part)

-- How a module is printed: the options of printing, and the form.
pub record Choice : Type 0 where
  pub options : Options
  pub form : Form

-- Colors are chosen: `auto` chooses them if standard output shows colors and the text goes there.
abbrev pub is_colored : ColorChoice → Option (List ℕ) → Bool → Bool
is_colored Auto output shows_colors = shows_colors && is_none output
is_colored Always output shows_colors = true
is_colored Never output shows_colors = false

-- The choice with these parts.
abbrev pub choice : Options → Form → Choice
choice o form = record { options = o; form = form }

-- The choice that the program's value represents.
abbrev pub style_choice : Style → Choice
style_choice style = choice style.options.config.now (form_view style.form)

-- The form: a part if one is chosen, and otherwise the text, with colors or without. A part has no colors.
abbrev pub form_of : Option Part → Bool → Form
form_of (Some part) colored = PartForm part
form_of None colored = if colored then InColors else Plain

-- The choice of a request, if standard output shows colors or does not.
abbrev pub choice_of : Request → Bool → Choice
choice_of request shows_colors = choice request.options (form_of request.part (is_colored request.color request.output shows_colors))

-- The text is that of the module that the bytes encode, with ANSI escape sequences or without, or is the part.
abbrev pub HasTextIn : Form → Options → List ℕ → List ℕ → Type 0
HasTextIn InColors o wasm text = HasColoredTextBy o wasm text
HasTextIn Plain o wasm text = IsTextOf o wasm text
HasTextIn (PartForm part) o wasm text = IsPartOf o wasm part text

-- The bytes are refused with this error: by decoding, if what no text shows is to be written, and otherwise by printing.
abbrev pub AreRefusedIn : Form → Options → List ℕ → Error → Type 0
AreRefusedIn (PartForm Hidden) o wasm error = AreUndecoded wasm error
AreRefusedIn form o wasm error = AreRefused o wasm error

-- The text is empty, or a prefix of the text of the module that the bytes encode, without ANSI escape sequences.
abbrev pub IsBeginning : Options → List ℕ → List ℕ → Type 0
IsBeginning o wasm text = (text ≡ []) ⊎ PutsPrefix o wasm (λ prefix. prefix ≡ text)

-- The calls on a writer: the possible results of writing bytes and of flushing, with the states before and after. A
-- writer to a file that is not created yet has the name of that file.
pub record Writer (W : Type 0) : Type 1 where
  pub takes : Writing W
  pub flushes : W → Result (Unit {0}) IoError → W → Type 0
  pub uncreated : W → Option (List ℕ)

-- The writer with these calls and this name. The order is that of the fields.
abbrev pub writer : {W : Type 0} → Writing W → (W → Result (Unit {0}) IoError → W → Type 0) → (W → Option (List ℕ)) → Writer W
writer takes flushes uncreated = record { takes = takes; flushes = flushes; uncreated = uncreated }

-- The text was written in pieces, each by a write that succeeded.
abbrev pub WritesAll : {W : Type 0} → Writer W → W → List ℕ → W → Type 0
WritesAll w old text new = (pieces : List (List ℕ)) × (concat pieces ≡ text) × WritesEach w.takes old pieces (Ok tt) new

-- The text was written, and the writer was flushed.
abbrev pub Delivers : {W : Type 0} → Writer W → W → List ℕ → W → Type 0
Delivers {W} w old text new = (last : W) × WritesAll w old text last × w.flushes last (Ok tt) new

-- After this text was written, the next write failed with this error.
abbrev pub StopsAfter : {W : Type 0} → Writer W → W → List ℕ → IoError → W → Type 0
StopsAfter {W} w old text error new = (last : W) × (piece : List ℕ) × WritesAll w old text last × w.takes last piece (Err error) new

-- After the text was written, flushing failed with this error.
abbrev pub StaysBehind : {W : Type 0} → Writer W → W → List ℕ → IoError → W → Type 0
StaysBehind {W} w old text error new = (last : W) × WritesAll w old text last × w.flushes last (Err error) new

-- The possible results of reading a file, with the states of the source of files before and after.
abbrev pub Reading : Type 0 → Type 1
Reading I = I → List ℕ → Result (List ℕ) IoError → I → Type 0

-- Reading this file has this result, by the possible results of reading files and standard input. The file `-` is
-- standard input.
abbrev pub Reads : {I : Type 0} → Reading I → (I → Result (List ℕ) IoError → I → Type 0) → Reading I
Reads reads reads_input old file answer new = ((file ≡ codes "-") × reads_input old answer new) ⊎ ((file ≢ codes "-") × reads old file answer new)

-- Reading a file once between these states of the source of files.
abbrev pub between : {I : Type 0} → Reading I → I → I → List ℕ → Result (List ℕ) IoError → Type 0
between reads old new file answer = reads old file answer new

-- Reading any file returns these bytes.
abbrev pub Returns : List ℕ → List ℕ → Result (List ℕ) IoError → Type 0
Returns wasm file answer = answer ≡ Ok wasm

-- Printing a file to a writer: the possible results of reading each file, how the text is made, and the writer.
pub record Printing (W : Type 0) : Type 1 where
  pub may_read : List ℕ → Result (List ℕ) IoError → Type 0
  pub choice : Choice
  pub out : Writer W

-- The printing with these parts. The order is that of the fields.
abbrev pub printing : {W : Type 0} → (List ℕ → Result (List ℕ) IoError → Type 0) → Choice → Writer W → Printing W
printing may_read choice out = record { may_read = may_read; choice = choice; out = out }

-- The text of the module in this file was delivered.
abbrev pub PrintsFile : {W : Type 0} → Printing W → W → List ℕ → W → Type 0
PrintsFile p old file new =
    (wasm text : List ℕ) × p.may_read file (Ok wasm) × HasTextIn p.choice.form p.choice.options wasm text × Delivers p.out old text new

-- The text without ANSI escape sequences is written while it is made. All else is written when it is complete.
abbrev pub is_streamed : Form → Bool
is_streamed Plain = true
is_streamed form = false

-- A part of the text may be written before this error, if it is written while it is made: before an unknown subsection of
-- a `dylink.0` section, and if operators are folded, before an allocation fails.
abbrev pub is_late : Choice → Error → Bool
is_late c (DylinkSubsection id) = is_streamed c.form
is_late c NoMemory = is_streamed c.form && c.options.folds
is_late c error = false

-- The text that was written before a write failed: a prefix of the text of the module that the bytes encode. A text with
-- ANSI escape sequences and a part are written in one write, so nothing was written before.
abbrev pub IsCutText : Form → Options → List ℕ → List ℕ → Type 0
IsCutText InColors o wasm text = (text ≡ []) × ((whole : List ℕ) × HasColoredTextBy o wasm whole)
IsCutText Plain o wasm text = PutsPrefix o wasm (λ prefix. prefix ≡ text)
IsCutText (PartForm part) o wasm text = (text ≡ []) × ((whole : List ℕ) × IsPartOf o wasm part whole)

-- This file was not printed, for this cause: it can't be read and nothing was written; its module is refused; its module
-- does not have the byte, the code section or the function, and nothing was written; or the text can't be written.
abbrev pub FailsOn : {W : Type 0} → Printing W → W → List ℕ → Cause → W → Type 0
FailsOn p old file (Unread error) new = p.may_read file (Err error) × (new ≡ old)
FailsOn p old file (Module error) new =
    (wasm text : List ℕ) × p.may_read file (Ok wasm) × AreRefusedIn p.choice.form p.choice.options wasm error
    × (is_late p.choice error ≡ false → text ≡ []) × IsBeginning p.choice.options wasm text × WritesAll p.out old text new
FailsOn p old file (NoByte offset len) new =
    (wasm : List ℕ) × (target : Target) × p.may_read file (Ok wasm) × (p.choice.form ≡ PartForm (Excerpt target))
    × HaveNoByte p.choice.options wasm target offset len × (new ≡ old)
FailsOn p old file NoCode new =
    (wasm : List ℕ) × (offset : ℕ) × p.may_read file (Ok wasm) × (p.choice.form ≡ PartForm (Excerpt (CodeByte offset)))
    × HaveNoCode p.choice.options wasm × (new ≡ old)
FailsOn p old file NoFunction new =
    (wasm : List ℕ) × (function : Function) × p.may_read file (Ok wasm) × (p.choice.form ≡ PartForm (OneFunction function))
    × HaveNoFunction p.choice.options wasm function × (new ≡ old)
FailsOn p old file (Output error) new =
    (wasm text : List ℕ) × p.may_read file (Ok wasm)
    × ((IsCutText p.choice.form p.choice.options wasm text × StopsAfter p.out old text error new)
    ⊎ (HasTextIn p.choice.form p.choice.options wasm text × StaysBehind p.out old text error new))

-- The cause is that the text can't be written.
abbrev pub is_output : Cause → Bool
is_output (Output error) = true
is_output cause = false

-- How printing a file ended.
abbrev pub EndsAs : {W : Type 0} → Printing W → W → List ℕ → Ended → W → Type 0
EndsAs p old file Printed new = PrintsFile p old file new
EndsAs p old file (Refused cause) new = (is_output cause ≡ false) × FailsOn p old file cause new
EndsAs p old file (Unwritten error) new = FailsOn p old file (Output error) new

-- How printing ends after this result of writing the text. The writer is flushed if the text was written.
abbrev pub EndsBy : {W : Type 0} → Writer W → W → Result (Unit {0}) Error → Ended → W → Type 0
EndsBy w old (Ok x) ended new =
    ((ended ≡ Printed) × w.flushes old (Ok tt) new) ⊎ ((error : IoError) × (ended ≡ Unwritten error) × w.flushes old (Err error) new)
EndsBy w old (Err (Printer error)) ended new = (ended ≡ Unwritten error) × (new ≡ old)
EndsBy w old (Err error) ended new = (ended ≡ Refused (Module error)) × (new ≡ old)

-- The failure that is reported if the text of this file can't be written: the file with the name of the output can't be
-- created, or the text can't be written to it. There is none if the reader of the text closed the pipe.
abbrev pub write_failures : List ℕ → Option (List ℕ) → IoError → List Failure
write_failures name (Some output) error = record { name = output; cause = Unread error } ∷ []
write_failures name None error = cond (is_closed_pipe (error_kind error)) [] (record { name = name; cause = Output error } ∷ [])

-- Printing files to a writer: the possible results of reading each file, with the states of the source of files before
-- and after; how the texts are made; and the writer.
pub record Series (I W : Type 0) : Type 1 where
  pub reads : Reading I
  pub choice : Choice
  pub out : Writer W

-- The series with these parts. The order is that of the fields.
abbrev pub series : {I W : Type 0} → Reading I → Choice → Writer W → Series I W
series reads choice out = record { reads = reads; choice = choice; out = out }

-- Printing one of the files, which is read between these states of the source of files.
abbrev pub one_of : {I W : Type 0} → Series I W → I → I → Printing W
one_of s old new = printing (between s.reads old new) s.choice s.out

-- The files were read and printed one after the other, and these failures are to be reported, in order. The first file
-- whose text can't be written is the last one. The states of the source of files and of the writer are those before and
-- after.
abbrev pub PrintsEach : {I W : Type 0} → Series I W → I → W → List (List ℕ) → List Failure → I → W → Type 0
PrintsEach s before old [] failures after new = (failures ≡ []) × (after ≡ before) × (new ≡ old)
PrintsEach {I} {W} s before old (file ∷ files) failures after new =
    ((mid : I) × (next : W) × PrintsFile (one_of s before mid) old file next × PrintsEach s mid next files failures after new)
    ⊎ (((cause : Cause) × (mid : I) × (next : W) × (others : List Failure) × (is_output cause ≡ false)
    × FailsOn (one_of s before mid) old file cause next × (failures ≡ record { name = file; cause = cause } ∷ others)
    × PrintsEach s mid next files others after new)
    ⊎ ((error : IoError) × FailsOn (one_of s before after) old file (Output error) new × (failures ≡ write_failures file (s.out.uncreated new) error)))

-- The failures that are reported for a file, and whether files are printed after it, by how printing it ended and by the
-- name of an output that is not created.
abbrev pub IsNoted : Ended → List ℕ → Option (List ℕ) → List Failure → Bool → Type 0
IsNoted Printed file output failures goes_on = (failures ≡ []) × (goes_on ≡ true)
IsNoted (Refused cause) file output failures goes_on = (failures ≡ record { name = file; cause = cause } ∷ []) × (goes_on ≡ true)
IsNoted (Unwritten error) file output failures goes_on = (failures ≡ write_failures file output error) × (goes_on ≡ false)

-- This text of the program's own was delivered, or could not be written.
abbrev pub WritesText : {W : Type 0} → Writer W → W → List ℕ → List Failure → W → Type 0
WritesText w old text failures new =
    (Delivers w old text new × (failures ≡ []))
    ⊎ ((error : IoError) × (failures ≡ write_failures (codes "standard output") (w.uncreated new) error)
    × (w.takes old text (Err error) new ⊎ StaysBehind w old text error new))

-- The writer to a file that is created when its first byte is written, by this creator and the writer to a created file.
abbrev pub file_writer : {C F : Type 0} → Creating C F → Writer F → Writer (OutputFile C F)
file_writer creates w = writer (WritesFile creates w.takes) (FlushesFile w.flushes) (uncreated_file w.uncreated)

-- The files were printed to the file with this name. It is created when the first byte is written, and not before. At the
-- end it is closed. The states of the source of files and of the creator of files are those before and after.
abbrev pub PrintsToFile : {I C F : Type 0} → Reading I → Choice → Creating C F → Closing C F → Writer F → List ℕ → I → C → List (List ℕ) → List Failure → I → C → Type 0
PrintsToFile {I} {C} {F} reads choice creates closes w name before old files failures after new =
    (first last : OutputFile C F) × (first.path.now ≡ name) × (first.outputs ≡ old) × (first.file ≡ None)
    × PrintsEach (series reads choice (file_writer creates w)) before first files failures after last × ClosesFile closes last new

-- What a run reads and writes: the possible results of reading a file, of reading standard input and of creating a
-- file; closing it; the writers to standard output and to a created file; and the states of the error output before and after
-- a line.
pub record System (I C O F V : Type 0) : Type 1 where
  pub reads : Reading I
  pub reads_input : I → Result (List ℕ) IoError → I → Type 0
  pub creates : Creating C F
  pub closes : Closing C F
  pub out : Writer O
  pub file : Writer F
  pub sends : V → Option (List ℕ) → V → Type 0

-- A run: whether standard output shows colors; the states before and after of the source of files, of the creator of
-- files, of the writer to standard output and of the error output; and the exit status.
pub record Run (I C O V : Type 0) : Type 0 where
  pub shows_colors : Bool
  pub inputs_old : I
  pub inputs_new : I
  pub outputs_old : C
  pub outputs_new : C
  pub old : O
  pub new : O
  pub err_old : V
  pub err_new : V
  pub status : ℕ

-- The text of the program's own that the request asks for. The help takes precedence over the version.
abbrev pub own_text : Request → Option (List ℕ)
own_text request = if request.help then Some help_text else if request.version then Some version_text else None

-- The run did what the request asks for, and these failures are to be reported.
pub record CarriesOut {I C O F V : Type 0} (s : System I C O F V) (request : Request) (run : Run I C O V) (failures : List Failure) : Type 0 where
  -- The help or the version was written. No file was read or created.
  pub text : (text : List ℕ) → own_text request ≡ Some text →
      (run.inputs_new ≡ run.inputs_old) × (run.outputs_new ≡ run.outputs_old) × WritesText s.out run.old text failures run.new
  -- The files were printed to standard output. No file was created.
  pub prints : own_text request ≡ None → request.output ≡ None →
      (run.outputs_new ≡ run.outputs_old)
      × PrintsEach (series (Reads s.reads s.reads_input) (choice_of request run.shows_colors) s.out) run.inputs_old run.old request.files failures
      run.inputs_new run.new
  -- The files were printed to a file. Nothing was written to standard output.
  pub prints_to_file : (name : List ℕ) → own_text request ≡ None → request.output ≡ Some name →
      (run.new ≡ run.old)
      × PrintsToFile (Reads s.reads s.reads_input) (choice_of request run.shows_colors) s.creates s.closes s.file name run.inputs_old run.outputs_old
      request.files failures run.inputs_new run.outputs_new

-- Each of the failures was reported by a line, in order.
abbrev pub Reports : {V : Type 0} → (V → Option (List ℕ) → V → Type 0) → V → List Failure → V → Type 0
Reports sends old [] new = new ≡ old
Reports {V} sends old (failure ∷ failures) new = (next : V) × sends old (Some (failure_line failure)) next × Reports sends next failures new

-- The exit status: 0 if there are no failures, and otherwise 1.
abbrev pub status_of : List Failure → ℕ
status_of [] = 0
status_of failures = 1

-- The exit status after an error of the command line.
abbrev pub misuse_status : ArgumentError → ℕ
misuse_status Memory = 1
misuse_status error = 2

-- The line that reports an error of the command line, or that an allocation failed.
abbrev pub refusal_line : ArgumentError → List ℕ
refusal_line Memory = codes "wasm2text: out of memory\n"
refusal_line error = misuse_line error

-- The run did what the request asks for, and reported these failures.
pub record Serves {I C O F V : Type 0} (s : System I C O F V) (request : Request) (run : Run I C O V) : Type 0 where
  pub failures : List Failure
  pub done : CarriesOut s request run failures
  pub reports : Reports s.sends run.err_old failures run.err_new
  pub status : run.status ≡ status_of failures

-- The run reported this error. Nothing was read, created or written to standard output.
pub record Refuses {I C O F V : Type 0} (s : System I C O F V) (error : ArgumentError) (run : Run I C O V) : Type 0 where
  pub reports : s.sends run.err_old (Some (refusal_line error)) run.err_new
  pub unread : run.inputs_new ≡ run.inputs_old
  pub uncreated : run.outputs_new ≡ run.outputs_old
  pub silent : run.new ≡ run.old
  pub status : run.status ≡ misuse_status error

-- The run did what the request asks for. Or an allocation failed before the first file was read.
abbrev pub Performs : {I C O F V : Type 0} → System I C O F V → Request → Run I C O V → Type 0
Performs s request run = Serves s request run ⊎ ((own_text request ≡ None) × Refuses s Memory run)

-- The outcome of a run with these words: they are a command line and the run did what it asks for, or they have an error,
-- which was reported.
abbrev pub HasOutcome : {I C O F V : Type 0} → System I C O F V → List (List ℕ) → Run I C O V → Type 0
HasOutcome s words run =
    ((arguments : List Argument) × IsCommandLine arguments words × Performs s (with_input (request_of arguments)) run)
    ⊎ ((error : ArgumentError) × IsArgumentError words error × Refuses s error run)
