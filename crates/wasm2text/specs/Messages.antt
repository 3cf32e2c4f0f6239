-- The messages of the program. The texts of `--help` and `--version` are in `src/help.rt`.
use Rattle.std.specs.Prelude.{◌≡◌, ℕ, List, [], ◌∷◌, ◌++◌, flat_map, chars, encode_utf8_all, Bool, true, false, ◌||◌, ◌==◌, if◌then◌else◌, codes}
use Rattle.std.specs.Char.{is_control}
use Rattle.std.specs.Char.Escape.{backslash, escape_default}
use Rattle.std.specs.Str.{NoCharPasses}
use Rattle.std.specs.Fmt.{digits}
use Rattle.std.specs.IoError.{error_kind}
use Rattle.std.specs.declared.io.ErrorKind.{ErrorKind}
use Rattle.std.specs.declared.io.ErrorKind.TheVariants.{NotFound, PermissionDenied, IsADirectory, NotADirectory, InvalidFilename, FilesystemLoop, ReadOnlyFilesystem, StorageFull, QuotaExceeded, FileTooLarge, BrokenPipe, OutOfMemory}
use Rattle.wasmprinter_bytes.specs.Messages.{error_text}
use Rattle.wasm2text.specs.declared.cause.Cause.{Cause}
use Rattle.wasm2text.specs.declared.cause.Cause.TheVariants.{System, Module, NoByte, NoCode, NoFunction, Output}
use Rattle.wasm2text.specs.declared.options.Setting.{Setting}
use Rattle.wasm2text.specs.declared.options.Setting.TheVariants.{Output as SetOutput, Indent, Color, At, CodeOffset, Func}
use Rattle.wasm2text.specs.declared.misuse.ArgumentError.{ArgumentError}
use Rattle.wasm2text.specs.declared.misuse.ArgumentError.TheVariants.{UnknownOption, MissingValue, InvalidValue, Memory}

-- The name of a kind of errors of the system.
abbrev pub kind_name : ErrorKind → List ℕ
kind_name NotFound = codes "no such file or directory"
kind_name PermissionDenied = codes "permission denied"
kind_name IsADirectory = codes "is a directory"
kind_name NotADirectory = codes "not a directory"
kind_name InvalidFilename = codes "file name too long"
kind_name FilesystemLoop = codes "too many symbolic links"
kind_name ReadOnlyFilesystem = codes "read-only file system"
kind_name StorageFull = codes "no space left on device"
kind_name QuotaExceeded = codes "disk quota exceeded"
kind_name FileTooLarge = codes "file too large"
kind_name BrokenPipe = codes "broken pipe"
kind_name OutOfMemory = codes "out of memory"
kind_name kind = codes "unexpected system error"

-- The reader of the text closed the pipe.
abbrev pub is_closed_pipe : ErrorKind → Bool
is_closed_pipe BrokenPipe = true
is_closed_pipe kind = false

-- The cause for which a file is not printed, in words.
abbrev pub cause_text : Cause → List ℕ
cause_text (System error) = kind_name (error_kind error)
cause_text (Module error) = error_text error
cause_text (NoByte offset len) =
    codes "byte 0x" ++ (digits 16 false offset ++ (codes " is not in the module, which has 0x" ++ (digits 16 false len ++ codes " bytes")))
cause_text NoCode = codes "module has no code section"
cause_text NoFunction = codes "no such function"
cause_text (Output error) = codes "can't write the text: " ++ kind_name (error_kind error)

-- A character of a name or a word is escaped in a message if it is a control character or a backslash.
abbrev pub is_escaped : ℕ → Bool
is_escaped c = is_control c || c == backslash

-- A character of a name or a word in a message: escaped as by Rust's `char::escape_default`, or as it is.
abbrev pub message_char : ℕ → List ℕ
message_char c = if is_escaped c then escape_default c else c ∷ []

-- A name or a word in a message.
abbrev pub in_message : List ℕ → List ℕ
in_message text = encode_utf8_all (flat_map message_char (chars text))

-- The name of an option in messages.
abbrev pub long_name : Setting → List ℕ
long_name SetOutput = codes "--output"
long_name Indent = codes "--indent"
long_name Color = codes "--color"
long_name At = codes "--at"
long_name CodeOffset = codes "--code-offset"
long_name Func = codes "--func"

-- The error of the command line, in words.
abbrev pub misuse_text : ArgumentError → List ℕ
misuse_text (UnknownOption word) = codes "unknown option '" ++ in_message word.now ++ codes "'"
misuse_text (MissingValue name) = codes "option '" ++ in_message name.now ++ codes "' needs a value"
misuse_text (InvalidValue setting value) = codes "option '" ++ long_name setting ++ codes "' can't have the value '" ++ in_message value.now ++ codes "'"
misuse_text Memory = codes "out of memory"

-- A file that is not printed, with the cause.
pub record Failure : Type 0 where
  pub name : List ℕ
  pub cause : Cause

-- The line that reports that a file is not printed.
abbrev pub failure_line : Failure → List ℕ
failure_line failure = codes "wasm2text: " ++ (in_message failure.name ++ (codes ": " ++ (cause_text failure.cause ++ 10 ∷ [])))

-- The line that reports an error of the command line.
abbrev pub misuse_line : ArgumentError → List ℕ
misuse_line error = codes "wasm2text: " ++ (misuse_text error ++ (codes ". Try 'wasm2text --help'." ++ 10 ∷ []))

-- The line ends with a line feed. No character before it is a control character, so the line has no other line feed.
abbrev pub IsLine : List ℕ → Type 0
IsLine line = (text : List ℕ) × (line ≡ text ++ 10 ∷ []) × NoCharPasses is_control text

-- Each message is one line, whatever the names and words in it are.
abbrev pub MessagesAreLines : Type 0
MessagesAreLines = ((failure : Failure) → IsLine (failure_line failure)) × ((error : ArgumentError) → IsLine (misuse_line error))
