-- The texts of the program's own errors.
use Rattle.std.specs.Prelude.{ℕ, List, codes}
use Rattle.std.specs.declared.io.ErrorKind.{ErrorKind}
use Rattle.std.specs.declared.io.ErrorKind.TheVariants.{OutOfMemory, InvalidData}

-- The text of the error that the arguments can't be read, by the kind of the system's error.
abbrev pub words_error_text : ErrorKind → List ℕ
words_error_text OutOfMemory = codes "out of memory"
words_error_text InvalidData = codes "an argument is not UTF-8"
words_error_text kind = codes "the arguments can't be read"
