-- Arguments that can't be read.
use Rattle.std.specs.declared.io.Error.{Error as IoError}
use Rattle.printwasm.specs.declared.error_lines.WordsError.{WordsError}

-- The program's error for an error of the system.
abbrev pub words_error : IoError → WordsError
words_error e = record { cause = e }
