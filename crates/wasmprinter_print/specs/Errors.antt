-- The errors that report why printing stopped.
use Rattle.std.specs.Prelude.{Option, Some, None, Result, Ok, Err}
use Rattle.wasmprinter_bytes.specs.declared.library_error.Error.{Error}
use Rattle.wasmprinter_bytes.specs.declared.library_error.Error.TheVariants.{DylinkSubsection, Printer, Memory}
use Rattle.wasmprinter_print.specs.declared.halt.Halt.{Halt}
use Rattle.wasmprinter_print.specs.declared.halt.Halt.TheVariants as halt

-- The error that reports why printing stopped.
abbrev pub error_of : Halt → Error
error_of (halt.Printer e) = Printer e
error_of halt.Memory = Memory
error_of (halt.Refused id) = DylinkSubsection id

-- The result of printing, by the reason why it stopped, if it did.
abbrev pub result_of : Option Halt → Result (Unit {0}) Error
result_of None = Ok tt
result_of (Some x) = Err (error_of x)
