-- The number of failed calls that a printer has counted after a module was printed to it.
use Rattle.std.specs.Prelude.{ℕ}
use Rattle.wasmprinter_bytes.specs.declared.library_error.Error.{Error}
use Rattle.wasmprinter_bytes.specs.declared.library_error.Error.TheVariants.{Printer}
use Rattle.wasmprinter_samples.specs.Counting.{one_fault_more}

-- One more if the error is that of a call. For any other error no call failed.
abbrev pub faults_after : Error → ℕ → ℕ
faults_after (Printer e) count = one_fault_more count
faults_after _ count = count
