-- The calls that were made for a module, by the result of printing it.
use Rattle.std.specs.Prelude.{◌≡◌, ℕ, Bool, Option, Some, None, Result, Ok, Err}
use Rattle.wasmprinter_bytes.specs.declared.library_error.Error.{Error}
use Rattle.wasmprinter_bytes.specs.declared.library_error.Error.TheVariants.{DylinkSubsection, Printer, Memory}
use Rattle.wasmprinter_spec.specs.Options.{Options}
use Rattle.wasmprinter_spec.specs.Piece.{all_calls}
use Rattle.wasmprinter_spec.specs.Layout.Customs.{Laid}
use Rattle.wasmprinter_print.specs.Change.{Change}
use Rattle.wasmprinter_print.specs.MadeCalls.{MadeCalls, Ending, Through, AtCall, Never, when_out_of_memory}

-- How the calls end that were made before this error. A refusal comes after all calls before it, and the printer's
-- error at the call that failed. Memory can run out only if operators are folded. No other error is returned.
abbrev pub ending_after : Bool → Error → Ending
ending_after folds (DylinkSubsection id) = Through
ending_after folds (Printer e) = AtCall e
ending_after folds Memory = when_out_of_memory folds
ending_after folds _ = Never

-- How the calls end, by the result of the function. The first argument says whether operators are folded.
abbrev pub ending_by : {T : Type 0} → Bool → Result T Error → Ending
ending_by folds (Ok x) = Through
ending_by folds (Err e) = ending_after folds e

-- If a refusal is returned, the layout ends at it. After success it ends at none. After a failed call or a failed
-- allocation, either is possible.
abbrev pub ErrorAgreesWithRefusal : Error → Option ℕ → Type 0
ErrorAgreesWithRefusal (DylinkSubsection id) refused = refused ≡ Some id
ErrorAgreesWithRefusal (Printer e) refused = Unit {0}
ErrorAgreesWithRefusal Memory refused = Unit {0}
ErrorAgreesWithRefusal _ refused = ⊥

-- The result agrees with the refusal at which the layout ends, if it ends at one.
abbrev pub AgreesWithRefusal : {T : Type 0} → Result T Error → Option ℕ → Type 0
AgreesWithRefusal (Ok x) refused = refused ≡ None
AgreesWithRefusal (Err e) refused = ErrorAgreesWithRefusal e refused

-- The calls that were made are those of the layout, up to how text is split into calls. They are a prefix if a call
-- failed, whose error is then returned, or if an allocation failed while operators were folded. A refusal (an unknown
-- subsection of `dylink.0`), if there is one, is returned after all calls. Nothing else is returned as an error.
pub record PrintsLaid {P T : Type 0} (printer : Change P) (o : Options) (r : Result T Error) (l : Laid) : Type 0 where
  -- The calls that were made. How they end depends on the result.
  pub made : MadeCalls printer.meaning printer.old printer.new (ending_by o.folds r) (all_calls o l.pieces)
  -- After `Ok`, no section of the layout is refused. `DylinkSubsection` has the id for which one is. (After `Printer` or
  -- `Memory`, nothing is said.)
  pub refused : AgreesWithRefusal r l.refused
