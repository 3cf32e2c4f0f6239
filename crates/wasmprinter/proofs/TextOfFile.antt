-- The result for a file follows from the result for the bytes that reading it returned.
use Rattle.std.specs.Prelude.{◌≡◌, ◌↔◌, ℕ, List, Some, Result, Ok, Err, IfOk, IfErr, IsErrOf}
use Rattle.std.proofs.Common.{ap, inr}
use Rattle.wasmprinter_bytes.specs.declared.library_error.Error.{Error}
use Rattle.wasmprinter_bytes.specs.declared.library_error.Error.TheVariants.{Component}
use Rattle.wasmprinter_spec.specs.Binary.{IsComponent}
use Rattle.wasmprinter_spec.specs.Options.{Options}
use Rattle.wasmprinter.specs.Printed.{HasText}
use Rattle.wasmprinter.specs.Outcome.{IsTextRefusal}
use Rattle.wasmprinter.specs.TextOfFile.{Reading, IsTextOfFile, IsRefusedBy}

abbrev error_or : {T E : Type 0} → E → Result T E → E
error_or other (Ok t) = other
error_or other (Err e) = e

-- If a failed result is `Component` exactly if a condition holds, its error is `Component` exactly if the
-- condition holds.
pub component_error : {T A : Type 0} (e : Error) → (IsErrOf {T = T} (Err e) Component ↔ A) → (e ≡ Component) ↔ A
component_error e h = (λ is. h.0 (ap Err is), λ a. ap (error_or e) (h.1 a))

-- The text of the bytes that reading returned is the text of the file.
pub text_of_file : {T : Type 0} (view : T → List ℕ) (may_read : Reading) (wasm : List ℕ) (r : Result T Error) →
    may_read (Some wasm) → IfOk r (λ t. HasText wasm (view t)) → IfOk r (λ t. IsTextOfFile may_read (view t))
text_of_file view may_read wasm (Ok t) g h = (wasm, g, h)
text_of_file view may_read wasm (Err e) g h = tt

-- If those bytes are refused, the file is refused with the same error.
pub refused_of_file : {T : Type 0} (o : Options) (may_read : Reading) (wasm : List ℕ) (r : Result T Error) →
    may_read (Some wasm) → IfErr r (IsTextRefusal o wasm) → (IsErrOf r Component ↔ IsComponent wasm) → IfErr r (IsRefusedBy o may_read)
refused_of_file o may_read wasm (Ok t) g refused c = tt
refused_of_file o may_read wasm (Err e) g refused c = inr (wasm, g, record { refused = refused; component = component_error e c })
