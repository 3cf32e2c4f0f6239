-- The result for a file follows from the result for the bytes that reading it returned.
use Rattle.std.specs.Prelude.{◌↔◌, ℕ, List, Some, Result, Ok, Err, IfOk, IfErr, IsErrOf}
use Rattle.std.proofs.Common.{inr}
use Rattle.wasmprinter_bytes.specs.declared.library_error.Error.{Error}
use Rattle.wasmprinter_bytes.specs.declared.library_error.Error.TheVariants.{Component}
use Rattle.wasmprinter_spec.specs.Binary.{IsComponent}
use Rattle.wasmprinter.specs.Outcome.{IsTextRefusal}
use Rattle.wasmprinter.specs.TextOfFile.{Reading}
use Rattle.wasmprinter.proofs.TextOfFile.{component_error}
use Rattle.printwasm.specs.Words.{Choice}
use Rattle.printwasm.specs.Outcome.{IsTextBy, GivesText, GivesNoText}

-- The text of the bytes that reading returned is the text of the file.
pub gives_text : {T : Type 0} (choice : Choice) (view : T → List ℕ) (may_read : Reading) (wasm : List ℕ) (r : Result T Error) →
    may_read (Some wasm) → IfOk r (λ t. IsTextBy choice wasm (view t)) → IfOk r (λ t. GivesText choice may_read (view t))
gives_text choice view may_read wasm (Ok t) g h = (wasm, g, h)
gives_text choice view may_read wasm (Err e) g h = tt

-- If those bytes are refused, the file has no text for the same error.
pub gives_no_text : {T : Type 0} (choice : Choice) (may_read : Reading) (wasm : List ℕ) (r : Result T Error) →
    may_read (Some wasm) → IfErr r (IsTextRefusal choice.options wasm) → (IsErrOf r Component ↔ IsComponent wasm) → IfErr r (GivesNoText choice may_read)
gives_no_text choice may_read wasm (Ok t) g refused c = tt
gives_no_text choice may_read wasm (Err e) g refused c = inr (wasm, g, record { refused = refused; component = component_error e c })
