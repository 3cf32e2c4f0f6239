-- Definition of the text of a file's module. No contract can say what a file contains: its bytes are those that
-- reading it returned.
use Rattle.std.specs.Prelude.{◌≡◌, ◌↔◌, ◌⊎◌, ℕ, List, Option, Some, None}
use Rattle.wasmprinter_bytes.specs.declared.library_error.Error.{Error}
use Rattle.wasmprinter_bytes.specs.declared.library_error.Error.TheVariants.{Component, Unreadable}
use Rattle.wasmprinter_spec.specs.Binary.{IsComponent}
use Rattle.wasmprinter_spec.specs.Options.{Options}
use Rattle.wasmprinter.specs.Printed.{HasText}
use Rattle.wasmprinter.specs.Outcome.{IsTextRefusal}

-- The possible results of reading one file: its bytes, or `None` if reading fails.
abbrev pub Reading : Type 1
Reading = Option (List ℕ) → Type 0

-- Reading may return bytes that encode a module with this text, with the default options (`HasText`).
abbrev pub IsTextOfFile : Reading → List ℕ → Type 0
IsTextOfFile may_read text = (wasm : List ℕ) × may_read (Some wasm) × HasText wasm text

-- With these options, these bytes are refused with this error.
pub record AreRefused (o : Options) (wasm : List ℕ) (error : Error) : Type 0 where
  -- The error is true of the bytes. If they encode a module, the error has a listed cause.
  pub refused : IsTextRefusal o wasm error
  -- The error is `Component` if and only if the bytes are marked as a component.
  pub component : (error ≡ Component) ↔ IsComponent wasm

-- With these options, the file has no text: either reading failed and the error is `Unreadable`, or reading
-- returned bytes that are refused with this error.
abbrev pub IsRefusedBy : Options → Reading → Error → Type 0
IsRefusedBy o may_read error = (may_read None × (error ≡ Unreadable)) ⊎ ((wasm : List ℕ) × may_read (Some wasm) × AreRefused o wasm error)
