-- The text of a function of a module.
use Rattle.std.specs.Prelude.{◌≡◌, ℕ, List, [], Bool}
use Rattle.std.proofs.Common.{sym, subst}
use Rattle.wasmprinter_spec.specs.Binary.{Spells}
use Rattle.wasmprinter_spec.specs.Lines.{TextLine}
use Rattle.wasmprinter_spec.specs.Options.{Options}
use Rattle.wasmprinter_spec.specs.Placed.{PlacedModule}
use Rattle.wasmprinter.specs.Lined.{HasLinesBy}
use Rattle.wasmprinter.proofs.Named.{same_module}
use Rattle.wasm2text.specs.declared.function_search.PlaceRange.{PlaceRange}
use Rattle.wasm2text.proofs.FunctionShown.{function_has_line}
use Rattle.wasm2text.specs.FunctionText.{Function, HasRange, IsTextOfRange, IsFunctionTextOf, HaveNoFunction}

-- The text of the function's lines is the text of the function.
pub text_of_lines : (o : Options) (wasm old storage : List ℕ) (lines : List TextLine) (b : Bool) (m : PlacedModule) (function : Function) (range : PlaceRange)
    (text : List ℕ) → old ≡ [] → HasLinesBy o wasm old storage lines → o.synthesizes ≡ b → Spells wasm m → HasRange b m function range →
    IsTextOfRange lines range text → IsFunctionTextOf o wasm function text
text_of_lines o wasm old storage lines b m function range text e has named spells is shown =
    let given : HasLinesBy o wasm [] storage lines = subst (λ (t : List ℕ). HasLinesBy o wasm t storage lines) e has in
    let own : HasRange o.synthesizes given.printed.decoded.placed function range =
    subst (λ (p : PlacedModule). HasRange o.synthesizes p function range) (sym (same_module given.printed.decoded m spells))
    (subst (λ (x : Bool). HasRange x m function range) (sym named) is) in
    record {
      whole = storage;
      lines = lines;
      given = given;
      range = range;
      has = own;
      some = function_has_line o wasm [] storage lines range own.0 given own.2;
      is = shown;
    }

-- There is no such function.
pub no_function : (o : Options) (wasm old storage : List ℕ) (lines : List TextLine) (b : Bool) (m : PlacedModule) (function : Function) →
    HasLinesBy o wasm old storage lines → o.synthesizes ≡ b → Spells wasm m → ((range : PlaceRange) → HasRange b m function range → ⊥) →
    HaveNoFunction o wasm function
no_function o wasm old storage lines b m function has named spells none = record {
  text = has.text;
  printed = has.printed;
  none = rw (named, same_module has.printed.decoded m spells) none;
}
