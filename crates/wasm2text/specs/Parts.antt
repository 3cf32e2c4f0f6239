-- What is written of a module instead of its whole text: a part of the text, or what no text shows.
use Rattle.std.specs.Prelude.{ℕ, List}
use Rattle.wasmprinter_spec.specs.Options.{Options}
use Rattle.wasm2text.specs.Excerpt.{IsExcerptOf, IsExcerptRefusal}
use Rattle.wasm2text.specs.FunctionText.{Function, function_view, IsFunctionTextOf, IsFunctionRefusal}
use Rattle.wasm2text.specs.HiddenText.{IsHiddenText, IsHiddenRefusal}
use Rattle.wasm2text.specs.declared.cause.Cause.{Cause}
use Rattle.wasm2text.specs.declared.part.Part.{Part as ReadPart}
use Rattle.wasm2text.specs.declared.part.Part.TheVariants as read
use Rattle.wasm2text.specs.declared.target.Target.{Target}

-- The part that is written: the excerpt of the text that shows a byte, the text of a function, or what no text shows.
pub data Part : Type 0 where
  Excerpt : Target → Part
  OneFunction : Function → Part
  Hidden : Part

-- The part that the program's value represents.
abbrev pub part_view : ReadPart → Part
part_view (read.Excerpt target) = Excerpt target
part_view (read.Function function) = OneFunction (function_view function)
part_view read.Hidden = Hidden

-- The bytes encode a module, and the text is this part of the module's text with these options, or what no text shows.
abbrev pub IsPartOf : Options → List ℕ → Part → List ℕ → Type 0
IsPartOf o wasm (Excerpt target) text = IsExcerptOf o wasm target text
IsPartOf o wasm (OneFunction function) text = IsFunctionTextOf o wasm function text
IsPartOf o wasm Hidden text = IsHiddenText wasm text

-- There is no such part, for this cause.
abbrev pub IsPartRefusal : Options → List ℕ → Part → Cause → Type 0
IsPartRefusal o wasm (Excerpt target) cause = IsExcerptRefusal o wasm target cause
IsPartRefusal o wasm (OneFunction function) cause = IsFunctionRefusal o wasm function cause
IsPartRefusal o wasm Hidden cause = IsHiddenRefusal wasm cause
