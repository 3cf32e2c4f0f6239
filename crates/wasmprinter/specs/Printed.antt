-- Definitions of a printed module and of its text. `Printed` is the statement of the main theorem.
use Rattle.std.specs.Prelude.{◌≡◌, ℕ, List, map, Bool, false, Some, None}
use Rattle.std.specs.List.{AllByRecursion}
use Rattle.wasmprinter_spec.specs.Module.{module_of}
use Rattle.wasmprinter_spec.specs.Indexed.{IsIndexed}
use Rattle.wasmprinter_spec.specs.Call.{Call, IsUnclaimed, atoms, text_of}
use Rattle.wasmprinter_spec.specs.Color.{uncolor}
use Rattle.wasmprinter_spec.specs.Colored.{bare_call}
use Rattle.wasmprinter_spec.specs.Meaning.{Run}
use Rattle.wasmprinter_spec.specs.Options.{Options, defaults, Answers, IsBlank, with_color}
use Rattle.wasmprinter_spec.specs.Plain.{IsPlainText}
use Rattle.wasmprinter_spec.specs.Layout.{layout, refusal}
use Rattle.wasmprinter_spec.specs.Folding.Refusals.{IsFoldable}
use Rattle.wasmprinter_spec.specs.HintsOfModule.{OperatorHint, module_hints}
use Rattle.wasmprinter_spec.specs.Text.Hints.{text_hints}
use Rattle.wasmprinter_spec.specs.Read.{read}
use Rattle.wasmprinter.specs.Decoded.{Decoded}
use Rattle.wasmprinter_print.specs.Change.{Change}

-- No custom section is claimed.
abbrev pub no_claims : Answers
no_claims = λ n. false

-- The bytes encode a module, and the calls of its layout made this change of the printer. `colors` says whether the
-- printer can write colors as text. If it can, the styles within the text of a folded operator become ANSI escape
-- sequences. Otherwise that text has no styles.
pub record Printed {P : Type 0} (printer : Change P) (colors : Bool) (o : Options) (bytes : List ℕ) : Type 0 where
  -- The module that the bytes encode.
  pub decoded : Decoded bytes
  -- The printer's answer to the claim of each custom section, by its number among them, from 0.
  pub answers : Answers
  -- The module can be folded if folding is on.
  pub foldable : IsFoldable o decoded.placed
  -- The layout is complete: no `dylink.0` section that the printer does not claim is refused for an unknown subsection.
  pub accepted : refusal (with_color o colors) answers decoded.placed ≡ None
  -- The calls that were made.
  pub calls : List Call
  -- All of them succeeded, and they lead from the state before to the state after.
  pub run : Run printer.meaning printer.old calls printer.new
  -- With each text cut into single bytes, they are the calls of the layout.
  pub alike : atoms calls ≡ atoms (layout (with_color o colors) answers decoded.placed)
  -- With an indent of spaces and tabs: deleting the ANSI escape sequences from the text of each call of the layout
  -- gives the layout without colors.
  pub bare : IsBlank o.indent → map bare_call (layout (with_color o colors) answers decoded.placed) ≡ layout (with_color o false) answers decoded.placed
  -- With an indent of spaces and tabs: deleting the ANSI escape sequences from the whole text of the calls gives the
  -- text of the layout without colors.
  pub uncolored : IsBlank o.indent → uncolor (text_of calls) ≡ text_of (layout (with_color o false) answers decoded.placed)
  -- With an indent of spaces and tabs and without `skeleton`, if the module satisfies `IsIndexed` and no section was
  -- claimed: the text without ANSI escape sequences reads as `module_of decoded.placed`.
  pub reads : IsIndexed (module_of decoded.placed) → o.skeleton ≡ false → IsBlank o.indent → AllByRecursion IsUnclaimed calls →
      read (uncolor (text_of calls)) ≡ Some (module_of decoded.placed)
  -- With an indent of spaces and tabs and without `skeleton`, if the module's branch hints are valid: the text without
  -- ANSI escape sequences has exactly these hints.
  pub hints : (hs : List OperatorHint) → o.skeleton ≡ false → IsBlank o.indent → module_hints decoded.placed ≡ Some hs →
      text_hints (uncolor (text_of calls)) ≡ Some hs
  -- With an indent of spaces and tabs, if the printer can't write colors as text: the text is plain.
  pub plain : IsBlank o.indent → colors ≡ false → IsPlainText (text_of calls)

-- The bytes encode a module whose text, with these options and without colors, is `text`. No custom section of it is
-- claimed.
pub record IsTextOf (o : Options) (bytes text : List ℕ) : Type 0 where
  -- The module that the bytes encode.
  pub decoded : Decoded bytes
  -- It can be folded if folding is on.
  pub foldable : IsFoldable o decoded.placed
  -- The layout is complete: no `dylink.0` section is refused for an unknown subsection.
  pub accepted : refusal (with_color o false) no_claims decoded.placed ≡ None
  -- The text is that of the layout.
  pub is : text ≡ text_of (layout (with_color o false) no_claims decoded.placed)
  -- With an indent of spaces and tabs: the text is plain.
  pub plain : IsBlank o.indent → IsPlainText text
  -- With an indent of spaces and tabs and without `skeleton`, if the module satisfies `IsIndexed`: the text reads as
  -- `module_of decoded.placed`.
  pub reads : IsIndexed (module_of decoded.placed) → o.skeleton ≡ false → IsBlank o.indent → read text ≡ Some (module_of decoded.placed)
  -- With an indent of spaces and tabs and without `skeleton`, if the module's branch hints are valid: the text has
  -- exactly these hints.
  pub hints : (hs : List OperatorHint) → o.skeleton ≡ false → IsBlank o.indent → module_hints decoded.placed ≡ Some hs → text_hints text ≡ Some hs

-- The bytes encode a module whose text with the default options is `text`. No custom section of it is claimed.
pub record HasText (bytes text : List ℕ) : Type 0 where
  -- The module that the bytes encode.
  pub decoded : Decoded bytes
  -- The layout is complete: no `dylink.0` section is refused for an unknown subsection.
  pub accepted : refusal defaults no_claims decoded.placed ≡ None
  -- The text is that of the layout.
  pub is : text ≡ text_of (layout defaults no_claims decoded.placed)
  -- The text is plain.
  pub plain : IsPlainText text
  -- If the module satisfies `IsIndexed`, the text reads as `module_of decoded.placed`.
  pub reads : IsIndexed (module_of decoded.placed) → read text ≡ Some (module_of decoded.placed)
  -- If the module's branch hints are valid, the text has exactly these hints.
  pub hints : (hs : List OperatorHint) → module_hints decoded.placed ≡ Some hs → text_hints text ≡ Some hs
