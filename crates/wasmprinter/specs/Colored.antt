-- Definition of the text of a module with ANSI escape sequences.
use Rattle.std.specs.Prelude.{◌≡◌, ℕ, List, true, None}
use Rattle.wasmprinter_spec.specs.Color.{uncolor}
use Rattle.wasmprinter_spec.specs.Options.{Options, IsBlank, with_color}
use Rattle.wasmprinter_spec.specs.Layout.{layout, refusal}
use Rattle.wasmprinter_spec.specs.Colored.{colored_text}
use Rattle.wasmprinter_spec.specs.Folding.Refusals.{IsFoldable}
use Rattle.wasmprinter.specs.Decoded.{Decoded}
use Rattle.wasmprinter.specs.Printed.{IsTextOf, no_claims}

-- The bytes encode a module whose text, with these options and with the ANSI escape sequences of each style, is `text`.
-- No custom section of it is claimed.
pub record HasColoredTextBy (o : Options) (bytes text : List ℕ) : Type 0 where
  -- The module that the bytes encode.
  pub decoded : Decoded bytes
  -- It can be folded if folding is on.
  pub foldable : IsFoldable o decoded.placed
  -- The layout is complete: no `dylink.0` section is refused for an unknown subsection.
  pub accepted : refusal (with_color o true) no_claims decoded.placed ≡ None
  -- The text is that of the layout with the sequences of each style, including those within the text of folded
  -- operators (`true`).
  pub is : text ≡ colored_text (layout (with_color o true) no_claims decoded.placed)
  -- With an indent of spaces and tabs: deleting the sequences gives the text without colors, with all that `IsTextOf`
  -- says of it.
  pub bare : IsBlank o.indent → IsTextOf o bytes (uncolor text)
