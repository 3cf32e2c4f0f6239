-- The bytes that printers and writers gain when a module is printed.
use Rattle.std.specs.Prelude.{◌≡◌, ℕ, List, ◌++◌, Option}
use Rattle.std.specs.Io.KnownBytes.{Appends}
use Rattle.wasmprinter_spec.specs.Color.{uncolor}
use Rattle.wasmprinter_spec.specs.Options.{Options}
use Rattle.wasmprinter.specs.Printed.{IsTextOf}

-- One module was printed to two writers, with colors and without. By the contents that the writers report before
-- and after, the first gained a text with ANSI escape sequences. The second gained the text that remains when
-- these sequences are deleted.
pub record GainAlike (colored_old colored_new plain_old plain_new : Option (List ℕ)) : Type 0 where
  -- The bytes that the first writer gained.
  pub colored : List ℕ
  -- The bytes that the second writer gained.
  pub plain : List ℕ
  -- If the first writer reported its bytes before, it reports these and then `colored` after.
  pub first : Appends colored_old colored_new colored
  -- The same for the second writer and `plain`.
  pub second : Appends plain_old plain_new plain
  -- Deleting the ANSI escape sequences from `colored` gives `plain`.
  pub same : uncolor colored ≡ plain

-- The text of the module was appended to the view of a printer.
pub record GainsText (o : Options) (bytes old new : List ℕ) : Type 0 where
  -- The text.
  pub text : List ℕ
  -- It was appended to the view.
  pub gained : new ≡ old ++ text
  -- It is the text of the module that the bytes encode, with these options and without colors.
  pub is : IsTextOf o bytes text
