-- Definition of a module's text that is appended to a text, with its lines.
use Rattle.std.specs.Prelude.{◌≡◌, ◌⊎◌, ◌++◌, ℕ, List, false, Some, slice_get}
use Rattle.wasmprinter_bytes.specs.declared.library_error.Error.{Error}
use Rattle.wasmprinter_bytes.specs.declared.library_error.Error.TheVariants.{DylinkSubsection, Memory}
use Rattle.wasmprinter_spec.specs.Placed.{PlacedFunction}
use Rattle.wasmprinter_spec.specs.Options.{Options, with_color}
use Rattle.wasmprinter_spec.specs.Layout.{layout}
use Rattle.wasmprinter_spec.specs.Lines.{TextLine, lines_of, joined_lines, line_places, hint_places, HasFunctionLines}
use Rattle.wasmprinter_writers.specs.declared.line_iterator.LineStart.{LineStart}
use Rattle.wasmprinter_writers.specs.Cuts.{lines_at_starts}
use Rattle.wasmprinter.specs.Printed.{IsTextOf, no_claims}
use Rattle.wasmprinter.specs.Prefix.{PutsPrefix, PutsTextBefore}

-- The storage is the old text followed by the text of the module that the bytes encode, and these are its lines. The
-- order is: options, bytes of the module, text before, text after, lines.
pub record HasLinesBy (o : Options) (bytes old storage : List ℕ) (lines : List TextLine) : Type 0 where
  -- The text of the module.
  pub text : List ℕ
  -- The bytes encode a module that has this text with these options.
  pub printed : IsTextOf o bytes text
  -- The text was appended to the old text.
  pub appended : storage ≡ old ++ text
  -- The lines are those of the layout.
  pub are : lines ≡ lines_of (layout (with_color o false) no_claims printed.decoded.placed)
  -- The lines, joined, are the text.
  pub joined : joined_lines lines ≡ text
  -- Without `skeleton` and folding, each defined function has a line for its header, one for its locals if it has any,
  -- and one for each of its operators except the last `end`, in this order and with only lines of branch hints between.
  -- Each is the only line with its place.
  pub functions : o.skeleton ≡ false → o.folds ≡ false → (i : ℕ) (f : PlacedFunction) → slice_get printed.decoded.placed.functions i ≡ Some f →
      HasFunctionLines (hint_places printed.decoded.placed) (line_places lines) f

-- The storage is the old text followed by the text of the module that the bytes encode, and the lines that begin at
-- these offsets of the storage are those of the text (`HasLinesBy`). The order is: options, bytes of the module, text
-- before, text after, starts of lines.
abbrev pub HasLinesAt : Options → List ℕ → List ℕ → List ℕ → List LineStart → Type 0
HasLinesAt o bytes old storage starts = HasLinesBy o bytes old storage (lines_at_starts starts storage)

-- The contents of the storage after an error. The order is: options, bytes of the module, error, contents before,
-- contents after.
abbrev pub LeavesStorage : Options → List ℕ → Error → List ℕ → List ℕ → Type 0
-- After an unknown subsection of a `dylink.0` section: the old text and the text before that section.
LeavesStorage o bytes (DylinkSubsection id) old new = PutsTextBefore id o bytes (λ text. new ≡ old ++ text)
-- If an allocation failed: the old text, possibly with a prefix of the module's text.
LeavesStorage o bytes Memory old new = (new ≡ old) ⊎ PutsPrefix o bytes (λ text. new ≡ old ++ text)
-- After any other error: the old text.
LeavesStorage o bytes e old new = new ≡ old
