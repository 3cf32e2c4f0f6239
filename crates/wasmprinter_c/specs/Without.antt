-- The text of a module without the custom sections with some names, its lines, and its prefixes.
use Rattle.std.specs.Prelude.{◌≡◌, ◌++◌, ℕ, List, false, Some, None, slice_get}
use Rattle.std.specs.List.{AllByRecursion}
use Rattle.wasmprinter_spec.specs.Module.{module_of}
use Rattle.wasmprinter_spec.specs.Indexed.{IsIndexed}
use Rattle.wasmprinter_spec.specs.Placed.{PlacedFunction, PlacedModule}
use Rattle.wasmprinter_spec.specs.Call.{Call, atoms, text_of}
use Rattle.wasmprinter_spec.specs.Options.{Options, AreUnclaimed, IsBlank, with_color}
use Rattle.wasmprinter_spec.specs.Plain.{IsPlainText}
use Rattle.wasmprinter_spec.specs.Layout.{layout, refusal}
use Rattle.wasmprinter_spec.specs.Lines.{lines_of, joined_lines, line_places, hint_places, HasFunctionLines}
use Rattle.wasmprinter_spec.specs.Folding.Refusals.{IsFoldable}
use Rattle.wasmprinter_spec.specs.HintsOfModule.{OperatorHint, module_hints}
use Rattle.wasmprinter_spec.specs.Text.Hints.{text_hints}
use Rattle.wasmprinter_spec.specs.Read.{read}
use Rattle.wasmprinter_writers.specs.declared.line_iterator.LineStart.{LineStart}
use Rattle.wasmprinter_writers.specs.Cuts.{lines_at_starts}
use Rattle.wasmprinter.specs.Decoded.{Decoded}
use Rattle.wasmprinter.specs.Outcome.{WhilePrinting}
use Rattle.wasmprinter_c.specs.Omitted.{answers_for, IsAnsweredFor}

-- The bytes encode a module whose text without the custom sections with these names, with these options and without
-- colors, is `text`.
pub record IsTextWithout (names : List (List ℕ)) (o : Options) (bytes text : List ℕ) : Type 0 where
  -- The module that the bytes encode.
  pub decoded : Decoded bytes
  -- It can be folded if folding is on.
  pub foldable : IsFoldable o decoded.placed
  -- No `dylink.0` section of it is refused, except sections that are left out.
  pub accepted : refusal (with_color o false) (answers_for names decoded.placed) decoded.placed ≡ None
  -- The text is that of the layout in which exactly the sections with these names are claimed.
  pub is : text ≡ text_of (layout (with_color o false) (answers_for names decoded.placed) decoded.placed)
  -- With an indent of spaces and tabs: the text is plain.
  pub plain : IsBlank o.indent → IsPlainText text
  -- With an indent of spaces and tabs and without `skeleton`, if the module satisfies `IsIndexed` and none of its custom
  -- sections has one of the names: the text reads as `module_of decoded.placed`.
  pub reads : IsIndexed (module_of decoded.placed) → o.skeleton ≡ false → IsBlank o.indent → AreUnclaimed (answers_for names decoded.placed) →
      read text ≡ Some (module_of decoded.placed)
  -- With an indent of spaces and tabs and without `skeleton`, if the module's branch hints are valid: the text has
  -- exactly these hints.
  pub hints : (hs : List OperatorHint) → o.skeleton ≡ false → IsBlank o.indent → module_hints decoded.placed ≡ Some hs → text_hints text ≡ Some hs

-- The text, cut at these offsets, has the lines of the module without the custom sections with these names.
pub record HasLinesWithout (names : List (List ℕ)) (o : Options) (bytes text : List ℕ) (starts : List LineStart) : Type 0 where
  -- The bytes encode a module that has this text.
  pub printed : IsTextWithout names o bytes text
  -- The lines are those of the layout.
  pub are : lines_at_starts starts text ≡ lines_of (layout (with_color o false) (answers_for names printed.decoded.placed) printed.decoded.placed)
  -- The lines, joined, are the text.
  pub joined : joined_lines (lines_at_starts starts text) ≡ text
  -- Without `skeleton` and folding, each defined function has a line for its header, one for its locals if it has any,
  -- and one for each of its operators.
  pub functions : o.skeleton ≡ false → o.folds ≡ false → (i : ℕ) (f : PlacedFunction) → slice_get printed.decoded.placed.functions i ≡ Some f →
      HasFunctionLines (hint_places printed.decoded.placed) (line_places (lines_at_starts starts text)) f

-- The text is that of calls that are a prefix of a layout. Each claim was answered by whether the section has one of
-- these names.
pub record IsPrefixWithout (names : List (List ℕ)) (layout : List Call) (text : List ℕ) : Type 0 where
  -- The calls.
  pub calls : List Call
  -- The calls of the layout after them, with each text cut into single bytes.
  pub rest : List Call
  -- With each text cut into single bytes, `calls` and then `rest` are the calls of the layout.
  pub alike : atoms calls ++ rest ≡ atoms layout
  -- The calls claim exactly the custom sections with these names.
  pub answered : AllByRecursion (IsAnsweredFor names) calls
  -- The text is that of `calls`.
  pub is : text ≡ text_of calls

-- The text is that of a whole layout that ends at a refused `dylink.0` section. In this layout exactly the sections with
-- these names are claimed.
pub record IsTextBeforeWithout (names : List (List ℕ)) (id : ℕ) (o : Options) (placed : PlacedModule) (text : List ℕ) : Type 0 where
  -- The layout ends at this section because of its subsection with this id.
  pub ends : refusal o (answers_for names placed) placed ≡ Some id
  -- The text is that of the layout.
  pub is : text ≡ text_of (layout o (answers_for names placed) placed)

-- The module that the bytes encode was being printed without the sections with these names, and a prefix of its text
-- satisfies `Put`.
abbrev pub PutsPrefixWithout : List (List ℕ) → Options → List ℕ → (List ℕ → Type 0) → Type 0
PutsPrefixWithout names o bytes Put =
    WhilePrinting o bytes (λ placed answers. (text : List ℕ) × IsPrefixWithout names (layout (with_color o false) answers placed) text × Put text)

-- The module that the bytes encode was being printed without the sections with these names, and its text before the
-- `dylink.0` section that is refused for the subsection with this id satisfies `Put`.
abbrev pub PutsTextBeforeWithout : List (List ℕ) → ℕ → Options → List ℕ → (List ℕ → Type 0) → Type 0
PutsTextBeforeWithout names id o bytes Put =
    WhilePrinting o bytes (λ placed answers. (text : List ℕ) × IsTextBeforeWithout names id (with_color o false) placed text × Put text)
