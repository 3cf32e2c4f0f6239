-- The results of the library for C for a module that is not printed.
use Rattle.std.specs.Prelude.{◌≡◌, ◌<◌, ◌≤◌, ◌⊎◌, ℕ, List, true, false, length}
use Rattle.wasmprinter_bytes.specs.declared.library_error.Error.{Error}
use Rattle.wasmprinter_bytes.specs.declared.library_error.Error.TheVariants.{Malformed, Component, TooManyLocals, TooManyFunctions, EmptyTableInit, FoldLegacy, FoldHint, DylinkSubsection, Unreadable, Printer, Memory}
use Rattle.wasmprinter_spec.specs.Binary.{Spells, IsComponent}
use Rattle.wasmprinter_spec.specs.Placed.{PlacedModule}
use Rattle.wasmprinter_spec.specs.Options.{Options, defaults}
use Rattle.wasmprinter.specs.Outcome.{HasPrintReason, print_reasons, causes, FirstIsUnknown, MayGrow, IsSoundRefusal}
use Rattle.wasmprinter_c.specs.Over.{over}
use Rattle.wasmprinter_c.specs.Printing.{Request, Buffers}
use Rattle.wasmprinter_c.specs.Omitted.{IsListOf, kept_customs}
use Rattle.wasmprinter_c.specs.Without.{PutsPrefixWithout, PutsTextBeforeWithout}
use Rattle.wasmprinter_c.specs.declared.Outcome.{Outcome}

-- The number of an error.
abbrev pub number_of : Error → ℕ
number_of (Malformed place) = 1
number_of Component = 2
number_of (TooManyLocals place) = 3
number_of (TooManyFunctions count) = 4
number_of (EmptyTableInit place) = 5
number_of (FoldLegacy place) = 6
number_of (FoldHint place) = 7
number_of (DylinkSubsection id) = 8
number_of Unreadable = 9
number_of (Printer e) = 10
number_of Memory = 11

-- The place, the count or the id of an error, or 0 if it has none.
abbrev pub detail_in : Error → ℕ
detail_in (Malformed place) = place
detail_in Component = 0
detail_in (TooManyLocals place) = place
detail_in (TooManyFunctions count) = count
detail_in (EmptyTableInit place) = place
detail_in (FoldLegacy place) = place
detail_in (FoldHint place) = place
detail_in (DylinkSubsection id) = id
detail_in Unreadable = 0
detail_in (Printer e) = 0
detail_in Memory = 0

-- An indent that is copied: any indent except the default.
abbrev pub IsCopied : List ℕ → Type 0
IsCopied indent = ¬ (indent ≡ defaults.indent)

-- A prefix of the module's text is longer than the limit. In this text the custom sections with these names are left
-- out.
abbrev pub IsTooLong : List (List ℕ) → Options → List ℕ → ℕ → Type 0
IsTooLong names o bytes limit = PutsPrefixWithout names o bytes (λ text. limit < length text)

-- If the bytes encode a module, the error has one of the causes of `HasListedCause`. The printer fails only if a prefix
-- of the text is longer than the limit. Exactly the sections with these names are claimed, so the error names the first
-- of the other sections that is refused. An allocation may also fail for a copy of the indent.
abbrev pub HasBufferCause : List (List ℕ) → Options → List ℕ → ℕ → Error → Type 0
HasBufferCause names o bytes limit e =
    (placed : PlacedModule) → Spells bytes placed →
    HasPrintReason (print_reasons o placed (λ x. IsTooLong names o bytes limit) (λ id. FirstIsUnknown id (kept_customs names placed.customs)))
    (causes (MayGrow o placed ⊎ IsCopied o.indent) placed) e

-- Printing a text of at most `limit` bytes, without the custom sections with these names, over a buffer is refused with
-- this error.
pub record IsBufferRefusal (names : List (List ℕ)) (o : Options) (bytes : List ℕ) (limit : ℕ) (e : Error) : Type 0 where
  -- The error is true of the bytes, whether they encode a module or not.
  pub true_of : IsSoundRefusal o bytes e
  -- If the bytes encode a module, the error has one of the causes of `HasBufferCause`.
  pub caused : HasBufferCause names o bytes limit e

-- The error is true of the bytes, as for `Config::print`, or the indent was not copied because an allocation
-- failed.
abbrev pub IsTrueOrUncopied : Options → List ℕ → Error → Type 0
IsTrueOrUncopied o bytes e = IsSoundRefusal o bytes e ⊎ ((e ≡ Memory) × IsCopied o.indent)

-- This text is not longer than the limit, and was written over the contents of the buffer: its first bytes, as many as
-- fit.
abbrev pub IsWritten : ℕ → List ℕ → List ℕ → List ℕ → Type 0
IsWritten limit old new text = (new ≡ over text old) × (length text ≤ limit)

-- The contents of the buffer after an error. The order is: names of sections that are left out, options, bytes of the
-- module, limit, error, contents before, contents after.
abbrev pub LeavesBuffer : List (List ℕ) → Options → List ℕ → ℕ → Error → List ℕ → List ℕ → Type 0
-- After an unknown subsection of a `dylink.0` section: the text before that section.
LeavesBuffer names o bytes limit (DylinkSubsection id) old new = PutsTextBeforeWithout names id o bytes (IsWritten limit old new)
-- If the text is longer than the limit: a prefix of the text.
LeavesBuffer names o bytes limit (Printer e) old new = PutsPrefixWithout names o bytes (IsWritten limit old new)
-- If an allocation failed: the buffer is unchanged or, only if operators are folded, has a prefix of the text.
LeavesBuffer names o bytes limit Memory old new = (new ≡ old) ⊎ ((o.folds ≡ true) × PutsPrefixWithout names o bytes (IsWritten limit old new))
-- After any other error: the buffer is unchanged.
LeavesBuffer names o bytes limit e old new = new ≡ old

-- The module was refused with this outcome.
pub record IsRefusedWith (r : Request) (bytes : List ℕ) (b : Buffers) (outcome : Outcome) : Type 0 where
  -- The names in the list. The list of a component is not read.
  pub names : List (List ℕ)
  pub listed : ¬ IsComponent bytes → IsListOf names r.omitted
  -- The error.
  pub error : Error
  -- The status is its number.
  pub numbered : outcome.status ≡ number_of error
  -- The detail is its place, count or id, or 0 if it has none.
  pub detailed : outcome.detail ≡ detail_in error
  -- It is true of the bytes, or the indent was not copied because an allocation failed.
  pub is_so : IsTrueOrUncopied r.options bytes error
  -- If the bytes encode a module, it has one of the causes of `HasBufferCause`.
  pub caused : HasBufferCause names r.options bytes r.limit error
  -- The buffer has the contents that the error leaves.
  pub left : LeavesBuffer names r.options bytes r.limit error b.old b.new
  -- The length of the text is given as 0.
  pub uncounted : outcome.length ≡ 0
  -- The number of events is given as 0.
  pub unlisted : outcome.count ≡ 0
