-- The reasons for the errors of printing, and the state of the printer after each error.
use Rattle.std.specs.Prelude.{◌≡◌, ◌≢◌, ◌<◌, ◌⊎◌, List, [], ◌∷◌, ◌++◌, ℕ, Bool, true, false, length, Some}
use Rattle.std.specs.declared.io.Error.{Error as IoError}
use Rattle.wasmprinter_spec.specs.Binary.{Spells, IsComponent}
use Rattle.wasmprinter_spec.specs.Placed.{CustomEntry, PlacedModule}
use Rattle.wasmprinter_spec.specs.Customs.{Refused, custom_treatment_of}
use Rattle.wasmprinter_spec.specs.Limits.{most_functions}
use Rattle.wasmprinter_spec.specs.Call.{Call, Claim, atoms}
use Rattle.wasmprinter_spec.specs.Meaning.{Run, Failed}
use Rattle.wasmprinter_spec.specs.Options.{Options, Answers, with_color}
use Rattle.wasmprinter_spec.specs.Layout.{layout, refusal}
use Rattle.wasmprinter_spec.specs.Folding.Refusals.{IsFirstLegacy, IsFirstMisplaced, IsFoldable}
use Rattle.wasmprinter_print.specs.Change.{Change}
use Rattle.wasmprinter_print.specs.MadeCalls.{Whole, Broken, Interrupted}
use Rattle.wasmprinter_bytes.specs.Reasons.{Reasons}
use Rattle.wasmprinter_bytes.specs.declared.library_error.Error.{Error}
use Rattle.wasmprinter_bytes.specs.declared.library_error.Error.TheVariants.{Malformed, Component, TooManyLocals, TooManyFunctions, EmptyTableInit, FoldLegacy, FoldHint, DylinkSubsection, Unreadable, Printer, Memory}
use Rattle.wasmprinter_decoder.specs.Modules.{bodies_of}
use Rattle.wasmprinter_decoder.specs.Refusals.{FirstIsOver, FirstIsEmpty}
use Rattle.wasmprinter_decoder.specs.Decoding.{HoldsSome, module_reasons}
use Rattle.wasmprinter.specs.Decoded.{Decoded}

-- One of these custom sections is a `dylink.0` section whose first unknown subsection has this id. That subsection
-- is complete and precedes any malformed one.
abbrev pub AnyIsUnknown : ℕ → List CustomEntry → Type 0
AnyIsUnknown id [] = ⊥
AnyIsUnknown id (c ∷ cs) = (custom_treatment_of c.section.value ≡ Refused id) ⊎ AnyIsUnknown id cs

-- The first of these custom sections that is refused for an unknown subsection is refused for the subsection with this
-- id.
abbrev pub FirstIsUnknown : ℕ → List CustomEntry → Type 0
FirstIsUnknown id [] = ⊥
FirstIsUnknown id (c ∷ cs) =
    (custom_treatment_of c.section.value ≡ Refused id)
    ⊎ (((i : ℕ) → custom_treatment_of c.section.value ≢ Refused i) × FirstIsUnknown id cs)

-- The printer did not claim this `dylink.0` section, which has an unknown subsection with this id.
pub record IsRefused {P : Type 0} (printer : Change P) (id : ℕ) (c : CustomEntry) : Type 0 where
  -- The section is refused because of its subsection with this id.
  pub unknown : custom_treatment_of c.section.value ≡ Refused id
  -- The calls that were made.
  pub calls : List Call
  -- All of them succeeded, and they lead from the state before to the state after.
  pub run : Run printer.meaning printer.old calls printer.new
  -- The calls before the claim, with each text cut into single bytes.
  pub before : List Call
  -- The last call, apart from empty texts, asked whether the printer claims this section, and it returned false.
  pub asked : atoms calls ≡ before ++ Claim c.section.value.name c.section.value.bytes.place c.section.value.bytes.value false ∷ []

-- One of these sections has an unknown subsection with this id. The last call, apart from empty texts, asked whether
-- the printer claims the section, and returned false.
abbrev pub AnyIsRefused : {P : Type 0} → Change P → ℕ → List CustomEntry → Type 0
AnyIsRefused printer id [] = ⊥
AnyIsRefused printer id (c ∷ cs) = IsRefused printer id c ⊎ AnyIsRefused printer id cs

-- The reasons for the errors of printing, besides those of decoding.
pub record PrintReasons : Type 1 where
  -- A call on the printer failed with this error.
  pub failed : IoError → Type 0
  -- A `dylink.0` section is refused for a subsection with this id.
  pub unknown : ℕ → Type 0
  -- At this place is `try`, `catch`, `catch_all` or `delegate`, which can't be folded.
  pub legacy : ℕ → Type 0
  -- At this place is a branch hint that can't be folded.
  pub hint : ℕ → Type 0

-- The proposition that the error selects. `Printer`, `DylinkSubsection`, `FoldLegacy` and `FoldHint` select one of
-- `printing`; `Memory` and the errors of decoding select one of `reasons`; `Unreadable` selects the false proposition.
abbrev pub HasPrintReason : PrintReasons → Reasons → Error → Type 0
HasPrintReason printing reasons (Malformed place) = reasons.malformed place
HasPrintReason printing reasons Component = reasons.component
HasPrintReason printing reasons (TooManyLocals place) = reasons.locals place
HasPrintReason printing reasons (TooManyFunctions count) = reasons.functions count
HasPrintReason printing reasons (EmptyTableInit place) = reasons.tables place
HasPrintReason printing reasons (FoldLegacy place) = printing.legacy place
HasPrintReason printing reasons (FoldHint place) = printing.hint place
HasPrintReason printing reasons (DylinkSubsection id) = printing.unknown id
HasPrintReason printing reasons Unreadable = ⊥
HasPrintReason printing reasons (Printer e) = printing.failed e
HasPrintReason printing reasons Memory = reasons.memory

-- Operators are folded, and at this place is the first legacy operator in the lists of operators that are printed.
abbrev pub IsLegacyAt : Options → PlacedModule → ℕ → Type 0
IsLegacyAt o m place = (o.folds ≡ true) × IsFirstLegacy o m place

-- Operators are folded, no legacy operator is printed, and at this place of the bytes is the first
-- branch hint on an operator that can't have one, in the bodies that are printed.
abbrev pub IsMisplacedAt : Options → PlacedModule → ℕ → Type 0
IsMisplacedAt o m place = (o.folds ≡ true) × IsFirstMisplaced o m place

-- The reasons for a module with these options. `failed` and `unknown` are those for a failed call and for an
-- unknown subsection.
abbrev pub print_reasons : Options → PlacedModule → (IoError → Type 0) → (ℕ → Type 0) → PrintReasons
print_reasons o m failed unknown = record {
  failed = failed;
  unknown = unknown;
  legacy = IsLegacyAt o m;
  hint = IsMisplacedAt o m;
}

-- A call failed with this error.
pub record PrinterFailed {P : Type 0} (printer : Change P) (error : IoError) : Type 0 where
  -- The calls before it.
  pub calls : List Call
  -- The state before it.
  pub before : P
  -- All calls before it succeeded, and they lead from the printer's state before printing to this state.
  pub run : Run printer.meaning printer.old calls before
  -- The failed call.
  pub call : Call
  -- In this state it may fail, with this error and the printer's state after printing. The count of failures, if the
  -- printer has one, increased by one, unless it had its greatest value.
  pub failed : Failed printer.meaning before call error printer.new

-- The reasons of decoding for bytes that encode this module: the first function with too many locals has its body at
-- this place; the module has `count` functions, which is too many; the first table with an empty initialiser is at
-- this place; an allocation failed, under the condition `growth`.
abbrev pub causes : Type 0 → PlacedModule → Reasons
causes growth placed = record {
  malformed = λ place. ⊥;
  component = ⊥;
  locals = λ place. FirstIsOver place (bodies_of placed.functions);
  functions = λ count. (length placed.functions ≡ count) × (most_functions < count);
  tables = λ place. FirstIsEmpty place placed.tables;
  memory = growth;
}

-- Something may be allocated while the module is printed: it holds something that is kept, or operators are folded.
abbrev pub MayGrow : Options → PlacedModule → Type 0
MayGrow o m = HoldsSome m ⊎ (o.folds ≡ true)

-- What the error says of a module. If the bytes encode a module, the error has one of these causes: a limit or an
-- empty initialiser (`causes`); an allocation that failed, only if the module holds something that is kept or
-- operators are folded; a subsection of a `dylink.0` section that the printer does not claim; an operator or a hint
-- that can't be folded; a call on the printer that failed with exactly this error.
abbrev pub HasListedCause : {P : Type 0} → Change P → Options → List ℕ → Error → Type 0
HasListedCause printer o bytes e =
    (placed : PlacedModule) → Spells bytes placed →
    HasPrintReason (print_reasons o placed (PrinterFailed printer) (λ id. AnyIsRefused printer id placed.customs)) (causes (MayGrow o placed) placed) e

-- `HasListedCause` for text that is built in memory: an allocation may fail for any module, no printer fails, and no
-- section is claimed. So the error names the first section that is refused, in the order of the bytes.
abbrev pub HasListedTextCause : Options → List ℕ → Error → Type 0
HasListedTextCause o bytes e =
    (placed : PlacedModule) → Spells bytes placed →
    HasPrintReason (print_reasons o placed (λ x. ⊥) (λ id. FirstIsUnknown id placed.customs)) (causes (Unit {0}) placed) e

-- The error that is returned for an error of a printer that keeps its text in memory. `Printer` becomes `Memory`,
-- since such a printer fails only if an allocation fails.
abbrev pub without_printer : Error → Error
without_printer (Printer e) = Memory
without_printer error = error

-- The bytes encode a module within the limits that satisfies `So`.
abbrev pub HaveSome : List ℕ → (PlacedModule → Type 0) → Type 0
HaveSome bytes So = (d : Decoded bytes) × So d.placed

-- The reasons for these bytes. `failed` is the reason for a failed call.
abbrev pub bytes_reasons : Options → List ℕ → (IoError → Type 0) → PrintReasons
bytes_reasons o bytes failed = record {
  failed = failed;
  unknown = λ id. HaveSome bytes (λ m. AnyIsUnknown id m.customs);
  legacy = λ place. HaveSome bytes (λ m. IsLegacyAt o m place);
  hint = λ place. HaveSome bytes (λ m. IsMisplacedAt o m place);
}

-- An allocation fails in the decoder, or during folding of a module within the limits that the bytes encode.
abbrev pub folding_reasons : Options → List ℕ → Reasons → Reasons
folding_reasons o bytes decoding = record decoding { memory = decoding.memory ⊎ ((o.folds ≡ true) × Decoded bytes) }

-- What the error says of any bytes, also if they encode no module; `HasListedCause` then says nothing. An error of the
-- decoder is true of the bytes. An error of the printer, of a `dylink.0` section or of folding is returned only if the
-- bytes encode a module within the limits. The module then has such a section, or such an operator or hint at the
-- reported place.
abbrev pub IsSoundRefusal : Options → List ℕ → Error → Type 0
IsSoundRefusal o bytes e =
    HasPrintReason (bytes_reasons o bytes (λ x. Decoded bytes)) (folding_reasons o bytes (module_reasons bytes (IsComponent bytes))) e

-- Printing these bytes with these options is refused with this error, after this change of the printer.
pub record IsPrintRefusal {P : Type 0} (printer : Change P) (o : Options) (bytes : List ℕ) (e : Error) : Type 0 where
  -- The error is true of the bytes, whether they encode a module or not: an error of decoding has its reason, as `decode`
  -- lists it. Any other error, also `Memory` of folding, is returned only if the bytes encode a module within the limits;
  -- for `FoldLegacy`, `FoldHint` and `DylinkSubsection` it has such an operator, hint or section.
  pub true_of : IsSoundRefusal o bytes e
  -- If the bytes encode a module: for a limit or folding, the first such function, table, operator or hint is at the
  -- place, or the number of functions is the count. For `DylinkSubsection`, the last call, apart from empty texts, asked
  -- for the claim of that section, which the printer does not claim. For `Printer`, a call failed with this error.
  -- `Memory` is possible only if the module has an item or custom section, or operators are folded.
  pub caused : HasListedCause printer o bytes e

-- The reasons for text that is built in memory: an allocation fails in the decoder, or the bytes encode a module
-- within the limits.
abbrev pub text_reasons : List ℕ → Reasons → Reasons
text_reasons bytes decoding = record decoding { memory = decoding.memory ⊎ Decoded bytes }

-- `IsSoundRefusal` for text that is built in memory: an allocation may also fail while any module within the limits is
-- printed, and no printer fails.
abbrev pub IsSoundTextRefusal : Options → List ℕ → Error → Type 0
IsSoundTextRefusal o bytes e = HasPrintReason (bytes_reasons o bytes (λ x. ⊥)) (text_reasons bytes (module_reasons bytes (IsComponent bytes))) e

-- `IsPrintRefusal` for text that is built in memory: no custom section is claimed, and `Printer` is not returned.
pub record IsTextRefusal (o : Options) (bytes : List ℕ) (e : Error) : Type 0 where
  -- The error is true of the bytes, whether they encode a module or not: an error of decoding has its reason, as `decode`
  -- lists it. `FoldLegacy`, `FoldHint` and `DylinkSubsection` are returned only if the bytes encode a module within the
  -- limits that has such an operator, hint or section. `Memory` is also possible for every module within the limits.
  pub true_of : IsSoundTextRefusal o bytes e
  -- If the bytes encode a module: for a limit or folding, the first such function, table, operator or hint is at the
  -- place, or the number of functions is the count. For `DylinkSubsection`, the first refused section has this id.
  -- `Memory` is possible for every module.
  pub caused : HasListedTextCause o bytes e

-- A module that the bytes encode was being printed, and `Left` describes the state.
pub record WhilePrinting (o : Options) (bytes : List ℕ) (Left : PlacedModule → Answers → Type 0) : Type 0 where
  -- The module that the bytes encode.
  pub decoded : Decoded bytes
  -- It can be folded if folding is on.
  pub foldable : IsFoldable o decoded.placed
  -- The printer's answer to the claim of each custom section.
  pub answers : Answers
  -- `Left` holds for the module and these answers.
  pub left : Left decoded.placed answers

-- The calls of a layout that ends at a refused `dylink.0` section were made.
pub record MadeUpTo {P : Type 0} (printer : Change P) (id : ℕ) (o : Options) (placed : PlacedModule) (answers : Answers) : Type 0 where
  -- The layout ends there because of the subsection with this id.
  pub ends : refusal o answers placed ≡ Some id
  -- All calls of this layout were made and succeeded.
  pub made : Whole printer.meaning printer.old printer.new (layout o answers placed)

-- The reasons of decoding, with the same proposition for each error.
abbrev pub each_reason : Type 0 → Reasons
each_reason so = record {
  malformed = λ place. so;
  component = so;
  locals = λ place. so;
  functions = λ count. so;
  tables = λ place. so;
  memory = so;
}

-- Either no call was made, or operators are folded and the calls that were made are a prefix of the layout, once each
-- text is cut into single bytes. The order is: the change of the printer, whether it can write colors as text, options,
-- bytes.
abbrev pub LeavesBeginning : {P : Type 0} → Change P → Bool → Options → List ℕ → Type 0
LeavesBeginning printer colors o bytes =
    (printer.new ≡ printer.old)
    ⊎ ((o.folds ≡ true)
    × WhilePrinting o bytes (λ placed answers. Interrupted printer.meaning printer.old printer.new (layout (with_color o colors) answers placed)))

-- The state of the printer after an error. In these layouts, the styles within the text of a folded operator are ANSI
-- escape sequences if the printer can write colors as text. Otherwise that text has no styles.
-- - `Printer`: a module was being printed. The calls before the failed one, and then that call, are a prefix of the
--   layout, once each text is cut into single bytes.
-- - `DylinkSubsection`: the calls are those of the layout up to the refused section.
-- - `Memory`: no call was made, or operators are folded and the calls are a prefix of the layout.
-- - Any other error: no call was made.
abbrev pub Leaves : {P : Type 0} → Change P → Bool → Options → List ℕ → Error → Type 0
Leaves printer colors o bytes e =
    HasPrintReason
    (record {
      failed = λ x. WhilePrinting o bytes (λ placed answers. Broken printer.meaning printer.old printer.new x (layout (with_color o colors) answers placed));
      unknown = λ id. WhilePrinting o bytes (MadeUpTo printer id (with_color o colors));
      legacy = λ place. printer.new ≡ printer.old;
      hint = λ place. printer.new ≡ printer.old;
    })
    (record (each_reason (printer.new ≡ printer.old)) { memory = LeavesBeginning printer colors o bytes })
    e
