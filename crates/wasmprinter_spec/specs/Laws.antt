-- The laws of these definitions. They are the contracts of functions of the crate `wasmprinter_laws`. The standard
-- states none of them.
use Rattle.std.specs.Prelude.{◌≡◌, ℕ, ◌<◌, ◌^◌, List, [], ◌∷◌, ◌++◌, map, false, Some, None, ◌↔◌, chars, IsUtf8}
use Rattle.std.specs.List.{AllByRecursion}
use Rattle.wasmprinter_spec.specs.Binary.{AreBytes, Spells}
use Rattle.wasmprinter_spec.specs.Placed.{PlacedModule}
use Rattle.wasmprinter_spec.specs.Module.{module_of}
use Rattle.wasmprinter_spec.specs.Indexed.{IsIndexed}
use Rattle.wasmprinter_spec.specs.Limits.{HasNoEmptyInit}
use Rattle.wasmprinter_spec.specs.Call.{Call, atoms, text_of}
use Rattle.wasmprinter_spec.specs.Color.{uncolor}
use Rattle.wasmprinter_spec.specs.Colored.{colored_text, bare_call}
use Rattle.wasmprinter_spec.specs.Plain.{IsPlainText}
use Rattle.wasmprinter_spec.specs.Options.{Options, Answers, AreUnclaimed, IsBlank}
use Rattle.wasmprinter_spec.specs.Layout.{layout, refusal}
use Rattle.wasmprinter_spec.specs.Folding.Refusals.{IsFoldable}
use Rattle.wasmprinter_spec.specs.Quoted.{quoted_text, quoted_bytes}
use Rattle.wasmprinter_spec.specs.Float.{Width, IsWidth, single, double, Scaled, IsValue, bits_with_value, float}
use Rattle.wasmprinter_spec.specs.FloatText.{float_text, float_calls}
use Rattle.wasmprinter_spec.specs.Token.{tokens, word, string}
use Rattle.wasmprinter_spec.specs.Operator.{Operator}
use Rattle.wasmprinter_spec.specs.Table.{role_of}
use Rattle.wasmprinter_spec.specs.Nesting.{Nests, Sequence}
use Rattle.wasmprinter_spec.specs.Text.Operators.{if_nested}
use Rattle.wasmprinter_spec.specs.HintsOfModule.{OperatorHint, module_hints}
use Rattle.wasmprinter_spec.specs.Text.Hints.{text_hints}
use Rattle.wasmprinter_spec.specs.Read.{read}

-- Given bytes encode at most one module with its places.
abbrev pub SpellsAtMostOne : Type 0
SpellsAtMostOne = (bytes : List ℕ) (m n : PlacedModule) → Spells bytes m → Spells bytes n → m ≡ n

-- Lists of calls that differ only in how text is split have the same text.
abbrev pub AlikeHaveOneText : Type 0
AlikeHaveOneText = (k l : List Call) → atoms k ≡ atoms l → text_of k ≡ text_of l

-- A quoted string reads as that string.
abbrev pub QuotedTextReads : Type 0
QuotedTextReads = (s : List ℕ) → IsUtf8 s → tokens (quoted_text (chars s)) ≡ string s ∷ []

-- Quoted bytes read as those bytes.
abbrev pub QuotedBytesRead : Type 0
QuotedBytesRead = (bytes : List ℕ) → AreBytes bytes → tokens (quoted_bytes bytes) ≡ string bytes ∷ []

-- The text of the calls for a float is one word, and that word reads as the same bits.
pub record FloatReads (w : Width) (bits : ℕ) : Type 0 where
  pub tokens : tokens (text_of (float_calls w bits)) ≡ word (float_text w bits) ∷ []
  pub reads : float w (float_text w bits) ≡ Some bits

-- Each of the 2 ^ 32 and of the 2 ^ 64 bit patterns reads back, with the sign of zero and the payload of NaN.
abbrev pub FloatTextReads : Type 0
FloatTextReads = ((bits : ℕ) → bits < 2 ^ 32 → FloatReads single bits) × ((bits : ℕ) → bits < 2 ^ 64 → FloatReads double bits)

-- A number reads as the bits of the finite float that is equal to it, and as no bits if there is no such float.
-- (`Some s`: the word is a hexadecimal number with the value s.)
abbrev pub FloatsAreExact : Type 0
FloatsAreExact = (w : Width) (s : Scaled) (bits : ℕ) → IsWidth w → (bits_with_value w (Some s) ≡ Some bits) ↔ IsValue w bits s

-- The reader's test of nesting accepts operators exactly if they are well nested. (It returns those that it accepts.
-- `Sequence`: they are a row of operators and blocks, not the handlers of a `try`.)
abbrev pub TakesNested : Type 0
TakesNested = (os : List Operator) → (if_nested os ≡ Some os) ↔ Nests Sequence (map (λ o. role_of o.opcode) os)

-- The reading law: printed text reads back as the module that the bytes encode. (No table has an empty
-- initialiser: its text would equal that of a table without one. If operators are folded, all of them can be
-- folded. No `dylink.0` section is refused.)
abbrev pub ReadsBack : Type 0
ReadsBack =
    (bytes : List ℕ) (m : PlacedModule) (o : Options) (answers : Answers) →
    Spells bytes m → IsIndexed (module_of m) → AllByRecursion (λ t. HasNoEmptyInit t.value.init) m.tables → o.skeleton ≡ false →
    o.color ≡ false → IsBlank o.indent → AreUnclaimed answers →
    IsFoldable o m → refusal o answers m ≡ None →
    read (text_of (layout o answers m)) ≡ Some (module_of m)

-- Places at the beginning of lines, and an indent of spaces and tabs, change only white space and comments.
abbrev pub TokensStay : Type 0
TokensStay =
    (bytes : List ℕ) (m : PlacedModule) (o p : Options) (answers : Answers) →
    Spells bytes m → o.skeleton ≡ p.skeleton → o.synthesizes ≡ p.synthesizes → o.folds ≡ p.folds → o.color ≡ false → p.color ≡ false →
    IsBlank o.indent → IsBlank p.indent →
    tokens (text_of (layout o answers m)) ≡ tokens (text_of (layout p answers m))

-- Printed text without ANSI escape sequences is plain.
abbrev pub PrintsPlainText : Type 0
PrintsPlainText =
    (bytes : List ℕ) (m : PlacedModule) (o : Options) (answers : Answers) →
    Spells bytes m → o.color ≡ false → IsBlank o.indent → IsPlainText (text_of (layout o answers m))

-- Colors in the text of folded operators are ANSI escape sequences, and add nothing else: after they are deleted,
-- the text without them remains.
abbrev pub ColorAddsSequences : Type 0
ColorAddsSequences =
    (bytes : List ℕ) (m : PlacedModule) (o : Options) (answers : Answers) →
    Spells bytes m → IsBlank o.indent →
    uncolor (text_of (layout o answers m)) ≡ text_of (layout (record o { color = false }) answers m)

-- The ANSI escape sequences of folded operators are within the texts of calls: each call without its sequences is
-- that of the layout without them.
abbrev pub TextsContainColors : Type 0
TextsContainColors =
    (bytes : List ℕ) (m : PlacedModule) (o : Options) (answers : Answers) →
    Spells bytes m → IsBlank o.indent →
    map bare_call (layout o answers m) ≡ layout (record o { color = false }) answers m

-- A printer in colors also writes the ANSI escape sequences of every style: after all sequences are deleted, the
-- text without them remains.
abbrev pub ColoredTextKeeps : Type 0
ColoredTextKeeps =
    (bytes : List ℕ) (m : PlacedModule) (o : Options) (answers : Answers) →
    Spells bytes m → IsBlank o.indent →
    uncolor (colored_text (layout o answers m)) ≡ text_of (layout (record o { color = false }) answers m)

-- Plain text is UTF-8.
abbrev pub PlainTextIsUtf8 : Type 0
PlainTextIsUtf8 = (text : List ℕ) → IsPlainText text → IsUtf8 text

-- Plain text has no ANSI escape sequences: deleting them leaves it as it is.
abbrev pub PlainTextHasNoColor : Type 0
PlainTextHasNoColor = (text : List ℕ) → IsPlainText text → uncolor text ≡ text

-- Two plain texts joined are plain.
abbrev pub PlainTextsJoin : Type 0
PlainTextsJoin = (a b : List ℕ) → IsPlainText a → IsPlainText b → IsPlainText (a ++ b)

-- If the branch hints of a module are valid, they are those of its printed text: each once, directly before its
-- operator or the group of its operator. A hint has the index of its function, its operator's number in the body, and
-- whether the branch is likely.
abbrev pub HintsStay : Type 0
HintsStay =
    (bytes : List ℕ) (m : PlacedModule) (o : Options) (answers : Answers) (hs : List OperatorHint) →
    Spells bytes m → o.skeleton ≡ false → o.color ≡ false → IsBlank o.indent → IsFoldable o m → refusal o answers m ≡ None →
    module_hints m ≡ Some hs →
    text_hints (text_of (layout o answers m)) ≡ Some hs
