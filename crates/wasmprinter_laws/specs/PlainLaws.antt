-- Laws of colors for plain text: of any calls, and of one module, whether bytes encode that module or not.
use Rattle.std.specs.Prelude.{◌≡◌, List, false}
use Rattle.wasmprinter_spec.specs.Placed.{PlacedModule}
use Rattle.wasmprinter_spec.specs.Call.{Call, text_of}
use Rattle.wasmprinter_spec.specs.Colored.{colored_text}
use Rattle.wasmprinter_spec.specs.Color.{uncolor}
use Rattle.wasmprinter_spec.specs.Plain.{IsPlainText}
use Rattle.wasmprinter_spec.specs.Options.{Options, Answers}
use Rattle.wasmprinter_spec.specs.Layout.{layout}

-- Colors add only escape sequences: if the text is plain, it is what remains of the colored text after the
-- sequences are deleted.
abbrev pub ColorsKeepText : Type 0
ColorsKeepText = (calls : List Call) → IsPlainText (text_of calls) → uncolor (colored_text calls) ≡ text_of calls

-- What remains of the text of folded operators with colors after their sequences are deleted is the text without
-- colors.
abbrev pub ColorAddsSequencesTo : Type 0
ColorAddsSequencesTo =
    (m : PlacedModule) (o : Options) (answers : Answers) →
    IsPlainText (text_of (layout (record o { color = false }) answers m)) →
    uncolor (text_of (layout o answers m)) ≡ text_of (layout (record o { color = false }) answers m)

-- The same for the text with the sequences of every style.
abbrev pub ColoredTextKeepsTo : Type 0
ColoredTextKeepsTo =
    (m : PlacedModule) (o : Options) (answers : Answers) →
    IsPlainText (text_of (layout (record o { color = false }) answers m)) →
    uncolor (colored_text (layout o answers m)) ≡ text_of (layout (record o { color = false }) answers m)
