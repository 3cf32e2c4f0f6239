-- The laws of a module whose operators are folded in any way: by any arities, by any types of the items that they
-- name, with or without colors in their text.
use Rattle.std.specs.Prelude.{◌≡◌, ℕ, List, [], true, false, Some, None}
use Rattle.std.specs.List.{AllByRecursion}
use Rattle.wasmprinter_spec.specs.Binary.{Spells}
use Rattle.wasmprinter_spec.specs.Placed.{PlacedModule}
use Rattle.wasmprinter_spec.specs.Module.{module_of}
use Rattle.wasmprinter_spec.specs.Indexed.{IsIndexed}
use Rattle.wasmprinter_spec.specs.Limits.{HasNoEmptyInit}
use Rattle.wasmprinter_spec.specs.Call.{text_of}
use Rattle.wasmprinter_spec.specs.Color.{uncolor}
use Rattle.wasmprinter_spec.specs.Options.{Options, Answers, AreUnclaimed, IsBlank}
use Rattle.wasmprinter_spec.specs.Folding.Arities.{signatures_within}
use Rattle.wasmprinter_spec.specs.Folding.Refusals.{legacy_places}
use Rattle.wasmprinter_spec.specs.Layout.Declarations.{Folding}
use Rattle.wasmprinter_spec.specs.Layout.{layout, layout_folded, refusal}
use Rattle.wasmprinter_spec.specs.Read.{read}

-- If the options ask for it, operators are folded by the arities of the table and by the items of the module that
-- they name, with colors in their text or without, as the options say.
abbrev pub FoldsByOwnArities : Type 0
FoldsByOwnArities =
    (m : PlacedModule) (o : Options) (answers : Answers) →
    o.folds ≡ true → layout o answers m ≡ layout_folded (record { color = o.color; signatures = signatures_within m }) o answers m

-- Folded in any way or flat, the text of a module reads as that module after the escape sequences are deleted. (As
-- in the reading law, no table has an empty initialiser, and no `dylink.0` section is refused. No `try`, `catch`,
-- `catch_all` or `delegate` is printed.)
abbrev pub FoldedAnyhowReadsAsFlat : Type 0
FoldedAnyhowReadsAsFlat =
    (bytes : List ℕ) (m : PlacedModule) (o : Options) (answers : Answers) (folding : Folding) →
    Spells bytes m → IsIndexed (module_of m) → AllByRecursion (λ t. HasNoEmptyInit t.value.init) m.tables → o.skeleton ≡ false →
    IsBlank o.indent → AreUnclaimed answers → legacy_places o m ≡ [] → refusal o answers m ≡ None →
    (read (uncolor (text_of (layout_folded folding o answers m))) ≡ Some (module_of m))
    × (read (uncolor (text_of (layout (record o { folds = false }) answers m))) ≡ Some (module_of m))
