-- The laws of folded text: the text of operators reads as exactly these operators, for any numbers of operands and
-- results by which they are folded; the text of a module reads as its flat text does.
use Rattle.std.specs.Prelude.{◌≡◌, ℕ, List, [], map, true, false, Some, None}
use Rattle.std.specs.List.{AllByRecursion}
use Rattle.wasmprinter_spec.specs.Grammar.{Placed}
use Rattle.wasmprinter_spec.specs.Binary.{Spells}
use Rattle.wasmprinter_spec.specs.Operator.{Operator}
use Rattle.wasmprinter_spec.specs.Placed.{PlacedModule}
use Rattle.wasmprinter_spec.specs.Module.{module_of, without_places}
use Rattle.wasmprinter_spec.specs.Indexed.{Counts, IsIndexed}
use Rattle.wasmprinter_spec.specs.Limits.{HasNoEmptyInit}
use Rattle.wasmprinter_spec.specs.Call.{text_of}
use Rattle.wasmprinter_spec.specs.Options.{Options, Answers, AreUnclaimed, IsBlank}
use Rattle.wasmprinter_spec.specs.Names.{AreApart, AreNamed}
use Rattle.wasmprinter_spec.specs.Piece.{all_calls}
use Rattle.wasmprinter_spec.specs.Customs.Hints.{Hint}
use Rattle.wasmprinter_spec.specs.Layout.{layout, refusal}
use Rattle.wasmprinter_spec.specs.Layout.Operators.{Setting}
use Rattle.wasmprinter_spec.specs.Layout.Folded.{items, node_pieces}
use Rattle.wasmprinter_spec.specs.Folding.Arities.{Signatures}
use Rattle.wasmprinter_spec.specs.Folding.Code.{Item, NestedCode, nested_code_of}
use Rattle.wasmprinter_spec.specs.Folding.Tree.{tree}
use Rattle.wasmprinter_spec.specs.Folding.Refusals.{IsFoldable}
use Rattle.wasmprinter_spec.specs.IndexSpaces.{Context}
use Rattle.wasmprinter_spec.specs.Read.{read}
use Rattle.wasmprinter_laws.specs.OperatorLaws.{HaveSameTypes, HaveSameNames, AreOperators, read_alone}

-- An item without its numbers of operands and results
abbrev pub without_counts : Item → Item
without_counts x = record x { operands = 0; results = 0 }

-- The text that is laid out for operators folded by any numbers of operands and results, over several lines or in
-- one, with or without hints before them, reads as exactly these operators. (`hs` are the hints of the operators `os`,
-- and `xs` are these operators with any counts. `0 [] []`: no block was opened before them, and no label is open.
-- `false`: the text has no colors. `true`: the first node is the first of its line.)
abbrev pub FoldedOperatorsReadBack : Type 0
FoldedOperatorsReadBack =
    (s : Setting) → AreApart s.names → AreNamed s.names →
    (c : Context) (n : Counts) → HaveSameTypes s c n → HaveSameNames s c n →
    (signatures : Signatures) (hs : List (Placed Hint)) (os : List (Placed Operator)) → AreOperators n os →
    (xs : List Item) → map without_counts xs ≡ map without_counts (items s signatures hs 0 [] [] os) →
    (code : NestedCode) → nested_code_of xs ≡ Some code →
    (o : Options) → IsBlank o.indent →
    read_alone c (text_of (all_calls o (node_pieces o false s.form true s.nesting (tree code)))) ≡ Some (without_places os)

-- The text of a module whose operators are folded reads as its flat text does. (As in the reading law, no table has
-- an empty initialiser, the module is foldable, and no `dylink.0` section is refused.)
abbrev pub FoldedModulesReadAsFlat : Type 0
FoldedModulesReadAsFlat =
    (bytes : List ℕ) (m : PlacedModule) (o : Options) (answers : Answers) →
    Spells bytes m → IsIndexed (module_of m) → AllByRecursion (λ t. HasNoEmptyInit t.value.init) m.tables → o.skeleton ≡ false →
    o.color ≡ false → IsBlank o.indent → AreUnclaimed answers →
    IsFoldable (record o { folds = true }) m → refusal o answers m ≡ None →
    read (text_of (layout (record o { folds = true }) answers m)) ≡ read (text_of (layout (record o { folds = false }) answers m))
