-- The laws of the groups of folded text with colors: they are the nodes of its trees, as they are without colors.
use Rattle.std.specs.Prelude.{◌≡◌, ℕ, List, [], map, Bool, true, false, Some, None, option_map}
use Rattle.std.specs.List.{AllByRecursion}
use Rattle.wasmprinter_spec.specs.Grammar.{Placed, ◌>>=◌}
use Rattle.wasmprinter_spec.specs.Binary.{Spells}
use Rattle.wasmprinter_spec.specs.Operator.{Operator}
use Rattle.wasmprinter_spec.specs.Placed.{PlacedModule}
use Rattle.wasmprinter_spec.specs.Module.{without_places}
use Rattle.wasmprinter_spec.specs.Color.{uncolor}
use Rattle.wasmprinter_spec.specs.Options.{Options, Answers, IsBlank}
use Rattle.wasmprinter_spec.specs.Names.{AreNamed}
use Rattle.wasmprinter_spec.specs.Piece.{all_calls}
use Rattle.wasmprinter_spec.specs.Customs.Hints.{Hint}
use Rattle.wasmprinter_spec.specs.Layout.{layout, refusal}
use Rattle.wasmprinter_spec.specs.Layout.Operators.{Setting}
use Rattle.wasmprinter_spec.specs.Layout.Folded.{items, head_text, text_in_color, node_pieces}
use Rattle.wasmprinter_spec.specs.Folding.Arities.{Signatures}
use Rattle.wasmprinter_spec.specs.Folding.Code.{Item, NestedCode, nested_code_of}
use Rattle.wasmprinter_spec.specs.Folding.Refusals.{IsFoldable}
use Rattle.wasmprinter_spec.specs.Folding.Tree.{tree}
use Rattle.wasmprinter_spec.specs.Read.{Fields, fields, module_fields}
use Rattle.wasmprinter_laws.specs.Listed.{IsListed, AreSignaturesInRange}
use Rattle.wasmprinter_laws.specs.FoldedLaws.{without_counts}
use Rattle.wasmprinter_laws.specs.NodeLaws.{items_in, nodes_in, with_heads}
use Rattle.wasmprinter_laws.specs.TreeLaws.{HaveTrees}

-- After the escape sequences are deleted, the text has the nodes of the tree. The text of folded operators has
-- colors or not (`color`), and the sequences of all styles are written or not (`styles`). (The other parameters, and
-- the bare `0 [] []` and `true`, are those of `FoldedGroupsAreNodes`.)
abbrev pub ColoredGroupsAreNodes : Type 0
ColoredGroupsAreNodes =
    (s : Setting) → AreNamed s.names → AreSignaturesInRange s.signature →
    (signatures : Signatures) (hs : List (Placed Hint)) (os : List (Placed Operator)) → AllByRecursion IsListed (without_places os) →
    (xs : List Item) → map without_counts xs ≡ map without_counts (items s signatures hs 0 [] [] os) →
    (code : NestedCode) → nested_code_of xs ≡ Some code →
    (o : Options) → IsBlank o.indent → (styles color : Bool) →
    option_map (with_heads (λ f. Some f))
    (nodes_in (uncolor (text_in_color styles (all_calls o (node_pieces o color s.form true s.nesting (tree code))))))
    ≡ Some (with_heads (λ h. items_in (head_text o h)) (tree code))

-- After the escape sequences are deleted, the groups of the text of a module with folded operators are the nodes
-- of the module's trees, field by field. The text has colors within folded operators or not (`o.color`), and the
-- sequences of all styles or not (`styles`). (The module is foldable, and no `dylink.0` section is refused.)
abbrev pub ColoredModulesHaveTrees : Type 0
ColoredModulesHaveTrees =
    (bytes : List ℕ) (m : PlacedModule) (o : Options) (answers : Answers) →
    Spells bytes m → o.folds ≡ true → o.skeleton ≡ false → IsBlank o.indent →
    IsFoldable o m → refusal o answers m ≡ None → (styles : Bool) →
    (fs : Fields) × ((items_in (uncolor (text_in_color styles (layout o answers m))) >>= module_fields >>= fields) ≡ Some fs) × HaveTrees o.synthesizes m fs
