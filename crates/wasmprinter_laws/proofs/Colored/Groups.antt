-- The groups of folded text with colors are the nodes of its trees.
use Rattle.std.proofs.Common.{List, false, true, Some, option_map, refl, sym, ap, ◌∙◌}
use Rattle.std.specs.List.{AllByRecursion}
use Rattle.wasmprinter_spec.specs.Grammar.{◌>>=◌}
use Rattle.wasmprinter_spec.specs.Forest.{Forest}
use Rattle.wasmprinter_spec.specs.Options.{Options}
use Rattle.wasmprinter_spec.specs.Piece.{Piece}
use Rattle.wasmprinter_spec.specs.Layout.Folded.{node_pieces}
use Rattle.wasmprinter_spec.specs.Folding.Refusals.{IsFoldable}
use Rattle.wasmprinter_spec.specs.Folding.Tree.{tree}
use Rattle.wasmprinter_spec.specs.Read.{fields, module_fields}
use Rattle.wasmprinter_laws.specs.NodeLaws.{items_in, nodes_in, with_heads}
use Rattle.wasmprinter_laws.proofs.Folded.Items.{IsPrinted}
use Rattle.wasmprinter_laws.proofs.Folded.Rows.{IsRow}
use Rattle.wasmprinter_laws.proofs.Folded.ReadBack.{nodes_row, all_printed}
use Rattle.wasmprinter_laws.proofs.Folded.Groups.{nodes_plain, nodes_read}
use Rattle.wasmprinter_laws.proofs.Main.{prints_plain_text}
use Rattle.wasmprinter_laws.proofs.Trees.Modules.{folded_modules_have_trees}
use Rattle.wasmprinter_laws.specs.ColoredLaws.{ColoredGroupsAreNodes, ColoredModulesHaveTrees}
use Rattle.wasmprinter_laws.proofs.Colored.Recolored.{uncolored}
use Rattle.wasmprinter_laws.proofs.Colored.Nodes.{nodes_so}
use Rattle.wasmprinter_laws.proofs.Colored.Modules.{without_color, refusal_so}
use Rattle.wasmprinter_laws.proofs.Colored.Texts.{layout_so}

pub colored_groups_are_nodes : ColoredGroupsAreNodes
colored_groups_are_nodes s named ranged signatures hs os listed xs e code is o spaces styles color =
    let printed : AllByRecursion (IsPrinted s.form) xs = all_printed s named ranged signatures hs os listed xs e in
    let row : IsRow s.form (tree code) = nodes_row s.form xs printed code is in
    let ps : List Piece = node_pieces o color s.form true s.nesting (tree code) in
    let qs : List Piece = node_pieces o false s.form true s.nesting (tree code) in
    ap (λ t. option_map (with_heads (λ (f : Forest). Some f)) (nodes_in t))
    (uncolored styles o ps qs (nodes_so o color s.form true s.nesting (tree code)) (nodes_plain o spaces s.form (tree code) row s.nesting))
    ∙ nodes_read o spaces s.form (tree code) row s.nesting

-- ---- modules

pub colored_modules_have_trees : ColoredModulesHaveTrees
colored_modules_have_trees bytes m o answers spells folds whole spaces foldable none styles =
    let p : Options = without_color o in
    let k : IsFoldable p m = record { legacy = foldable.legacy; hints = foldable.hints } in
    let has = folded_modules_have_trees bytes m p answers spells folds whole refl spaces k (sym (refusal_so o answers m) ∙ none) in
    (has.0, ap (λ t. items_in t >>= module_fields >>= fields) (layout_so styles m o answers (prints_plain_text bytes m p answers spells refl spaces)) ∙ has.1, has.2)
