-- The law of the groups of a folded module's text: in each field they are the nodes of the trees of its lists of
-- operators.
use Rattle.std.specs.Prelude.{◌≡◌, ℕ, ◌+◌, ◌||◌, List, [], ◌∷◌, ◌++◌, map, bytes_eq, codes, cond, length, Bool, true, false, Option, Some, None, option_map}
use Rattle.wasmprinter_spec.specs.Grammar.{Placed, ◌>>=◌}
use Rattle.wasmprinter_spec.specs.Binary.{Spells}
use Rattle.wasmprinter_spec.specs.Forest.{Forest, End, Word, Name, String, Reserved, Group, Note}
use Rattle.wasmprinter_spec.specs.Operator.{Operator}
use Rattle.wasmprinter_spec.specs.Types.{all_types}
use Rattle.wasmprinter_spec.specs.Placed.{PlacedFunction, PlacedModule}
use Rattle.wasmprinter_spec.specs.Module.{without_places, imported_types, func_import, groups_of}
use Rattle.wasmprinter_spec.specs.Call.{text_of}
use Rattle.wasmprinter_spec.specs.Options.{Options, defaults, Answers, IsBlank}
use Rattle.wasmprinter_spec.specs.Code.{head}
use Rattle.wasmprinter_spec.specs.Customs.Hints.{Hint, FunctionHints, hints_of, hints_of_next, entries_after}
use Rattle.wasmprinter_spec.specs.ModuleNames.{module_names}
use Rattle.wasmprinter_spec.specs.Layout.{scope_after, layout, refusal}
use Rattle.wasmprinter_spec.specs.Layout.Declarations.{Scope, scope_of, scope_of_function}
use Rattle.wasmprinter_spec.specs.Layout.Expressions.{in_line}
use Rattle.wasmprinter_spec.specs.Layout.Folded.{items, head_text}
use Rattle.wasmprinter_spec.specs.Layout.Functions.{over_lines, result_count}
use Rattle.wasmprinter_spec.specs.Layout.Operators.{Setting}
use Rattle.wasmprinter_spec.specs.Folding.Arities.{Signatures, signatures_within}
use Rattle.wasmprinter_spec.specs.Folding.Code.{nested_code_of}
use Rattle.wasmprinter_spec.specs.Folding.Refusals.{element_lists, data_lists, IsFoldable}
use Rattle.wasmprinter_spec.specs.Folding.Tree.{NodesOf, Nodes, Nil, tree}
use Rattle.wasmprinter_spec.specs.Read.{Fields, fields, module_fields}
use Rattle.wasmprinter_laws.specs.NodeLaws.{is_node_head, node_row_of, node_groups, items_in, with_heads}

-- ---- the nodes of fields

-- The nodes after the other items of a field: the body of a function, the initialiser of a global or of a table
abbrev pub field_nodes : Forest → Option (NodesOf Forest)
field_nodes f = option_map (λ r. r.nodes) (node_row_of f)

-- The nodes of an expression in a group of its own: after the word `offset` or `item`, or a single node
abbrev pub group_nodes : Forest → List (Option (NodesOf Forest))
group_nodes (Word w f) =
    cond (bytes_eq w (codes "offset") || bytes_eq w (codes "item")) (node_groups f ∷ [])
    (cond (is_node_head (head w)) (node_groups (Group (Word w f) End) ∷ []) [])
group_nodes _ = []

-- The nodes of each expression of a segment: of its offset and of its items
abbrev pub segment_nodes : Forest → List (Option (NodesOf Forest))
segment_nodes End = []
segment_nodes (Word w f) = segment_nodes f
segment_nodes (Name s f) = segment_nodes f
segment_nodes (String s f) = segment_nodes f
segment_nodes (Reserved f) = segment_nodes f
segment_nodes (Group g f) = group_nodes g ++ segment_nodes f
segment_nodes (Note id g f) = segment_nodes f

-- ---- the trees of a module

-- The tree of a list of operators, or `None` if it can't be folded
abbrev pub tree_of : Setting → Signatures → List (Placed Hint) → List (Placed Operator) → Option Nodes
tree_of s signatures hs os = option_map tree (nested_code_of (items s signatures hs 0 [] [] os))

module _ (m : PlacedModule) where
  -- The tree of a constant expression at this nesting depth, without hints (`[]`) and in a function without results
  abbrev pub constant_tree : Scope → ℕ → List (Placed Operator) → Option Nodes
  constant_tree s nesting os = tree_of (in_line s nesting) (signatures_within m (Some 0)) [] os

  -- The tree of the initialiser of a table; a table without one has no nodes.
  abbrev pub init_tree : Scope → Option (List (Placed Operator)) → Option Nodes
  init_tree s init = elim init as (λ i. Option Nodes) [ None ↦ Some Nil | Some os ↦ constant_tree s 2 os ]

  -- The trees of the expressions of a segment
  abbrev pub segment_trees : Scope → List (List (Placed Operator)) → List (Option Nodes)
  segment_trees s es = map (constant_tree s 3) es

  -- The tree of the body of a function, with these hints
  abbrev pub body_tree : Scope → List (Placed Hint) → PlacedFunction → Option Nodes
  body_tree s hs f = tree_of (over_lines s f.body.place) (signatures_within m (result_count s f.type_index)) hs f.body.value.operators

  -- The trees of the bodies of functions from index `i` on, each with its hints
  abbrev pub body_trees : Scope → List FunctionHints → ℕ → List PlacedFunction → List (Option Nodes)
  body_trees s es i [] = []
  body_trees s es i (f ∷ fs) = body_tree (scope_of_function s i) (hints_of_next i es) f ∷ body_trees s (entries_after i es) (i + 1) fs

-- ---- the law

-- Lists of equal length whose elements are related one by one
abbrev pub AreAlike : {A B : Type 0} → (A → B → Type 0) → List A → List B → Type 0
AreAlike R [] [] = Unit {0}
AreAlike R (x ∷ xs) (y ∷ ys) = R x y × AreAlike R xs ys
AreAlike R _ _ = ⊥

-- The nodes of a text are those of a tree. The items of each node before its inner nodes are those that the text of
-- its own operator reads as.
abbrev pub AreNodesOf : Option (NodesOf Forest) → Option Nodes → Type 0
AreNodesOf found expected =
    (t : Nodes) × (expected ≡ Some t) × (option_map (with_heads (λ f. Some f)) found ≡ Some (with_heads (λ h. items_in (head_text defaults h)) t))

-- The scope of the trees of a module: its types and identifiers, which are synthesized for items without a name if
-- the first argument is `true`, and the index of the first function that it defines
abbrev pub tree_scope : Bool → PlacedModule → Scope
tree_scope synthesizes m =
    scope_of (all_types (groups_of m.types)) (module_names synthesizes m) (length (imported_types func_import (without_places m.imports))) None

-- The nodes in the fields of a text are those of the module's trees: a function has those of its body, a global and
-- a table those of their initialisers, and a segment those of its offset and of its items. (The bare 2 is a nesting
-- depth; the bare `false`: the text is not a skeleton, so it has the items.)
pub record HaveTrees (synthesizes : Bool) (m : PlacedModule) (fs : Fields) : Type 0 where
  pub tables : AreAlike AreNodesOf (map field_nodes fs.tables) (map (λ t. init_tree m (tree_scope synthesizes m) t.value.init) m.tables)
  pub globals : AreAlike AreNodesOf (map field_nodes fs.globals) (map (λ g. constant_tree m (tree_scope synthesizes m) 2 g.value.init) m.globals)
  pub elements : AreAlike (AreAlike AreNodesOf) (map segment_nodes fs.elements)
      (map (λ e. segment_trees m (tree_scope synthesizes m) (element_lists false e)) m.elements)
  pub functions : AreAlike AreNodesOf (map field_nodes fs.functions)
      (body_trees m (tree_scope synthesizes m) (hints_of m.customs) (tree_scope synthesizes m).function m.functions)
  pub data_segments : AreAlike (AreAlike AreNodesOf) (map segment_nodes fs.data_segments)
      (map (λ d. segment_trees m (scope_after m (tree_scope synthesizes m)) (data_lists d)) m.data_segments)

-- The groups of the text of a module whose operators are folded are the nodes of its trees, field by field. (The
-- module is foldable, the text has no colors, and no `dylink.0` section is refused.)
abbrev pub FoldedModulesHaveTrees : Type 0
FoldedModulesHaveTrees =
    (bytes : List ℕ) (m : PlacedModule) (o : Options) (answers : Answers) →
    Spells bytes m → o.folds ≡ true → o.skeleton ≡ false → o.color ≡ false → IsBlank o.indent →
    IsFoldable o m → refusal o answers m ≡ None →
    (fs : Fields) × ((items_in (text_of (layout o answers m)) >>= module_fields >>= fields) ≡ Some fs) × HaveTrees o.synthesizes m fs
