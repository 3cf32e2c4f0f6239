-- The law of the groups of folded text: they are the nodes of its tree, each with the items of its own operator.
use Rattle.std.specs.Prelude.{◌≡◌, ℕ, List, [], map, Bool, true, false, cond, Option, Some, None, option_map}
use Rattle.std.specs.List.{AllByRecursion}
use Rattle.wasmprinter_spec.specs.Grammar.{Placed, ◌>>=◌}
use Rattle.wasmprinter_spec.specs.Forest.{Forest, End, Word, Name, String, Reserved, Group, Note, without_annotations, forest}
use Rattle.wasmprinter_spec.specs.Operator.{Operator}
use Rattle.wasmprinter_spec.specs.Module.{without_places}
use Rattle.wasmprinter_spec.specs.Call.{text_of}
use Rattle.wasmprinter_spec.specs.Options.{Options, IsBlank}
use Rattle.wasmprinter_spec.specs.Names.{AreNamed}
use Rattle.wasmprinter_spec.specs.Piece.{all_calls}
use Rattle.wasmprinter_spec.specs.Code.{GroupHead, PartHead, head}
use Rattle.wasmprinter_spec.specs.Customs.Hints.{Hint}
use Rattle.wasmprinter_spec.specs.Layout.Operators.{Setting}
use Rattle.wasmprinter_spec.specs.Layout.Folded.{items, head_text, node_pieces}
use Rattle.wasmprinter_spec.specs.Folding.Arities.{Signatures}
use Rattle.wasmprinter_spec.specs.Folding.Code.{Item, NestedCode, nested_code_of}
use Rattle.wasmprinter_spec.specs.Folding.Tree.{NodesOf, Nil, Snoc, row_of_both, tree}
use Rattle.wasmprinter_laws.specs.Listed.{IsListed, AreSignaturesInRange}
use Rattle.wasmprinter_laws.specs.FoldedLaws.{without_counts}

-- ---- the nodes of a text

-- A row of items: those before its first node, and its nodes, each with the items before its inner nodes
pub record NodeRow : Type 0 where
  pub front : Forest
  pub nodes : NodesOf Forest

-- The row with these items before its first node, and with these nodes
abbrev pub node_row : Forest → NodesOf Forest → NodeRow
node_row f ns = record { front = f; nodes = ns }

-- A group is a node if its first word is that of an operator, `then` or `else`, and not that of a part of an
-- operator.
abbrev pub is_node_head : GroupHead → Bool
is_node_head PartHead = false
is_node_head _ = true

-- The content of a group is that of a node.
abbrev pub is_node : Forest → Bool
is_node (Word w f) = is_node_head (head w)
is_node _ = false

-- A row that starts with an item that is not a node
abbrev pub with_item : (Forest → Forest) → Option NodeRow → Option NodeRow
with_item item r = option_map (λ r. node_row (item r.front) r.nodes) r

-- The nodes of a row without items before them
abbrev pub only_nodes : NodeRow → Option (NodesOf Forest)
only_nodes r = elim r.front as (λ f. Option (NodesOf Forest)) [ End ↦ Some r.nodes | _ ↦ None ]

-- A row that starts with a node, given the row inside it; only nodes may follow it.
abbrev pub with_node : Option NodeRow → Option NodeRow → Option NodeRow
with_node inner rest = do
  r ← inner
  after ← rest >>= only_nodes
  Some (node_row End (row_of_both (Snoc Nil r.front 0 r.nodes) after))

-- The row of a forest. An annotation is not an item.
abbrev pub node_row_of : Forest → Option NodeRow
node_row_of End = Some (node_row End Nil)
node_row_of (Word w f) = with_item (Word w) (node_row_of f)
node_row_of (Name s f) = with_item (Name s) (node_row_of f)
node_row_of (String s f) = with_item (String s) (node_row_of f)
node_row_of (Reserved f) = with_item Reserved (node_row_of f)
node_row_of (Group g f) = cond (is_node g) (with_node (node_row_of g) (node_row_of f)) (with_item (Group g) (node_row_of f))
node_row_of (Note id g f) = node_row_of f

-- The nodes of a row that contains only nodes
abbrev pub node_groups : Forest → Option (NodesOf Forest)
node_groups f = node_row_of f >>= only_nodes

-- The items of a text, without annotations
abbrev pub items_in : List ℕ → Option Forest
items_in text = option_map without_annotations (forest text)

-- The nodes of a text
abbrev pub nodes_in : List ℕ → Option (NodesOf Forest)
nodes_in text = items_in text >>= node_groups

-- ---- the law

-- The same nodes with each head replaced, and without the counts of results, which a text does not contain
abbrev pub with_heads : {H K : Type 0} → (H → K) → NodesOf H → NodesOf K
with_heads make Nil = Nil
with_heads make (Snoc before head results held) = Snoc (with_heads make before) (make head) 0 (with_heads make held)

-- The nodes of the text of folded operators are those of their tree: one group for each node, in the same order and
-- at the same depth. The items of a group before its inner nodes are those that the text of its operator reads as,
-- or the word `then` or `else`. (`hs` are the hints of the operators `os`, and `xs` are these operators with any
-- counts. `0 [] []`: no block was opened before them, and no label is open. `false`: the text has no colors. `true`:
-- the first node is the first of its line. Items are compared as `Some`, since `items_in` returns an `Option`.)
abbrev pub FoldedGroupsAreNodes : Type 0
FoldedGroupsAreNodes =
    (s : Setting) → AreNamed s.names → AreSignaturesInRange s.signature →
    (signatures : Signatures) (hs : List (Placed Hint)) (os : List (Placed Operator)) → AllByRecursion IsListed (without_places os) →
    (xs : List Item) → map without_counts xs ≡ map without_counts (items s signatures hs 0 [] [] os) →
    (code : NestedCode) → nested_code_of xs ≡ Some code →
    (o : Options) → IsBlank o.indent →
    option_map (with_heads (λ f. Some f)) (nodes_in (text_of (all_calls o (node_pieces o false s.form true s.nesting (tree code)))))
    ≡ Some (with_heads (λ h. items_in (head_text o h)) (tree code))
