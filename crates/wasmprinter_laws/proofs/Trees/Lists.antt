-- The nodes of a list of operators: alone, after the other items of a field, and in a group of its own
use Rattle.std.proofs.Common.{◌≡◌, ℕ, zero, suc, Bool, false, true, ◌||◌, cond, List, [], ◌∷◌, Option, Some, None, option_map, refl, sym, ap, ◌∙◌, subst, bytes_eq, codes}
use Rattle.std.specs.List.{AllByRecursion}
use Rattle.wasmprinter_spec.specs.Grammar.{Placed, ◌>>=◌}
use Rattle.wasmprinter_spec.specs.Forest.{Forest, End, Word, Group, onto}
use Rattle.wasmprinter_spec.specs.Operator.{Operator}
use Rattle.wasmprinter_spec.specs.Row.{Plain}
use Rattle.wasmprinter_spec.specs.Table.{word_of, role_of_row, role_of}
use Rattle.wasmprinter_spec.specs.Types.{signature_at}
use Rattle.wasmprinter_spec.specs.Nesting.{Nests, Sequence}
use Rattle.wasmprinter_spec.specs.Instructions.{roles}
use Rattle.wasmprinter_spec.specs.Module.{without_places}
use Rattle.wasmprinter_spec.specs.Labels.{Label}
use Rattle.wasmprinter_spec.specs.Names.{AreNamed}
use Rattle.wasmprinter_spec.specs.Options.{defaults}
use Rattle.wasmprinter_spec.specs.Code.{head}
use Rattle.wasmprinter_spec.specs.Customs.Hints.{Hint}
use Rattle.wasmprinter_spec.specs.Layout.Declarations.{Scope, Folding}
use Rattle.wasmprinter_spec.specs.Layout.Expressions.{in_line}
use Rattle.wasmprinter_spec.specs.Layout.Folded.{item, items, head_text}
use Rattle.wasmprinter_spec.specs.Layout.Operators.{Setting}
use Rattle.wasmprinter_spec.specs.Folding.Arities.{Signatures}
use Rattle.wasmprinter_spec.specs.Folding.Code as folding
use Rattle.wasmprinter_spec.specs.Folding.Code.{Item, Done, AreWithoutTry, nested_code_of}
use Rattle.wasmprinter_spec.specs.Folding.Tree.{Of, NodesOf, Nodes, Nil, operand_search, with_operands, tree}
use Rattle.wasmprinter_laws.specs.Listed.{IsListed, AreSignaturesInRange}
use Rattle.wasmprinter_laws.specs.NodeLaws.{node_row, is_node_head, node_row_of, only_nodes, node_groups, items_in, with_heads}
use Rattle.wasmprinter_laws.specs.TreeLaws.{field_nodes, group_nodes, tree_of, AreNodesOf}
use Rattle.wasmprinter_laws.proofs.Tabled.{StandsAlone}
use Rattle.wasmprinter_laws.proofs.Ranged.{IsRangedExpression}
use Rattle.wasmprinter_laws.proofs.Operators.Alone.{IsAlone, alone_for}
use Rattle.wasmprinter_laws.proofs.Operators.Lists.{expression_items}
use Rattle.wasmprinter_laws.proofs.Folded.Words.{is_folded, head-folded}
use Rattle.wasmprinter_laws.proofs.Folded.Items.{item_arguments}
use Rattle.wasmprinter_laws.proofs.Folded.Lists.{code_items, folded_items, list_items, AreFoldable, defaults_are_blank, has_tree}
use Rattle.wasmprinter_laws.proofs.Folded.Rows.{IsRow}
use Rattle.wasmprinter_laws.proofs.Folded.Reads.{head_items, row_items}
use Rattle.wasmprinter_laws.proofs.Folded.ReadBack.{tree_row}
use Rattle.wasmprinter_laws.proofs.Folded.Groups.{own_items, IsRowOf, AreFront, node_front, alone, row_nodes, heads_read}
use Rattle.wasmprinter_laws.proofs.Fields.Expressions.{constant_items, constant_held, no_offset, no_item}

-- ---- a list alone

-- The tree of a list, and the nodes in its items, which are those of the tree
pub record HasNodes (s : Setting) (signatures : Signatures) (hs : List (Placed Hint)) (os : List (Placed Operator)) : Type 0 where
  pub nodes : Nodes
  pub is : tree_of s signatures hs os ≡ Some nodes
  pub groups : NodesOf Forest
  pub row : IsRowOf (folded_items false s signatures hs os) groups
  pub heads : with_heads (λ f. Some f) groups ≡ with_heads (λ h. items_in (head_text defaults h)) nodes

-- A well-nested list without `try`, `catch`, `catch_all` and `delegate` has a tree with these nodes.
pub list_has : (s : Setting) → AreNamed s.names → AreSignaturesInRange s.signature → (signatures : Signatures) (hs : List (Placed Hint)) (os : List (Placed Operator)) →
    AllByRecursion IsListed (without_places os) → Nests Sequence (roles os) → AreWithoutTry (roles os) → HasNodes s signatures hs os
list_has s named ranged signatures hs os l n t =
    let code = has_tree s signatures hs os n t in
    let f : Nodes = tree code.0 in
    let h : IsRow s.form f = tree_row s named ranged signatures hs os l code.0 code.1 in
    record {
      nodes = f;
      is = ap (option_map tree) code.1;
      groups = with_heads own_items f;
      row = ap (λ c. node_row_of (code_items false c)) code.1 ∙ alone f (row_nodes s.form f h);
      heads = heads_read defaults defaults_are_blank s.form f h;
    }

-- ---- in a field

-- A row with these nodes, and any items before them
pub record IsField (f : Forest) (ns : NodesOf Forest) : Type 0 where
  pub front : Forest
  pub row : node_row_of f ≡ Some (node_row front ns)

-- The same with more items before the row
pub after_front : (a : Forest) → AreFront a → {f : Forest} {ns : NodesOf Forest} → IsField f ns → IsField (onto a f) ns
after_front a h {f} {ns} x = record { front = onto a x.front; row = node_front a h f x.front ns x.row }

-- The nodes of a field are those of its list of operators, with any items before them.
pub field_has : {s : Setting} {signatures : Signatures} {hs : List (Placed Hint)} {os : List (Placed Operator)} (h : HasNodes s signatures hs os) {f : Forest} → IsField f h.groups →
    AreNodesOf (field_nodes f) (tree_of s signatures hs os)
field_has h x =
    (h.nodes, h.is, ap (λ r. option_map (with_heads (λ (f : Forest). Some f)) (option_map (λ r. r.nodes) r)) x.row ∙ ap (λ t. Some t) h.heads)

-- The same without items before them
row_has : {s : Setting} {signatures : Signatures} {hs : List (Placed Hint)} {os : List (Placed Operator)} (h : HasNodes s signatures hs os) (f : Forest) → IsRowOf f h.groups →
    AreNodesOf (node_groups f) (tree_of s signatures hs os)
row_has h f e =
    (h.nodes, h.is, ap (λ r. option_map (with_heads (λ (f : Forest). Some f)) (r >>= only_nodes)) e ∙ ap (λ t. Some t) h.heads)

-- ---- in a group of its own

-- A group with one list of operators
pub record GroupHas (g : Forest) (expected : Option Nodes) : Type 0 where
  pub found : Option (NodesOf Forest)
  pub is : group_nodes g ≡ found ∷ []
  pub are : AreNodesOf found expected

-- Reports whether a word is that of a group that contains an expression.
abbrev pub is_expression : List ℕ → Bool
is_expression w = bytes_eq w (codes "offset") || bytes_eq w (codes "item")

-- A group of an expression with its word
worded_has : {s : Setting} {signatures : Signatures} {hs : List (Placed Hint)} {os : List (Placed Operator)} → HasNodes s signatures hs os → (w : List ℕ) → is_expression w ≡ true →
    (f : Forest) → f ≡ folded_items false s signatures hs os → GroupHas (Word w f) (tree_of s signatures hs os)
worded_has h w e f same = record {
  found = node_groups f;
  is = ap (λ t. cond t (node_groups f ∷ []) (cond (is_node_head (head w)) (node_groups (Group (Word w f) End) ∷ []) [])) e;
  are = row_has h f (ap node_row_of same ∙ h.row);
}

-- The word of an operator is not that of a group that contains an expression.
no_expression : (v : List ℕ) → StandsAlone v → is_expression v ≡ false
no_expression v a = rw (no_offset v a, no_item v a) refl

-- A group that is a single operator
alone_has : {s : Setting} {signatures : Signatures} {hs : List (Placed Hint)} {os : List (Placed Operator)} → HasNodes s signatures hs os → (v : List ℕ) → StandsAlone v →
    is_node_head (head v) ≡ true → (f : Forest) → Group (Word v f) End ≡ folded_items false s signatures hs os → GroupHas (Word v f) (tree_of s signatures hs os)
alone_has h v a is_head f same = record {
  found = node_groups (Group (Word v f) End);
  is = rw (no_expression v a, is_head) refl;
  are = row_has h (Group (Word v f) End) (ap node_row_of same ∙ h.row);
}

-- A single plain operator is one node.
one_tree : (x : Item) → folding.role x ≡ Plain → nested_code_of (x ∷ []) ≡ Some (folding.Plain x Done)
one_tree x e = rw e refl

-- Its group contains only its immediates, since there are no operands to take.
one_node : (x : Item) → row_items false (with_operands Nil (Of x) x.results (operand_search x.operands Nil)) ≡ Group (head_items (Of x) End) End
one_node x = by x.operands
  where
    by : (n : ℕ) → row_items false (with_operands Nil (Of x) x.results (operand_search n Nil)) ≡ Group (head_items (Of x) End) End
    by zero = refl
    by (suc n) = refl

-- ---- in a scope whose operators are folded

module _ (s : Scope) (x : Folding) (is : s.folding ≡ Some x) (named : AreNamed s.names) (ranged : AreSignaturesInRange (signature_at s.types)) where
  -- The nodes of a constant expression
  abbrev pub constant_nodes : ℕ → List (Placed Operator) → Type 0
  constant_nodes nesting os = HasNodes (in_line s nesting) (x.signatures (Some 0)) [] os

  without_try : (os : List (Placed Operator)) → AreFoldable s.folding os → AreWithoutTry (roles os)
  without_try os h = subst (λ t. AreFoldable t os) is h

  pub constant_has : (nesting : ℕ) (os : List (Placed Operator)) → IsRangedExpression os → AreFoldable s.folding os → constant_nodes nesting os
  constant_has nesting os h foldable =
      list_has (in_line s nesting) named ranged (x.signatures (Some 0)) [] os h.listed h.nested (without_try os foldable)

  pub constant_folds : (nesting : ℕ) (os : List (Placed Operator)) → constant_items s nesting os ≡ folded_items false (in_line s nesting) (x.signatures (Some 0)) [] os
  constant_folds nesting os = ap (λ t. list_items false t (Some 0) (in_line s nesting) [] os) is

  -- A single operator is printed as its node.
  one_folds : (o : Placed Operator) → IsListed o.value → role_of o.value.opcode ≡ Plain →
      Group (expression_items (in_line s 3) (o.value ∷ [])) End ≡ folded_items false (in_line s 3) (x.signatures (Some 0)) [] (o ∷ [])
  unfolding items
  one_folds o l plain =
      let own : Label = s.names.labels s.function 0 0 in
      let y : Item = item (in_line s 3) (x.signatures (Some 0)) None own [] [] o in
      sym (ap (code_items false) (one_tree y plain)
      ∙ one_node y
      ∙ ap (λ a. Group (Word (word_of o.value.opcode) (onto a End)) End)
      (item_arguments (in_line s 3) named ranged (x.signatures (Some 0)) None own [] [] o tt (named.labels s.function 0 0) l))

  -- A group of its own has the nodes of its tree.
  pub group_has : (w : List ℕ) → is_expression w ≡ true → (os : List (Placed Operator)) → IsRangedExpression os → AreFoldable s.folding os →
      GroupHas (constant_held s w os) (tree_of (in_line s 3) (x.signatures (Some 0)) [] os)
  group_has w e [] h foldable = worded_has (constant_has 3 [] h foldable) w e _ (constant_folds 3 [])
  group_has w e (o ∷ []) h foldable =
      let its : IsAlone o.value = alone_for o.value h.listed.0 h.nested in
      let plain : role_of o.value.opcode ≡ Plain = ap role_of_row its.row.found ∙ its.role in
      alone_has (constant_has 3 (o ∷ []) h foldable) (word_of o.value.opcode) its.alone
      (ap is_node_head (head-folded o.value h.listed.0 (ap is_folded plain))) _ (one_folds o h.listed.0 plain)
  group_has w e (o ∷ p ∷ os) h foldable = worded_has (constant_has 3 (o ∷ p ∷ os) h foldable) w e _ (constant_folds 3 (o ∷ p ∷ os))
