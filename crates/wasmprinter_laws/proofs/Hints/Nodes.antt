-- The number of hints of nodes: it is that of their code, and the items of the nodes have the same number.
use Rattle.std.proofs.Common.{◌≡◌, ℕ, ◌+◌, true, List, [], ◌∷◌, ◌++◌, refl, ap, ◌∙◌, arith}
use Rattle.std.specs.List.{AllByRecursion}
use Rattle.wasmprinter_spec.specs.Forest.{Forest, End, Group}
use Rattle.wasmprinter_spec.specs.Row.{Role, Else, Ends}
use Rattle.wasmprinter_spec.specs.Layout.Operators.{Form}
use Rattle.wasmprinter_spec.specs.Layout.Folded.{head_hint}
use Rattle.wasmprinter_spec.specs.Folding.Code.{Item, NestedCode, Done, Plain, Block, If, IfElse, flat, role, IsFit}
use Rattle.wasmprinter_spec.specs.Folding.Refusals.{is_hintless}
use Rattle.wasmprinter_spec.specs.Folding.Tree.{Head, Of, ThenCase, ElseCase, Nodes, Nil, Snoc, row_of_both, front, last, Operands, Fit, Overshot, TooFew, operand_search, with_operands, with_operator, tree_after, tree}
use Rattle.wasmprinter_spec.specs.Text.Hints.{hint_count}
use Rattle.wasmprinter_spec.proofs.Folding.{AreLast, AreLast-operand_search}
use Rattle.wasmprinter_spec.proofs.Each.{all_parts}
use Rattle.wasmprinter_laws.proofs.Operators.Forms.{hint_items}
use Rattle.wasmprinter_laws.proofs.Folded.Items.{arguments, IsPrinted, IsHintless}
use Rattle.wasmprinter_laws.proofs.Folded.Heads.{OnHead, AllHeads}
use Rattle.wasmprinter_laws.proofs.Folded.Reads.{head_items, row_items}
use Rattle.wasmprinter_laws.proofs.Hints.Counts.{hint_count-onto, after_count, written_count, one_if_any, hint_count-hint_items}

-- ---- the items of nodes

-- The number of hints of nodes at every depth
abbrev pub node_hints : Nodes → ℕ
node_hints Nil = 0
node_hints (Snoc b h r held) = node_hints b + (one_if_any (head_hint h) + node_hints held)

-- The arguments of an operator have no hints.
abbrev pub HasBareArguments : Item → Type 0
HasBareArguments x = hint_count (arguments x) ≡ 0

pub bare_arguments : (form : Form) (xs : List Item) → AllByRecursion (IsPrinted form) xs → AllByRecursion HasBareArguments xs
bare_arguments form [] h = tt
bare_arguments form (x ∷ xs) h = (written_count h.0.writes, bare_arguments form xs h.1)

head_count : (h : Head) → OnHead HasBareArguments h → (f : Forest) → hint_count (head_items h f) ≡ hint_count f
head_count (Of x) e f = after_count (arguments x) f e
head_count (ThenCase x) e f = refl
head_count (ElseCase x) e f = refl

pub row_count : (f : Nodes) → AllHeads HasBareArguments f → hint_count (row_items true f) ≡ node_hints f
row_count Nil h = refl
row_count (Snoc b g r held) (own, before, inside) =
    let group : Forest = Group (head_items g (row_items true held)) End in
    let first : hint_count (row_items true b) ≡ node_hints b = row_count b before in
    let holds : hint_count (head_items g (row_items true held)) ≡ node_hints held = head_count g own (row_items true held) ∙ row_count held inside in
    omega (arith, hint_count-onto (row_items true b) (hint_items (head_hint g) group), hint_count-hint_items (head_hint g) group, first, holds)

-- ---- the nodes of code

abbrev pub item_hints : List Item → ℕ
item_hints [] = 0
item_hints (x ∷ xs) = one_if_any x.hint + item_hints xs

item_hints-append : (xs ys : List Item) → item_hints (xs ++ ys) ≡ item_hints xs + item_hints ys
item_hints-append [] ys = omega arith
item_hints-append (x ∷ xs) ys = omega (arith, item_hints-append xs ys)

node_hints-row_of_both : (a b : Nodes) → node_hints (row_of_both a b) ≡ node_hints a + node_hints b
node_hints-row_of_both a Nil = omega arith
node_hints-row_of_both a (Snoc b h r held) = omega (arith, node_hints-row_of_both a b)

node_hints-front-last : (f : Nodes) → node_hints f ≡ node_hints (front f) + node_hints (last f)
node_hints-front-last Nil = refl
node_hints-front-last (Snoc b h r held) = omega arith

-- Operands that were found keep their hints.
node_hints-with_operands : (f : Nodes) (x : Item) (o : Operands) → AreLast f o → node_hints (with_operands f (Of x) x.results o) ≡ node_hints f + one_if_any x.hint
node_hints-with_operands f x (Fit before run) l = omega (arith, node_hints-row_of_both before run, ap node_hints l)
node_hints-with_operands f x Overshot l = omega arith
node_hints-with_operands f x TooFew l = omega arith

-- `else` and `end` have no hint, since they have no node that a hint can precede.
no_hint : (x : Item) (r : Role) → IsHintless true x → role x ≡ r → is_hintless r ≡ true → one_if_any x.hint ≡ 0
no_hint x r h e k = ap one_if_any (h (ap is_hintless e ∙ k))

node_hints-tree_after : (f : Nodes) (code : NestedCode) → IsFit code → AllByRecursion (IsHintless true) (flat code) → node_hints (tree_after f code) ≡ node_hints f + item_hints (flat code)
node_hints-tree_after f Done h p = omega arith
node_hints-tree_after f (Plain x rest) h p =
    omega (arith, node_hints-tree_after (with_operator f x) rest h.1 p.1, node_hints-with_operands f x (operand_search x.operands f) (AreLast-operand_search x.operands f))
node_hints-tree_after f (Block x body end rest) (opens, fit_body, closes, fit_rest) p =
    let (in_body, (of_end, after)) = all_parts (IsHintless true) (flat body) (end ∷ flat rest) p.1 in
    let node : Nodes = Snoc f (Of x) x.results (tree_after Nil body) in
    omega (
      arith,
      node_hints-tree_after node rest fit_rest after,
      node_hints-tree_after Nil body fit_body in_body,
      item_hints-append (flat body) (end ∷ flat rest),
      no_hint end Ends of_end closes refl,
    )
node_hints-tree_after f (If x body end rest) (opens, fit_body, closes, fit_rest) p =
    let (in_body, (of_end, after)) = all_parts (IsHintless true) (flat body) (end ∷ flat rest) p.1 in
    let node : Nodes = Snoc (front f) (Of x) x.results (Snoc (last f) (ThenCase x) 0 (tree_after Nil body)) in
    omega (
      arith,
      node_hints-tree_after node rest fit_rest after,
      node_hints-tree_after Nil body fit_body in_body,
      node_hints-front-last f,
      item_hints-append (flat body) (end ∷ flat rest),
      no_hint end Ends of_end closes refl,
    )
node_hints-tree_after f (IfElse x body turn other end rest) (opens, fit_body, turns, fit_other, closes, fit_rest) p =
    let (in_body, (of_turn, after_turn)) = all_parts (IsHintless true) (flat body) (turn ∷ (flat other ++ end ∷ flat rest)) p.1 in
    let (in_other, (of_end, after)) = all_parts (IsHintless true) (flat other) (end ∷ flat rest) after_turn in
    let cases : Nodes = Snoc (Snoc (last f) (ThenCase x) 0 (tree_after Nil body)) (ElseCase turn) 0 (tree_after Nil other) in
    omega (
      arith,
      node_hints-tree_after (Snoc (front f) (Of x) x.results cases) rest fit_rest after,
      node_hints-tree_after Nil body fit_body in_body,
      node_hints-tree_after Nil other fit_other in_other,
      node_hints-front-last f,
      item_hints-append (flat body) (turn ∷ (flat other ++ end ∷ flat rest)),
      item_hints-append (flat other) (end ∷ flat rest),
      no_hint turn Else of_turn turns refl,
      no_hint end Ends of_end closes refl,
    )

-- The nodes of code have its hints.
pub node_hints-tree : (code : NestedCode) → IsFit code → AllByRecursion (IsHintless true) (flat code) → node_hints (tree code) ≡ item_hints (flat code)
node_hints-tree code h p = omega (arith, node_hints-tree_after Nil code h p)
