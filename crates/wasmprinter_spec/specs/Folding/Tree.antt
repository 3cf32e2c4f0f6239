-- Nodes, into which code folds. A node is a pair of parentheses with an operator and its operands, with a block
-- and its content, or with a case of an `if`. Which operators take which nodes as operands is this printer's own
-- rule.
use Rattle.std.specs.Prelude.{◌≡◌, ◌≢◌, ◌<◌, ℕ, zero, suc, ◌+◌, nat_lt, ◌==◌, Bool, true, false, if◌then◌else◌}
use Rattle.wasmprinter_spec.specs.Folding.Arities.{greatest, saturating_sum}
use Rattle.wasmprinter_spec.specs.Folding.Code.{Item, NestedCode, Done, Plain, Block, If, IfElse}

-- The head of a node: an operator (for a block, the one that opens it), the keyword `then` (the item is its `if`), or
-- an `else` (the item is that `else`).
pub data Head : Type 0 where
  Of : Item → Head
  ThenCase : Item → Head
  ElseCase : Item → Head

-- Nodes in a row, with heads of type H. The last node comes after the others, with its head, the number of results
-- that it counts for, and the nodes inside it.
pub data NodesOf (H : Type 0) : Type 0 where
  Nil : NodesOf H
  Snoc : NodesOf H → H → ℕ → NodesOf H → NodesOf H

-- Nodes of a module, which have the heads of `Head`.
abbrev pub Nodes : Type 0
Nodes = NodesOf Head

-- There is no node.
abbrev pub is_nil : {H : Type 0} → NodesOf H → Bool
is_nil Nil = true
is_nil (Snoc before head results held) = false

-- One row, and then another.
abbrev pub row_of_both : {H : Type 0} → NodesOf H → NodesOf H → NodesOf H
row_of_both a Nil = a
row_of_both a (Snoc before head results held) = Snoc (row_of_both a before) head results held

-- All nodes except the last.
abbrev pub front : {H : Type 0} → NodesOf H → NodesOf H
front Nil = Nil
front (Snoc before head results held) = before

-- The last node alone.
abbrev pub last : {H : Type 0} → NodesOf H → NodesOf H
last Nil = Nil
last (Snoc before head results held) = Snoc Nil head results held

-- The number of nodes, at every depth.
abbrev pub count : {H : Type 0} → NodesOf H → ℕ
count Nil = 0
count (Snoc before head results held) = suc (count before + count held)

-- ---- Operands

-- The result of the search for operands.
pub data OperandsOf (H : Type 0) : Type 0 where
  Fit : NodesOf H → NodesOf H → OperandsOf H  -- the nodes before the operands, and the operands
  Overshot : OperandsOf H  -- a sum exceeded the needed number first
  TooFew : OperandsOf H  -- no run has the needed number

-- The result of the search for operands among these nodes.
abbrev pub Operands : Type 0
Operands = OperandsOf Head

-- One more operand at the end, with its head, its number of results and the nodes inside it.
abbrev pub with_last : {H : Type 0} → H → ℕ → NodesOf H → OperandsOf H → OperandsOf H
with_last head results held (Fit before run) = Fit before (Snoc run head results held)
with_last head results held Overshot = Overshot
with_last head results held TooFew = TooFew

-- The shortest run of last nodes whose results, with `sum` more, are exactly the number that is needed (`wanted`).
abbrev pub operands_from : {H : Type 0} → ℕ → ℕ → NodesOf H → OperandsOf H
operands_from wanted sum Nil = TooFew
operands_from wanted sum (Snoc before head results held) =
    let next : ℕ = saturating_sum sum results in
    if next == wanted then Fit before (Snoc Nil head results held) else
    (if nat_lt wanted next then Overshot else with_last head results held (operands_from wanted next before))

-- The operands of an operator. One that takes nothing has no operands, not even nodes without results.
abbrev pub operand_search : {H : Type 0} → ℕ → NodesOf H → OperandsOf H
operand_search zero f = TooFew
operand_search (suc n) f = operands_from (suc n) 0 f

-- An operator after a row of nodes, with the nodes that it takes as operands. `Overshot`: the operands would begin
-- inside a node with several results, which can't be split. The operator then takes no node, and counts for `greatest`
-- results (2^32 - 1), so that hardly any other operator takes it.
abbrev pub with_operands : {H : Type 0} → NodesOf H → H → ℕ → OperandsOf H → NodesOf H
with_operands f head results (Fit before run) = Snoc before head results run
with_operands f head results Overshot = Snoc f head greatest Nil
with_operands f head results TooFew = Snoc f head results Nil

-- An operator after a row of nodes.
abbrev pub with_operator : Nodes → Item → Nodes
with_operator f x = with_operands f (Of x) x.results (operand_search x.operands f)

-- ---- The rule for operands, without the search

-- The number of results of nodes in a row.
abbrev pub results_of : {H : Type 0} → NodesOf H → ℕ
results_of Nil = 0
results_of (Snoc before head results held) = results_of before + results

-- `sum` and the results of each shorter run of last nodes are less than the number that is needed.
abbrev pub IsFirst : {H : Type 0} → ℕ → ℕ → NodesOf H → Type 0
IsFirst {H} wanted sum run =
    (before last : NodesOf H) → run ≡ row_of_both before last → before ≢ Nil → saturating_sum sum (results_of last) < wanted

-- The result of the search is right, where `sum` results were found before.
abbrev pub IsAnswer : {H : Type 0} → ℕ → ℕ → NodesOf H → OperandsOf H → Type 0
-- The shortest run of last nodes whose results are exactly the number that is needed.
IsAnswer wanted sum f (Fit before run) =
    (f ≡ row_of_both before run) × (saturating_sum sum (results_of run) ≡ wanted) × IsFirst wanted sum run
-- The results of a run exceed the number, and no shorter run reaches it.
IsAnswer {H} wanted sum f Overshot =
    (before : NodesOf H) × (run : NodesOf H) × (f ≡ row_of_both before run) × (wanted < saturating_sum sum (results_of run))
    × IsFirst wanted sum run
-- No run reaches the number.
IsAnswer {H} wanted sum f TooFew = (before run : NodesOf H) → f ≡ row_of_both before run → saturating_sum sum (results_of run) < wanted

-- The search ends as the rule says, for each number above 0. (The bare 0: no results were found before the search.)
abbrev pub OperandRule : Type 0
OperandRule = (wanted : ℕ) (f : Nodes) → 0 < wanted → IsAnswer wanted 0 f (operand_search wanted f)

-- ---- Code

-- The nodes of code after a row of nodes. A block takes no node before it, and counts for its own results. An `if`
-- takes the last node before it, if there is one, however many results that node has, and then has its cases.
abbrev pub tree_after : Nodes → NestedCode → Nodes
tree_after f Done = f
tree_after f (Plain x rest) = tree_after (with_operator f x) rest
tree_after f (Block x body end rest) = tree_after (Snoc f (Of x) x.results (tree_after Nil body)) rest
tree_after f (If x body end rest) = tree_after (Snoc (front f) (Of x) x.results (Snoc (last f) (ThenCase x) 0 (tree_after Nil body))) rest
tree_after f (IfElse x body turn other end rest) =
    tree_after
    (Snoc (front f) (Of x) x.results (Snoc (Snoc (last f) (ThenCase x) 0 (tree_after Nil body)) (ElseCase turn) 0 (tree_after Nil other)))
    rest

-- The nodes of code.
abbrev pub tree : NestedCode → Nodes
tree code = tree_after Nil code
