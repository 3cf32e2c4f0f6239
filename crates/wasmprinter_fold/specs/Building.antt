-- Folding one operator after another: the blocks that are open, and the nodes of the innermost open part. `H` is
-- the type of heads: the head is the first part of a node.
use Rattle.std.specs.Prelude.{ℕ, List, [], ◌∷◌, map}
use Rattle.wasmprinter_spec.specs.Row as row
use Rattle.wasmprinter_spec.specs.Row.{Role}
use Rattle.wasmprinter_spec.specs.Folding.Code.{Item, role}
use Rattle.wasmprinter_spec.specs.Folding.Tree.{Head, Of, ThenCase, ElseCase, NodesOf, Nil, Snoc, front, last, operand_search, with_operands}

-- The open blocks, innermost first: each with those around it, the nodes before it, the head of its node, and the
-- number of its results. An `if` also has its predicate and the head of the node of its open case. After its
-- `else`, the predicate is followed by the node of its `then`.
pub data OpenNodes (H : Type 0) : Type 0 where
  Top : OpenNodes H
  InBlock : OpenNodes H → NodesOf H → H → ℕ → OpenNodes H
  InThen : OpenNodes H → NodesOf H → NodesOf H → H → H → ℕ → OpenNodes H
  InElse : OpenNodes H → NodesOf H → NodesOf H → H → H → ℕ → OpenNodes H

-- The state between two operators: the open blocks, and the nodes of the innermost open part.
pub record StateOf (H : Type 0) : Type 0 where
  pub outer : OpenNodes H
  pub groups : NodesOf H

-- The step of an operator: a plain one with the numbers of its operands and results, one that opens a block with a
-- number of results, an `else`, or an `end`. The heads are those of their nodes; the second head of `OpensIf` and the
-- head of `Else` are those of the nodes of the cases that they open.
pub data Step (H : Type 0) : Type 0 where
  Plain : H → ℕ → ℕ → Step H
  Opens : H → ℕ → Step H
  OpensIf : H → H → ℕ → Step H
  Else : H → Step H
  Ends : Step H

-- The state with these open blocks and these nodes.
abbrev pub state_at : {H : Type 0} → OpenNodes H → NodesOf H → StateOf H
state_at o f = record { outer = o; groups = f }

-- The state before the first operator.
abbrev pub start : {H : Type 0} → StateOf H
start = state_at Top Nil

-- The state after an `else`, which closes the first case of an `if`. Without such a case nothing changes.
abbrev pub state_after_else : {H : Type 0} → H → OpenNodes H → NodesOf H → StateOf H
state_after_else otherwise Top f = state_at Top f
state_after_else otherwise (InBlock o before head results) f = state_at (InBlock o before head results) f
state_after_else otherwise (InThen o before cases head case results) f =
    state_at (InElse o before (Snoc cases case 0 f) head otherwise results) Nil
state_after_else otherwise (InElse o before cases head case results) f = state_at (InElse o before cases head case results) f

-- The state after an `end`, which closes the innermost block. Without an open block nothing changes.
abbrev pub state_after_end : {H : Type 0} → OpenNodes H → NodesOf H → StateOf H
state_after_end Top f = state_at Top f
state_after_end (InBlock o before head results) f = state_at o (Snoc before head results f)
state_after_end (InThen o before cases head case results) f = state_at o (Snoc before head results (Snoc cases case 0 f))
state_after_end (InElse o before cases head case results) f = state_at o (Snoc before head results (Snoc cases case 0 f))

-- The state after one more operator.
abbrev pub step : {H : Type 0} → StateOf H → Step H → StateOf H
step s (Plain head operands results) = state_at s.outer (with_operands s.groups head results (operand_search operands s.groups))
step s (Opens head results) = state_at (InBlock s.outer s.groups head results) Nil
step s (OpensIf head case results) = state_at (InThen s.outer (front s.groups) (last s.groups) head case results) Nil
step s (Else otherwise) = state_after_else otherwise s.outer s.groups
step s Ends = state_after_end s.outer s.groups

-- The state after operators with these steps.
abbrev pub run_all : {H : Type 0} → StateOf H → List (Step H) → StateOf H
run_all s [] = s
run_all s (t ∷ ts) = run_all (step s t) ts

-- The step of an operator, by its role. Legacy operators, which are not folded, count as `end`.
abbrev pub step_of : {H : Type 0} → (Head → H) → Role → Item → Step H
step_of f row.Plain x = Plain (f (Of x)) x.operands x.results
step_of f row.Opens x = Opens (f (Of x)) x.results
step_of f row.OpensIf x = OpensIf (f (Of x)) (f (ThenCase x)) x.results
step_of f row.Else x = Else (f (ElseCase x))
step_of f _ x = Ends

-- The steps of operators. `f` gives the heads their form.
abbrev pub steps : {H : Type 0} → (Head → H) → List Item → List (Step H)
steps f xs = map (λ x. step_of f (role x) x) xs
