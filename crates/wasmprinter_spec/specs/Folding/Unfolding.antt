-- The operators of nodes, as a list in their flat order (section 6.5 of the standard, "Folded Instructions").
use Rattle.std.specs.Prelude.{◌≡◌, List, [], ◌∷◌, ◌++◌, map, Option, Some, None}
use Rattle.wasmprinter_spec.specs.Row.{Role, Opens, OpensIf, Ends}
use Rattle.wasmprinter_spec.specs.Folding.Code.{Item, NestedCode, flat, role, IsFit}
use Rattle.wasmprinter_spec.specs.Folding.Tree.{Of, ThenCase, ElseCase, Nodes, Nil, Snoc, tree}

-- An operator as nodes record it. Nodes record of an `end` only that it is one: None.
abbrev pub Told : Type 0
Told = Option Item

-- The record of an operator with this role.
abbrev pub told_by_role : Role → Item → Told
told_by_role Ends x = None
told_by_role _ x = Some x

-- The records of operators, in order.
abbrev pub told_of : List Item → List Told
told_of xs = map (λ x. told_by_role (role x) x) xs

-- The position of nodes: in the node of this `if`, or elsewhere.
pub data Where : Type 0 where
  Elsewhere : Where
  Within : Item → Where

-- A plain operator comes after its operands. A block begins with its operator and ends after its content, an `if`
-- after its cases.
abbrev pub unfolding_by_role : Role → Item → List Told → List Told → List Told
unfolding_by_role Opens x held cases = Some x ∷ (held ++ None ∷ [])
unfolding_by_role OpensIf x held cases = cases ++ None ∷ []
unfolding_by_role _ x held cases = held ++ Some x ∷ []

-- The operator of an `if` comes where its first case begins, after the operands.
abbrev pub unfold_at : Where → Nodes → List Told
unfold_at Elsewhere Nil = []
unfold_at Elsewhere (Snoc before (Of x) results held) =
    unfold_at Elsewhere before ++ unfolding_by_role (role x) x (unfold_at Elsewhere held) (unfold_at (Within x) held)
unfold_at Elsewhere (Snoc before (ThenCase x) results held) = unfold_at Elsewhere before
unfold_at Elsewhere (Snoc before (ElseCase x) results held) = unfold_at Elsewhere before
unfold_at (Within x) (Snoc before (ThenCase y) results held) = unfold_at Elsewhere before ++ Some x ∷ unfold_at Elsewhere held
unfold_at (Within x) (Snoc before (ElseCase y) results held) = unfold_at (Within x) before ++ Some y ∷ unfold_at Elsewhere held
unfold_at (Within x) _ = []

-- The operators of nodes, in their flat order.
abbrev pub unfolding_of : Nodes → List Told
unfolding_of f = unfold_at Elsewhere f

-- The nodes of code unfold to its operators, whatever numbers of operands and results the operators have. Of an `end`,
-- both sides say only that it is one.
abbrev pub UnfoldingRule : Type 0
UnfoldingRule = (code : NestedCode) → IsFit code → unfolding_of (tree code) ≡ told_of (flat code)
