-- Well-nested operators as a tree of blocks (section 5.4 of the standard, "Control Instructions"), without legacy
-- exception handling, which is not folded.
use Rattle.std.specs.Prelude.{◌≡◌, ℕ, List, [], ◌∷◌, ◌++◌, map, Bool, true, false, Option, Some, None}
use Rattle.std.specs.List.{AllByRecursion}
use Rattle.wasmprinter_spec.specs.Grammar.{Placed, ◌>>=◌}
use Rattle.wasmprinter_spec.specs.Operator.{Operator}
use Rattle.wasmprinter_spec.specs.Row as row
use Rattle.wasmprinter_spec.specs.Row.{Role, Opens, OpensIf, OpensTry, Else, Catches, CatchesAll, Delegates, Ends}
use Rattle.wasmprinter_spec.specs.Table.{role_of}
use Rattle.wasmprinter_spec.specs.Nesting.{Nests, Sequence}
use Rattle.wasmprinter_spec.specs.Customs.Hints.{Hint}
use Rattle.wasmprinter_spec.specs.Piece.{Piece}

-- An operator of a list, with its place, its word and immediates as they are printed, its hint if it has one, the
-- number of operands that it takes, and the number of results that it gives. An operator that opens a block has
-- the results of the block.
pub record Item : Type 0 where
  pub operator : Placed Operator
  pub pieces : List Piece
  pub hint : Option (Placed Hint)
  pub operands : ℕ
  pub results : ℕ

-- Operators whose blocks are closed. Each constructor is the first operator, and its last field is the code after
-- it. Between them are the content of the block, the `else` and its content if there is one, and the `end`.
pub data NestedCode : Type 0 where
  Done : NestedCode
  Plain : Item → NestedCode → NestedCode
  Block : Item → NestedCode → Item → NestedCode → NestedCode
  If : Item → NestedCode → Item → NestedCode → NestedCode
  IfElse : Item → NestedCode → Item → NestedCode → Item → NestedCode → NestedCode

-- The operators in order.
abbrev pub flat : NestedCode → List Item
flat Done = []
flat (Plain x rest) = x ∷ flat rest
flat (Block x body end rest) = x ∷ (flat body ++ end ∷ flat rest)
flat (If x body end rest) = x ∷ (flat body ++ end ∷ flat rest)
flat (IfElse x body turn other end rest) = x ∷ (flat body ++ turn ∷ (flat other ++ end ∷ flat rest))

-- The role of an operator in the nesting of blocks.
abbrev pub role : Item → Role
role x = role_of x.operator.value.opcode

-- The roles of legacy operators: `try`, `catch`, `catch_all` and `delegate`.
abbrev pub is_try : Role → Bool
is_try OpensTry = true
is_try Catches = true
is_try CatchesAll = true
is_try Delegates = true
is_try _ = false

-- No role is one of a legacy operator.
abbrev pub AreWithoutTry : List Role → Type 0
AreWithoutTry rs = AllByRecursion (λ r. is_try r ≡ false) rs

-- ---- From the list to the tree, from right to left

-- The code after a position in a list. Outside: no `end` in it closes a block around the position. InBlock: the
-- code up to such an `end`, the `end`, and the code after it. InIf: the code up to the `else` of such a block, the
-- `else`, the code up to the `end`, the `end`, and the code after it.
pub data After : Type 0 where
  Outside : NestedCode → After
  InBlock : NestedCode → Item → After → After
  InIf : NestedCode → Item → NestedCode → Item → After → After

-- f applied to the code up to the first `else` or `end`.
abbrev pub with_code : (NestedCode → NestedCode) → After → After
with_code f (Outside code) = Outside (f code)
with_code f (InBlock code end after) = InBlock (f code) end after
with_code f (InIf code turn other end after) = InIf (f code) turn other end after

-- One more operator before the code. An `end` closes a block whose start is still to come, an `else` is in such a
-- block, and an operator that opens a block takes the code up to the `end`. Legacy operators have no tree.
abbrev pub in_front : Role → Item → After → Option After
in_front row.Plain x after = Some (with_code (Plain x) after)
in_front Ends x after = Some (InBlock Done x after)
in_front Else x (InBlock code end after) = Some (InIf Done x code end after)
in_front Opens x (InBlock code end after) = Some (with_code (Block x code end) after)
in_front OpensIf x (InBlock code end after) = Some (with_code (If x code end) after)
in_front OpensIf x (InIf code turn other end after) = Some (with_code (IfElse x code turn other end) after)
in_front _ x after = None

-- The code of a list, after the position before its first operator.
abbrev pub after_of : List Item → Option After
after_of [] = Some (Outside Done)
after_of (x ∷ xs) = after_of xs >>= in_front (role x) x

-- The code, if the block of every `end` was found.
abbrev pub whole : After → Option NestedCode
whole (Outside code) = Some code
whole _ = None

-- The tree of a list of operators. None if they are not well nested or if one is a legacy operator.
abbrev pub nested_code_of : List Item → Option NestedCode
nested_code_of xs = after_of xs >>= whole

-- Each operator has the role that its position in the tree needs.
abbrev pub IsFit : NestedCode → Type 0
IsFit Done = Unit {0}
IsFit (Plain x rest) = (role x ≡ row.Plain) × IsFit rest
IsFit (Block x body end rest) = (role x ≡ Opens) × IsFit body × (role end ≡ Ends) × IsFit rest
IsFit (If x body end rest) = (role x ≡ OpensIf) × IsFit body × (role end ≡ Ends) × IsFit rest
IsFit (IfElse x body turn other end rest) =
    (role x ≡ OpensIf) × IsFit body × (role turn ≡ Else) × IsFit other × (role end ≡ Ends) × IsFit rest

-- ---- Laws

-- The tree of a list represents that list, and each operator has the role that its position needs.
abbrev pub TreesRepresentLists : Type 0
TreesRepresentLists = (xs : List Item) (code : NestedCode) → nested_code_of xs ≡ Some code → (flat code ≡ xs) × IsFit code

-- A tree in which each operator has the role that its position needs is the tree of the list that it represents.
-- So a list has at most one such tree.
abbrev pub TreesAreUnique : Type 0
TreesAreUnique = (code : NestedCode) → IsFit code → nested_code_of (flat code) ≡ Some code

-- Operators that are well nested and without legacy operators have a tree.
abbrev pub NestedOperatorsHaveTrees : Type 0
NestedOperatorsHaveTrees =
    (xs : List Item) → Nests Sequence (map role xs) → AreWithoutTry (map role xs) → (code : NestedCode) × (nested_code_of xs ≡ Some code)

-- Operators that have a tree are well nested and without legacy operators.
abbrev pub TreesAreNested : Type 0
TreesAreNested =
    (xs : List Item) (code : NestedCode) → nested_code_of xs ≡ Some code → Nests Sequence (map role xs) × AreWithoutTry (map role xs)
