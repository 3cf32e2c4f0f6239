-- The table of operators: the parts of a row, which describes one operator. (Section 5.4 of the standard has the
-- opcode and the immediates, section 6.5 the keyword, section 3.4 the operands and results.)
use Rattle.std.specs.Prelude.{ℕ, List, Bool}

-- An index space that immediates refer to (section 2.5 of the standard, "Indices").
pub data Space : Type 0 where
  Types : Space
  Func : Space
  Table : Space
  Memory : Space
  Tag : Space
  Global : Space
  Elem : Space
  Data : Space
  Local : Space
  Label : Space

-- The shape of an operator's immediates: how the bytes encode them, and how the text writes them.
pub data Shape : Type 0 where
  NoneShape : Shape
  FenceShape : Shape  -- a byte 00, which the text omits
  BlockShape : Shape  -- a block type
  TryTableShape : Shape  -- a block type and catch clauses
  IndexShape : Space → Shape
  DefaultIndexShape : Space → Shape  -- an index that the text omits if it is 0
  PairShape : Space → Space → Shape  -- two indices
  FieldShape : Shape  -- a structure type and one of its fields
  CountShape : Shape  -- a type and a number
  CallShape : Shape  -- a function type and a table, which the text writes first and omits if it is 0
  SegmentShape : Space → Space → Shape  -- a segment of the first space; a table or memory, written first, omitted if 0
  CopyShape : Space → Shape  -- two indices that the text omits if both are 0
  BranchTableShape : Shape  -- labels, and the default label
  SelectShape : Shape  -- value types
  HeapShape : Shape  -- a heap type
  RefShape : Bool → Shape  -- a heap type that the text writes as a reference type, nullable or not
  CastShape : Shape  -- a label and two reference types
  MemoryShape : ℕ → Shape  -- a memory operand; the exponent of the operator's natural alignment
  MemoryLaneShape : ℕ → Shape  -- the same, and a lane
  LaneShape : Shape
  I32Shape : Shape
  I64Shape : Shape
  F32Shape : Shape
  F64Shape : Shape
  VectorShape : Shape  -- sixteen bytes, which the text writes as four numbers
  LanesShape : Shape  -- sixteen lanes

-- How many operands an operator takes and how many results it gives: fixed numbers, or the item that they depend on,
-- which is a type or label that it names, the enclosing function, or an immediate. P and Q are the numbers of
-- parameters and results of a function's or tag's type; v is the number of operands of a branch to a label.
pub data Arity : Type 0 where
  Fixed : ℕ → ℕ → Arity
  OfCall : Arity  -- takes P, gives Q
  OfReturnCall : Arity  -- takes P
  OfIndirectCall : Arity  -- takes P + 1, gives Q
  OfReturnIndirectCall : Arity  -- takes P + 1
  OfThrow : Arity  -- takes P
  OfReturn : Arity  -- takes the results of the enclosing function
  OfBranch : Arity  -- takes v
  OfBranchIf : Arity  -- takes v + 1, gives v
  OfBranchTable : Arity  -- takes v + 1, with v of the default label
  OfBranchOnNull : Arity  -- takes v + 1, gives v + 1
  OfBranchOnNonNull : Arity  -- takes v, gives v - 1
  OfBranchOnCast : Arity  -- takes v, gives v
  OfBlock : Arity  -- opens, divides or ends a block
  OfStruct : Arity  -- takes an operand for each field of the structure type, gives 1
  OfCount : Arity  -- takes the number of operands in its second immediate, gives 1

-- The role of an operator in the nesting of blocks (section 5.4 of the standard, "Control Instructions").
pub data Role : Type 0 where
  Plain : Role
  Opens : Role  -- `block`, `loop`, `try_table`
  OpensIf : Role
  OpensTry : Role
  Else : Role  -- `else`
  Catches : Role
  CatchesAll : Role
  Delegates : Role
  Ends : Role

-- A row: the opcode (prefix 0 if there is none), the word, the shape of the immediates, the arity, and the role.
pub record Row : Type 0 where
  pub prefix : ℕ
  pub number : ℕ
  pub word : List ℕ
  pub shape : Shape
  pub arity : Arity
  pub role : Role
