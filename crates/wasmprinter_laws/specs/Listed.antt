-- Operators that some bytes encode: the table lists the opcode with immediates of this shape, and their numbers are
-- in range.
use Rattle.std.specs.Prelude.{◌≡◌, ℕ, ℤ, pos, neg_ℤ, ◌<◌, ◌^◌, ◌≤ℤ◌, ◌<ℤ◌, true, Option, Some, None, List, length}
use Rattle.std.specs.List.{AllByRecursion}
use Rattle.wasmprinter_spec.specs.Types.{FuncType}
use Rattle.wasmprinter_spec.specs.Indexed.{IsDeclaredHeap, IsDeclaredRef, IsDeclaredVal, IsDeclaredFunc}
use Rattle.wasmprinter_spec.specs.Operator.{BlockType, Empty, Value, OfType, Catch, One, OneRef, All, AllRef, MemArg, Immediates, NoImmediates, Block, TryTable, Index, Indices, BranchTable, Types, Heap, Cast, Memory, MemoryLane, Lane, I32, I64, F32, F64, Bytes, Operator}
use Rattle.wasmprinter_spec.specs.Shapes.{has_row_shape}
use Rattle.wasmprinter_spec.specs.Table.{by_opcode}

-- A signed number of `n` bits and a sign
abbrev pub FitsSigned : ℕ → ℤ → Type 0
FitsSigned n z = (neg_ℤ (pos (2 ^ n)) ≤ℤ z) × (z <ℤ pos (2 ^ n))

-- A number of 32 bits
abbrev pub IsU32 : ℕ → Type 0
IsU32 n = n < 2 ^ 32

-- A number of 8 bits
abbrev pub IsByte : ℕ → Type 0
IsByte n = n < 256

-- The type indices in a block type are numbers of 32 bits.
abbrev pub IsBlockInRange : BlockType → Type 0
IsBlockInRange Empty = Unit {0}
IsBlockInRange (Value t) = IsDeclaredVal (2 ^ 32) t
IsBlockInRange (OfType n) = IsU32 n

-- The tag and the label of a catch clause are numbers of 32 bits.
abbrev pub IsCatchInRange : Catch → Type 0
IsCatchInRange (One t l) = IsU32 t × IsU32 l
IsCatchInRange (OneRef t l) = IsU32 t × IsU32 l
IsCatchInRange (All l) = IsU32 l
IsCatchInRange (AllRef l) = IsU32 l

-- The exponent of the alignment is below 64, the memory is a number of 32 bits and the offset one of 64 bits.
pub record IsMemArgInRange (m : MemArg) : Type 0 where
  pub exponent : m.exponent < 64
  pub memory : IsU32 m.memory
  pub offset : m.offset < 2 ^ 64

-- Sixteen bytes
pub record IsVectorInRange (bs : List ℕ) : Type 0 where
  pub count : length bs ≡ 16
  pub each : AllByRecursion IsByte bs

-- The numbers in the immediates are in range.
abbrev pub AreInRange : Immediates → Type 0
AreInRange NoImmediates = Unit {0}
AreInRange (Block t) = IsBlockInRange t
AreInRange (TryTable t cs) = IsBlockInRange t × AllByRecursion IsCatchInRange cs
AreInRange (Index n) = IsU32 n
AreInRange (Indices m n) = IsU32 m × IsU32 n
AreInRange (BranchTable ls l) = AllByRecursion IsU32 ls × IsU32 l
AreInRange (Types ts) = AllByRecursion (IsDeclaredVal (2 ^ 32)) ts
AreInRange (Heap h) = IsDeclaredHeap (2 ^ 32) h
AreInRange (Cast l r t) = IsU32 l × IsDeclaredRef (2 ^ 32) r × IsDeclaredRef (2 ^ 32) t
AreInRange (Memory m) = IsMemArgInRange m
AreInRange (MemoryLane m k) = IsMemArgInRange m × IsByte k
AreInRange (Lane k) = IsByte k
AreInRange (I32 z) = FitsSigned 31 z
AreInRange (I64 z) = FitsSigned 63 z
AreInRange (F32 bits) = bits < 2 ^ 32
AreInRange (F64 bits) = bits < 2 ^ 64
AreInRange (Bytes bs) = IsVectorInRange bs

-- The type indices in the signature of a function type are in range. Any other type has no signature.
abbrev pub IsSignatureInRange : Option FuncType → Type 0
IsSignatureInRange None = Unit {0}
IsSignatureInRange (Some t) = IsDeclaredFunc (2 ^ 32) t

-- The type indices in the signature of each function type are in range. The argument gives the signatures by type
-- indices.
abbrev pub AreSignaturesInRange : (ℕ → Option FuncType) → Type 0
AreSignaturesInRange signature = (i : ℕ) → IsSignatureInRange (signature i)

-- The table lists the opcode with immediates of this shape.
pub record IsListed (o : Operator) : Type 0 where
  pub shape : has_row_shape (by_opcode o.opcode) o.immediates ≡ true
  pub range : AreInRange o.immediates
