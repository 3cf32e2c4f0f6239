-- Operators: an opcode with its immediates. The table lists the opcodes. (Section 2.4 of the standard,
-- "Instructions", and section 5.4.)
use Rattle.std.specs.Prelude.{ℕ, ℤ, List}
use Rattle.wasmprinter_spec.specs.Types.{HeapType, RefType, ValType}

-- The prefix byte and the number after it; or prefix 0 and the opcode's only byte.
pub record Opcode : Type 0 where
  pub prefix : ℕ
  pub number : ℕ

-- The opcode with this prefix, or 0, and this number.
abbrev pub opcode : ℕ → ℕ → Opcode
opcode p n = record { prefix = p; number = n }

-- A block type (section 2.4 of the standard, "Block types"): no result, one result, or a function type by its
-- index. These are three different values, even if they mean the same type.
pub data BlockType : Type 0 where
  Empty : BlockType
  Value : ValType → BlockType
  OfType : ℕ → BlockType

-- A catch clause of `try_table` (section 2.4 of the standard, "Control Instructions"): the tag, if it names one,
-- and the label.
pub data Catch : Type 0 where
  One : ℕ → ℕ → Catch
  OneRef : ℕ → ℕ → Catch
  All : ℕ → Catch
  AllRef : ℕ → Catch

-- A memory operand (section 2.4 of the standard, "Memory Instructions"): the exponent of the alignment, the
-- memory, the offset.
pub record MemArg : Type 0 where
  pub exponent : ℕ
  pub memory : ℕ
  pub offset : ℕ

-- The memory operand with this exponent of the alignment, this memory and this offset.
abbrev pub mem_arg_of : ℕ → ℕ → ℕ → MemArg
mem_arg_of exponent memory offset = record { exponent = exponent; memory = memory; offset = offset }

-- The immediates after an opcode, in the order of the bytes.
pub data Immediates : Type 0 where
  NoImmediates : Immediates
  Block : BlockType → Immediates
  TryTable : BlockType → List Catch → Immediates
  Index : ℕ → Immediates
  Indices : ℕ → ℕ → Immediates
  BranchTable : List ℕ → ℕ → Immediates
  Types : List ValType → Immediates
  Heap : HeapType → Immediates
  Cast : ℕ → RefType → RefType → Immediates
  Memory : MemArg → Immediates
  MemoryLane : MemArg → ℕ → Immediates
  Lane : ℕ → Immediates
  I32 : ℤ → Immediates
  I64 : ℤ → Immediates
  F32 : ℕ → Immediates  -- the bits
  F64 : ℕ → Immediates
  Bytes : List ℕ → Immediates

-- An operator: an opcode and its immediates.
pub record Operator : Type 0 where
  pub opcode : Opcode
  pub immediates : Immediates
