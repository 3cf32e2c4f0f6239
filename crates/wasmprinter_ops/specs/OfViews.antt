-- The program's immediates for those of the definitions.
use Rattle.std.specs.Prelude.{ℕ, Bool, true, false, map}
use Rattle.wasmprinter_spec.specs.Operator.{NoImmediates, Block, TryTable, Index, Indices, BranchTable, Types, Heap, Cast, Memory, MemoryLane, Lane, I32, I64, F32, F64, Bytes}
use Rattle.wasmprinter_spec.specs.Operator.{Empty, Value, OfType}
use Rattle.wasmprinter_spec.specs.Operator.{BlockType as DefinedBlockType, Immediates as DefinedImmediates}
use Rattle.wasmprinter_ops.specs.ValTypes.{heap_of_view, type_of_view}
use Rattle.wasmprinter_ops.specs.Blocks.{catch_of_view}
use Rattle.wasmprinter_ops.specs.declared.block_immediates.BlockType.{BlockType}
use Rattle.wasmprinter_ops.specs.declared.block_immediates.BlockType.TheVariants as block_types
use Rattle.wasmprinter_ops.specs.declared.operator.Immediates.{Immediates}
use Rattle.wasmprinter_ops.specs.declared.operator.Immediates.TheVariants as i

-- The block type of the program for one of the definitions.
abbrev pub block_type_of_view : DefinedBlockType → BlockType
block_type_of_view Empty = block_types.Empty
block_type_of_view (Value t) = block_types.Value (type_of_view t)
block_type_of_view (OfType index) = block_types.Func index

-- The flags of a cast, by whether its first and second reference types may be null.
abbrev pub cast_flags : Bool → Bool → ℕ
cast_flags false false = 0
cast_flags true false = 1
cast_flags false true = 2
cast_flags true true = 3

-- The immediates of the program for those of the definitions.
abbrev pub immediates_of_view : DefinedImmediates → Immediates
immediates_of_view NoImmediates = i.None
immediates_of_view (Block t) = i.Block (block_type_of_view t)
immediates_of_view (TryTable t cs) = i.TryTable (block_type_of_view t) (map catch_of_view cs)
immediates_of_view (Index n) = i.Index n
immediates_of_view (Indices n k) = i.Indices n k
immediates_of_view (BranchTable ls l) = i.BrTable ls l
immediates_of_view (Types ts) = i.Types (map type_of_view ts)
immediates_of_view (Heap t) = i.Heap (heap_of_view t)
immediates_of_view (Cast l s t) = i.Cast (cast_flags s.nullable t.nullable) l (heap_of_view s.heap) (heap_of_view t.heap)
immediates_of_view (Memory m) = i.Memory m
immediates_of_view (MemoryLane m k) = i.MemoryLane m k
immediates_of_view (Lane k) = i.Lane k
immediates_of_view (I32 n) = i.I32 n
immediates_of_view (I64 n) = i.I64 n
immediates_of_view (F32 bits) = i.F32 bits
immediates_of_view (F64 bits) = i.F64 bits
immediates_of_view (Bytes bs) = i.Bytes bs
