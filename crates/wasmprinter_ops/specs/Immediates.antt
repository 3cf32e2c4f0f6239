-- The immediates that the program's immediates represent, and their shapes.
use Rattle.std.specs.Prelude.{◌<◌, IsTrue, MatchOption}
use Rattle.wasmprinter_spec.specs.Operator.{Opcode, NoImmediates, Block, TryTable, Index, Indices, BranchTable, Types, Heap, Cast, Memory, MemoryLane, Lane, I32, I64, F32, F64, Bytes}
use Rattle.wasmprinter_spec.specs.Operator.{Immediates as ImmediatesValue}
use Rattle.wasmprinter_spec.specs.Row.{Shape}
use Rattle.wasmprinter_spec.specs.Shapes.{has_shape}
use Rattle.wasmprinter_spec.specs.Table.{by_opcode}
use Rattle.wasmprinter_ops.specs.Blocks.{block_type_view, catches_view}
use Rattle.wasmprinter_ops.specs.Operands.{source_type, target_type}
use Rattle.wasmprinter_ops.specs.ValTypes.{heap_view, val_types_view}
use Rattle.wasmprinter_ops.specs.declared.operator.Immediates.{Immediates}
use Rattle.wasmprinter_ops.specs.declared.operator.Immediates.TheVariants as i

-- The immediates of the definitions.
abbrev pub immediates_view : Immediates → ImmediatesValue
immediates_view i.None = NoImmediates
immediates_view (i.Block t) = Block (block_type_view t)
immediates_view (i.TryTable t cs) = TryTable (block_type_view t) (catches_view cs)
immediates_view (i.Index n) = Index n
immediates_view (i.Indices n k) = Indices n k
immediates_view (i.BrTable ls l) = BranchTable ls l
immediates_view (i.Types ts) = Types (val_types_view ts)
immediates_view (i.Heap t) = Heap (heap_view t)
immediates_view (i.Cast flags l s t) = Cast l (source_type flags s) (target_type flags t)
immediates_view (i.Memory m) = Memory m
immediates_view (i.MemoryLane m k) = MemoryLane m k
immediates_view (i.Lane k) = Lane k
immediates_view (i.I32 n) = I32 n
immediates_view (i.I64 n) = I64 n
immediates_view (i.F32 bits) = F32 bits
immediates_view (i.F64 bits) = F64 bits
immediates_view (i.Bytes bs) = Bytes bs

-- The immediates have the shape.
abbrev pub HasShape : Shape → ImmediatesValue → Type 0
HasShape s i = IsTrue (has_shape s i)

-- The table lists the opcode, with a shape that the immediates have.
abbrev pub IsListedAs : Opcode → ImmediatesValue → Type 0
IsListedAs o i = MatchOption (by_opcode o) ⊥ (λ r. HasShape r.shape i)

-- The flags of a cast have two bits (section 5.4, "Reference Instructions").
abbrev pub HasCastFlags : Immediates → Type 0
HasCastFlags (i.Cast flags l s t) = flags < 4
HasCastFlags _ = Unit {0}
