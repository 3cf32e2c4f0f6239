-- Which immediates have a shape (section 5.4 of the standard, "Instructions": the immediates after each opcode).
use Rattle.std.specs.Prelude.{Bool, true, false, Option, Some, None}
use Rattle.wasmprinter_spec.specs.Operator.{Immediates, NoImmediates, Block, TryTable, Index, Indices, BranchTable, Types, Heap, Cast, Memory, MemoryLane, Lane, I32, I64, F32, F64, Bytes}
use Rattle.wasmprinter_spec.specs.Row.{Row, Shape, NoneShape, FenceShape, BlockShape, TryTableShape, IndexShape, DefaultIndexShape, PairShape, FieldShape, CountShape, CallShape, SegmentShape, CopyShape, BranchTableShape, SelectShape, HeapShape, RefShape, CastShape, MemoryShape, MemoryLaneShape, LaneShape, I32Shape, I64Shape, F32Shape, F64Shape, VectorShape, LanesShape}

-- The immediates have the shape. A line for each shape.
abbrev pub has_shape : Shape → Immediates → Bool
has_shape NoneShape NoImmediates = true
has_shape FenceShape NoImmediates = true
has_shape BlockShape (Block t) = true
has_shape TryTableShape (TryTable t cs) = true
has_shape (IndexShape space) (Index n) = true
has_shape (DefaultIndexShape space) (Index n) = true
has_shape (PairShape first second) (Indices m n) = true
has_shape FieldShape (Indices t n) = true
has_shape CountShape (Indices t n) = true
has_shape CallShape (Indices t n) = true
has_shape (SegmentShape segments space) (Indices m n) = true
has_shape (CopyShape space) (Indices m n) = true
has_shape BranchTableShape (BranchTable ls l) = true
has_shape SelectShape (Types ts) = true
has_shape HeapShape (Heap h) = true
has_shape (RefShape null) (Heap h) = true
has_shape CastShape (Cast l r t) = true
has_shape (MemoryShape natural) (Memory m) = true
has_shape (MemoryLaneShape natural) (MemoryLane m k) = true
has_shape LaneShape (Lane k) = true
has_shape I32Shape (I32 z) = true
has_shape I64Shape (I64 z) = true
has_shape F32Shape (F32 bits) = true
has_shape F64Shape (F64 bits) = true
has_shape VectorShape (Bytes bs) = true
has_shape LanesShape (Bytes bs) = true
has_shape _ _ = false

-- There is a row, and the immediates have its shape.
abbrev pub has_row_shape : Option Row → Immediates → Bool
has_row_shape None i = false
has_row_shape (Some r) i = has_shape r.shape i
