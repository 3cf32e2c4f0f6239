-- The program's index spaces, shapes of immediates and roles, and those of the table of operators.
use Rattle.std.specs.Prelude.{ℕ, List, Option, Some, None}
use Rattle.std.specs.Borrow.{Bor}
use Rattle.wasmprinter_spec.specs.Row.{Space, Shape, NoneShape, FenceShape, BlockShape, TryTableShape, IndexShape, DefaultIndexShape, PairShape, FieldShape, CountShape, CallShape, SegmentShape, CopyShape, BranchTableShape, SelectShape, HeapShape, RefShape, CastShape, MemoryShape, MemoryLaneShape, LaneShape, I32Shape, I64Shape, F32Shape, F64Shape, VectorShape, LanesShape, Arity, Role}
use Rattle.wasmprinter_spec.specs.Row as row
use Rattle.wasmprinter_ops.specs.Arities.{arity_view}
use Rattle.wasmprinter_ops.specs.declared.opcode_shapes_arities_and_roles.Space.{Space as ProgramSpace}
use Rattle.wasmprinter_ops.specs.declared.opcode_shapes_arities_and_roles.Space.TheVariants as spaces
use Rattle.wasmprinter_ops.specs.declared.opcode_shapes_arities_and_roles.Shape.{Shape as ProgramShape}
use Rattle.wasmprinter_ops.specs.declared.opcode_shapes_arities_and_roles.Shape.TheVariants as shapes
use Rattle.wasmprinter_ops.specs.declared.opcode_shapes_arities_and_roles.Arity.{Arity as ProgramArity}
use Rattle.wasmprinter_ops.specs.declared.opcode_shapes_arities_and_roles.Role.{Role as ProgramRole}
use Rattle.wasmprinter_ops.specs.declared.opcode_shapes_arities_and_roles.Role.TheVariants as program_roles

-- The index space that an index space of the program represents.
abbrev pub space_view : ProgramSpace → Space
space_view spaces.Types = row.Types
space_view spaces.Func = row.Func
space_view spaces.Table = row.Table
space_view spaces.Memory = row.Memory
space_view spaces.Tag = row.Tag
space_view spaces.Global = row.Global
space_view spaces.Elem = row.Elem
space_view spaces.Data = row.Data
space_view spaces.Local = row.Local
space_view spaces.Label = row.Label

-- The shape that a shape of the program represents.
abbrev pub shape_view : ProgramShape → Shape
shape_view shapes.None = NoneShape
shape_view shapes.Fence = FenceShape
shape_view shapes.Block = BlockShape
shape_view shapes.TryTable = TryTableShape
shape_view (shapes.Index space) = IndexShape (space_view space)
shape_view (shapes.DefaultIndex space) = DefaultIndexShape (space_view space)
shape_view (shapes.Pair first second) = PairShape (space_view first) (space_view second)
shape_view shapes.Field = FieldShape
shape_view shapes.Count = CountShape
shape_view shapes.Call = CallShape
shape_view (shapes.Segment segments space) = SegmentShape (space_view segments) (space_view space)
shape_view (shapes.Copy space) = CopyShape (space_view space)
shape_view shapes.BranchTable = BranchTableShape
shape_view shapes.Select = SelectShape
shape_view shapes.Heap = HeapShape
shape_view (shapes.Ref null) = RefShape null
shape_view shapes.Cast = CastShape
shape_view (shapes.Memory natural) = MemoryShape natural
shape_view (shapes.MemoryLane natural) = MemoryLaneShape natural
shape_view shapes.Lane = LaneShape
shape_view shapes.I32 = I32Shape
shape_view shapes.I64 = I64Shape
shape_view shapes.F32 = F32Shape
shape_view shapes.F64 = F64Shape
shape_view shapes.Vector = VectorShape
shape_view shapes.Lanes = LanesShape

-- The same for an optional shape.
abbrev pub optional_shape_view : Option ProgramShape → Option Shape
optional_shape_view None = None
optional_shape_view (Some s) = Some (shape_view s)

-- The same for an optional entry: a word, a shape and an arity.
abbrev pub entry_view : Option (Bor (List ℕ) × ProgramShape × ProgramArity) → Option (List ℕ × Shape × Arity)
entry_view None = None
entry_view (Some (word, shape, arity)) = Some (word.now, shape_view shape, arity_view arity)

-- The role that a role of the program represents.
abbrev pub role_view : ProgramRole → Role
role_view program_roles.Plain = row.Plain
role_view program_roles.Opens = row.Opens
role_view program_roles.OpensIf = row.OpensIf
role_view program_roles.OpensTry = row.OpensTry
role_view program_roles.Else = row.Else
role_view program_roles.Catches = row.Catches
role_view program_roles.CatchesAll = row.CatchesAll
role_view program_roles.Delegates = row.Delegates
role_view program_roles.Ends = row.Ends
