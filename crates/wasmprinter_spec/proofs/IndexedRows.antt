-- Worked rows of declared indices (section 2.5 of the standard, "Indices"), and of indents.
use Rattle.std.specs.Prelude.{ℕ, pos, negsuc, List, [], ◌∷◌, codes, true, false, Some, refl, replicate}
use Rattle.std.proofs.Common.{arith, inl, inr}
use Rattle.wasmprinter_spec.specs.Types as types
use Rattle.wasmprinter_spec.specs.Types.{ValType, I32, Ref, ref_type, field_type, FuncKind}
use Rattle.wasmprinter_spec.specs.Operator as operator
use Rattle.wasmprinter_spec.specs.Operator.{Opcode, opcode, Empty, Value, OfType, One, OneRef, All, AllRef, mem_arg_of, Immediates, NoImmediates, Block, TryTable, Index, Indices, BranchTable, Heap, Cast, MemoryLane, Lane, Bytes, Operator}
use Rattle.wasmprinter_spec.specs.Table.{table}
use Rattle.wasmprinter_spec.specs.Module.{Module}
use Rattle.wasmprinter_spec.specs.Row.{Space, Types, Func, Table, Memory, Tag, Global, Elem, Data, Local, Label, Shape, NoneShape, FenceShape, BlockShape, TryTableShape, IndexShape, DefaultIndexShape, PairShape, FieldShape, CountShape, CallShape, SegmentShape, CopyShape, BranchTableShape, SelectShape, HeapShape, RefShape, CastShape, MemoryShape, MemoryLaneShape, LaneShape, I32Shape, I64Shape, F32Shape, F64Shape, VectorShape, LanesShape}
use Rattle.wasmprinter_spec.specs.Indexed.{Counts, IsIndex, AreDeclared, IsIndexed, IsDeclaredVal, IsDeclaredSub}
use Rattle.std.specs.List.{AllByRecursion}
use Rattle.wasmprinter_spec.specs.Options.{defaults, IsBlank}
use Rattle.wasmprinter_spec.proofs.Samples.{func, local_get, local_set, call, drop, return, i32_const, i64_const, empty, identity, stored, mixed, made}

empty_indexed : IsIndexed empty
empty_indexed = record { types = tt; functions = tt; imports = tt; tables = tt; tags = tt; globals = tt; exports = tt; start = tt; elements = tt; data_segments = tt }

-- A function type has declared indices if all its parameters and results do.
plain_func : {n : ℕ} {ps rs : List ValType} → AllByRecursion (IsDeclaredVal n) ps → AllByRecursion (IsDeclaredVal n) rs → IsDeclaredSub n (func ps rs)
plain_func params results = record { supertypes = tt; composite = record { params = params; results = results } }

identity_indexed : IsIndexed identity
unfolding table
identity_indexed = record {
  types = ((plain_func (tt, tt) (tt, tt), tt), tt);
  functions = (record { type_index = (_, refl); locals = tt; operators = (omega arith, tt) }, tt);
  imports = tt;
  tables = tt;
  tags = tt;
  globals = tt;
  exports = (omega arith, tt);
  start = tt;
  elements = tt;
  data_segments = tt;
}

stored_indexed : IsIndexed stored
unfolding table
stored_indexed = record {
  types = ((plain_func tt (tt, tt), tt), tt);
  functions = (record { type_index = (_, refl); locals = (tt, tt); operators = (tt, (omega arith, (omega arith, tt))) }, tt);
  imports = tt;
  tables = tt;
  tags = tt;
  globals = tt;
  exports = tt;
  start = tt;
  elements = tt;
  data_segments = tt;
}

-- A module with two types, and a function with one local that is exported
abbrev calling : ℕ → List Operator → ℕ → Module
calling type os exported = record empty {
  types = (func (I32 ∷ []) [] ∷ []) ∷ (func [] [] ∷ []) ∷ [];
  functions = record { type_index = type; locals = I32 ∷ []; operators = os } ∷ [];
  exports = record { name = codes "f"; kind = FuncKind; index = exported } ∷ [];
}

-- Parameters and locals share one index space.
last_indices : IsIndexed (calling 0 (local_get 1 ∷ local_set 1 ∷ call 0 ∷ []) 0)
unfolding table
last_indices = record {
  types = ((plain_func (tt, tt) tt, tt), ((plain_func tt tt, tt), tt));
  functions = (record { type_index = (_, refl); locals = (tt, tt); operators = (omega arith, (omega arith, (omega arith, tt))) }, tt);
  imports = tt;
  tables = tt;
  tags = tt;
  globals = tt;
  exports = (omega arith, tt);
  start = tt;
  elements = tt;
  data_segments = tt;
}

last_type : IsIndexed (calling 1 (local_get 0 ∷ []) 0)
unfolding table
last_type = record {
  types = ((plain_func (tt, tt) tt, tt), ((plain_func tt tt, tt), tt));
  functions = (record { type_index = (_, refl); locals = (tt, tt); operators = (omega arith, tt) }, tt);
  imports = tt;
  tables = tt;
  tags = tt;
  globals = tt;
  exports = (omega arith, tt);
  start = tt;
  elements = tt;
  data_segments = tt;
}

no_such_type : IsIndexed (calling 2 [] 0) → ⊥
no_such_type i = absurd (let e = i.functions.0.type_index.1 in cc)

no_such_local : IsIndexed (calling 0 (local_get 2 ∷ []) 0) → ⊥
unfolding table
no_such_local i = omega (arith, i.functions.0.operators.0)

no_parameter : IsIndexed (calling 1 (local_get 1 ∷ []) 0) → ⊥
unfolding table
no_parameter i = omega (arith, i.functions.0.operators.0)

no_such_local_set : IsIndexed (calling 0 (local_set 2 ∷ []) 0) → ⊥
unfolding table
no_such_local_set i = omega (arith, i.functions.0.operators.0)

no_such_callee : IsIndexed (calling 0 (call 1 ∷ []) 0) → ⊥
unfolding table
no_such_callee i = omega (arith, i.functions.0.operators.0)

no_such_function : IsIndexed (calling 0 [] 1) → ⊥
no_such_function i = omega (arith, i.exports.0)

-- ---- immediates of each shape, and immediates of another shape

-- A function with an i32 parameter and a local, whose body is one operator
abbrev one_operator : Opcode → Immediates → Module
one_operator o i = calling 0 (record { opcode = o; immediates = i } ∷ []) 0

every_shape : IsIndexed (calling 0 (return ∷ call 0 ∷ drop ∷ local_get 1 ∷ i32_const (negsuc 0) ∷ i64_const (pos 5) ∷ []) 0)
unfolding table
every_shape = record {
  types = ((plain_func (tt, tt) tt, tt), ((plain_func tt tt, tt), tt));
  functions = (record { type_index = (_, refl); locals = (tt, tt); operators = (tt, (omega arith, (tt, (omega arith, (tt, (tt, tt)))))) }, tt);
  imports = tt;
  tables = tt;
  tags = tt;
  globals = tt;
  exports = (omega arith, tt);
  start = tt;
  elements = tt;
  data_segments = tt;
}

index_of_drop : IsIndexed (one_operator (opcode 0 0x1a) (Index 0)) → ⊥
unfolding table
index_of_drop i = i.functions.0.operators.0

no_index_of_local : IsIndexed (one_operator (opcode 0 0x20) NoImmediates) → ⊥
unfolding table
no_index_of_local i = i.functions.0.operators.0

constant_of_local : IsIndexed (one_operator (opcode 0 0x20) (operator.I32 (pos 0))) → ⊥
unfolding table
constant_of_local i = i.functions.0.operators.0

long_constant : IsIndexed (one_operator (opcode 0 0x41) (operator.I64 (pos 0))) → ⊥
unfolding table
long_constant i = i.functions.0.operators.0

short_constant : IsIndexed (one_operator (opcode 0 0x42) (operator.I32 (pos 0))) → ⊥
unfolding table
short_constant i = i.functions.0.operators.0

no_constant : IsIndexed (one_operator (opcode 0 0x42) NoImmediates) → ⊥
unfolding table
no_constant i = i.functions.0.operators.0

unlisted_opcode : IsIndexed (one_operator (opcode 0 0x1d) NoImmediates) → ⊥
unfolding table
unlisted_opcode i = i.functions.0.operators.0

index_of_end : IsIndexed (one_operator (opcode 0 0x0b) (Index 0)) → ⊥
unfolding table
index_of_end i = i.functions.0.operators.0

unlisted_prefix : IsIndexed (one_operator (opcode 0xfc 0x1a) NoImmediates) → ⊥
unfolding table
unlisted_prefix i = i.functions.0.operators.0

-- ---- block types, labels and tags

-- The last type as a block type, and a branch whose label does not exist
blocks_indexed : IsIndexed (calling 0 (made 0x02 (Block (OfType 1)) ∷ made 0x0c (Index 9) ∷ made 0x0b NoImmediates ∷ made 0x03 (Block (Value I32)) ∷ made 0x0e (BranchTable (4294967295 ∷ []) 7) ∷ made 0x0b NoImmediates ∷ []) 0)
unfolding table
blocks_indexed = record {
  types = ((plain_func (tt, tt) tt, tt), ((plain_func tt tt, tt), tt));
  functions = (record { type_index = (_, refl); locals = (tt, tt); operators = (tt, (tt, (tt, (tt, (tt, (tt, tt)))))) }, tt);
  imports = tt;
  tables = tt;
  tags = tt;
  globals = tt;
  exports = (omega arith, tt);
  start = tt;
  elements = tt;
  data_segments = tt;
}

catches_indexed : IsIndexed (one_operator (opcode 0 0x1f) (TryTable Empty (All 3 ∷ AllRef 0 ∷ [])))
unfolding table
catches_indexed = record {
  types = ((plain_func (tt, tt) tt, tt), ((plain_func tt tt, tt), tt));
  functions = (record { type_index = (_, refl); locals = (tt, tt); operators = ((tt, (tt, (tt, tt))), tt) }, tt);
  imports = tt;
  tables = tt;
  tags = tt;
  globals = tt;
  exports = (omega arith, tt);
  start = tt;
  elements = tt;
  data_segments = tt;
}

no_such_block_type : IsIndexed (one_operator (opcode 0 0x02) (Block (OfType 2))) → ⊥
unfolding table
no_such_block_type i = i.functions.0.operators.0

no_such_try_table_type : IsIndexed (one_operator (opcode 0 0x1f) (TryTable (OfType 2) [])) → ⊥
unfolding table
no_such_try_table_type i = let (block, catches) = i.functions.0.operators.0 in block

-- No tag is declared.
no_such_tag : IsIndexed (one_operator (opcode 0 0x08) (Index 0)) → ⊥
unfolding table
no_such_tag i = omega (arith, i.functions.0.operators.0)

no_such_caught_tag : IsIndexed (one_operator (opcode 0 0x1f) (TryTable Empty (All 0 ∷ One 0 0 ∷ []))) → ⊥
unfolding table
no_such_caught_tag i = let (block, (any_tag, (one_tag, _))) = i.functions.0.operators.0 in omega (arith, one_tag)

no_such_caught_tag_ref : IsIndexed (one_operator (opcode 0 0x1f) (TryTable Empty (OneRef 0 0 ∷ []))) → ⊥
unfolding table
no_such_caught_tag_ref i = let (block, catches) = i.functions.0.operators.0 in omega (arith, catches.0)

block_without_type : IsIndexed (one_operator (opcode 0 0x02) NoImmediates) → ⊥
unfolding table
block_without_type i = i.functions.0.operators.0

block_with_catches : IsIndexed (one_operator (opcode 0 0x02) (TryTable Empty [])) → ⊥
unfolding table
block_with_catches i = i.functions.0.operators.0

try_table_without_catches : IsIndexed (one_operator (opcode 0 0x1f) (Block Empty)) → ⊥
unfolding table
try_table_without_catches i = i.functions.0.operators.0

branch_table_of_branch : IsIndexed (one_operator (opcode 0 0x0c) (BranchTable [] 0)) → ⊥
unfolding table
branch_table_of_branch i = i.functions.0.operators.0

mixed_not_indexed : IsIndexed mixed → ⊥
mixed_not_indexed i = let (first, (second, _)) = i.exports in omega (arith, second)

-- ---- indents

default_indent : IsBlank defaults.indent
default_indent = (inl refl, (inl refl, tt))

tab_and_space : IsBlank (codes "\t ")
tab_and_space = (inr refl, (inl refl, tt))

no_indent : IsBlank []
no_indent = tt

-- ---- for each shape, immediates that are declared if each index space holds an item

abbrev immediates_of : Shape → Immediates
immediates_of NoneShape = NoImmediates
immediates_of FenceShape = NoImmediates
immediates_of BlockShape = Block (OfType 0)
immediates_of TryTableShape = TryTable (OfType 0) (One 0 0 ∷ OneRef 0 1 ∷ All 2 ∷ AllRef 3 ∷ [])
immediates_of (IndexShape space) = Index 0
immediates_of (DefaultIndexShape space) = Index 0
immediates_of (PairShape first second) = Indices 0 0
immediates_of FieldShape = Indices 0 0
immediates_of CountShape = Indices 0 7
immediates_of CallShape = Indices 0 0
immediates_of (SegmentShape segments space) = Indices 0 0
immediates_of (CopyShape space) = Indices 0 0
immediates_of BranchTableShape = BranchTable (0 ∷ 1 ∷ []) 2
immediates_of SelectShape = operator.Types (types.I32 ∷ Ref (ref_type true (types.Index 0)) ∷ [])
immediates_of HeapShape = Heap (types.Index 0)
immediates_of (RefShape null) = Heap (types.Index 0)
immediates_of CastShape = Cast 9 (ref_type true (types.Index 0)) (ref_type false types.Any)
immediates_of (MemoryShape natural) = operator.Memory (mem_arg_of natural 0 9)
immediates_of (MemoryLaneShape natural) = MemoryLane (mem_arg_of natural 0 9) 3
immediates_of LaneShape = Lane 3
immediates_of I32Shape = operator.I32 (pos 0)
immediates_of I64Shape = operator.I64 (pos 0)
immediates_of F32Shape = operator.F32 0
immediates_of F64Shape = operator.F64 0
immediates_of VectorShape = Bytes (replicate 16 0)
immediates_of LanesShape = Bytes (replicate 16 0)

abbrev one_each : Counts
one_each = record {
  types = 1;
  functions = 1;
  tables = 1;
  memories = 1;
  tags = 1;
  globals = 1;
  elems = 1;
  data_segments = 1;
  locals = 1;
  signature = λ n. Some (record { params = []; results = [] });
  fields = λ n. Some (field_type false types.I8 ∷ []);
}

each_space : (s : Space) → IsIndex one_each s 0
each_space Types = omega arith
each_space Func = omega arith
each_space Table = omega arith
each_space Memory = omega arith
each_space Tag = omega arith
each_space Global = omega arith
each_space Elem = omega arith
each_space Data = omega arith
each_space Local = omega arith
each_space Label = tt

each_shape : (s : Shape) → AreDeclared one_each s (immediates_of s)
each_shape NoneShape = tt
each_shape FenceShape = tt
each_shape BlockShape = tt
each_shape TryTableShape = (tt, (omega arith, (omega arith, (tt, (tt, tt)))))
each_shape (IndexShape space) = each_space space
each_shape (DefaultIndexShape space) = each_space space
each_shape (PairShape first second) = (each_space first, each_space second)
each_shape FieldShape = omega arith
each_shape CountShape = omega arith
each_shape CallShape = (tt, omega arith)
each_shape (SegmentShape segments space) = (each_space segments, each_space space)
each_shape (CopyShape space) = (each_space space, each_space space)
each_shape BranchTableShape = tt
each_shape SelectShape = (tt, (omega arith, tt))
each_shape HeapShape = omega arith
each_shape (RefShape null) = omega arith
each_shape CastShape = (omega arith, tt)
each_shape (MemoryShape natural) = omega arith
each_shape (MemoryLaneShape natural) = omega arith
each_shape LaneShape = tt
each_shape I32Shape = tt
each_shape I64Shape = tt
each_shape F32Shape = tt
each_shape F64Shape = tt
each_shape VectorShape = tt
each_shape LanesShape = tt
